-- An order of service, and the job that it serves: of those that wait in a slot, the one that goes before the others (RULES 9).
use Rattle.std.specs.Prelude.{ℕ, suc, Bool, cond, not, ◌&&◌, ◌||◌, List, [], ◌∷◌, length, get_or, leb, ltb, eqb}
use Rattle.budget.specs.declared.task.Task.{Task}
use Rattle.run.specs.Job.{Job, deadline, no_job}

-- a job waits in slot n: it is ready and has work left
unfoldable pub waits : ℕ → Job → ℕ → Bool
waits n j left = leb j.ready n && ltb 0 left

-- an order of service: whether the one of two jobs goes before the other
abbrev pub Order : Type 0
Order = Job → Job → Bool

-- a job that waits at the head of the list is the one to serve if none waits behind it (p is then the count of those behind) or the
-- one that is first of those behind, at p, does not go before it
unfoldable pub head_first : Order → ℕ → Job → ℕ → List Job → ℕ → Bool
head_first before n j left js p = waits n j left && (leb (length js) p || not (before (get_or js p no_job) j))

-- the place of the job that a supplied slot n serves: the waiting one that goes before all others that wait; the count of jobs where none waits
unfoldable pub next_by : Order → List Job → ℕ → List ℕ → ℕ
next_by before [] n left = 0
next_by before (j ∷ js) n [] = suc (length js)
next_by before (j ∷ js) n (w ∷ left) =
    let p = next_by before js n left in
    cond (head_first before n j w js p) 0 (suc p)

-- an order by a number of each job: the least goes first, and of equal ones the job of the lower task
unfoldable pub least_first : (Job → ℕ) → Order
least_first key a b = ltb (key a) (key b) || (eqb (key a) (key b) && ltb a.task b.task)

-- the rules' order: earliest deadline first
abbrev pub goes_before : List Task → Order
goes_before ks = least_first (deadline ks)

abbrev pub next : List Task → ℕ → List Job → List ℕ → ℕ
next ks n js left = next_by (goes_before ks) js n left
