-- Service by any rule, for the part of demand 3 that holds whatever the order of service: some jobs are urgent, and the rule never leaves a
-- unit idle, nor gives it to another job, while an urgent one waits.
use Rattle.std.specs.Prelude.{ℕ, suc, ◌+◌, ◌-◌, ◌<◌, Bool, true, cond, ◌&&◌, List, [], ◌∷◌, ◌≡◌, length, get_or, leb, ltb, eqb}
use Rattle.budget.specs.declared.task.Task.{Task}
use Rattle.run.specs.Job.{Job, deadline, no_job}
use Rattle.run.specs.Order.{waits}
use Rattle.run.specs.Run.{Rule, left_by}
use Rattle.trace.specs.Units.{units}

-- a unit that is not idle goes to a job that waits
abbrev pub ServedWaits : List Job → Rule → Type 0
ServedWaits js rule =
    (n : ℕ) (left : List ℕ) → rule n left < length js → waits n (get_or js (rule n left) no_job) (get_or left (rule n left) 0) ≡ true

pub record UrgentFirst (urgent : Job → Bool) (js : List Job) (rule : Rule) : Type 0 where
  pub waiting : ServedWaits js rule
  -- while an urgent job waits, the unit is not idle and goes to an urgent one
  pub busy : (n : ℕ) (left : List ℕ) (q : ℕ) → q < length js → urgent (get_or js q no_job) ≡ true
      → waits n (get_or js q no_job) (get_or left q 0) ≡ true → rule n left < length js
  pub first : (n : ℕ) (left : List ℕ) (q : ℕ) → q < length js → urgent (get_or js q no_job) ≡ true
      → waits n (get_or js q no_job) (get_or left q 0) ≡ true → urgent (get_or js (rule n left) no_job) ≡ true

-- the urgent jobs of an instant under earliest deadline first: those with a deadline at or before it
unfoldable pub due_by : List Task → ℕ → Job → Bool
due_by ks t j = leb (deadline ks j) t

-- the work of the jobs that pass a test, and the work left of them
unfoldable pub work_of : (Job → Bool) → List Job → ℕ
work_of p [] = 0
work_of p (j ∷ js) = cond (p j) j.work 0 + work_of p js

unfoldable pub left_of : (Job → Bool) → List Job → List ℕ → ℕ
left_of p [] left = 0
left_of p (j ∷ js) [] = 0
left_of p (j ∷ js) (w ∷ left) = cond (p j) w 0 + left_of p js left

-- the unit of slot n
abbrev pub unit_of : List ℕ → ℕ → ℕ
unit_of s n = get_or s n 0

-- the urgent work that becomes ready in slot n, and the urgent work left at instant n of jobs that were ready before it
unfoldable pub asked : (Job → Bool) → List Job → ℕ → ℕ
asked urgent js n = work_of (λ j. eqb j.ready n && urgent j) js

unfoldable pub waiting_at : (Job → Bool) → Rule → List Job → List ℕ → ℕ → ℕ
waiting_at urgent rule js s n = left_of (λ j. ltb j.ready n && urgent j) js (left_by rule js s n)

-- work that is left at each instant, where `work` arrives and `unit` is given in each slot: none at 0, and no unit is lost while some is left
pub record Flow (left work unit : ℕ → ℕ) : Type 0 where
  pub begins : left 0 ≡ 0
  pub goes : (n : ℕ) → left (suc n) ≡ work n + left n - unit n

-- a window that ends at instant n, in which the units given and the work left at its end are the work that arrived
pub record Window (left work unit : ℕ → ℕ) (n : ℕ) : Type 0 where
  pub start : ℕ
  pub slots : ℕ
  pub ends : start + slots ≡ n
  pub balance : left n + units unit start slots ≡ units work start slots
