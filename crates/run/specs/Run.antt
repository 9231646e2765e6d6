-- The run, begun with no work waiting: the work left of each job at each instant, and a miss (RULES 9). No limit on jobs or slots.
use Rattle.std.specs.Prelude.{ℕ, zero, suc, ◌-◌, ◌<◌, cond, List, map, ◌≡◌, length, get_or, set, eqb}
use Rattle.budget.specs.declared.task.Task.{Task}
use Rattle.run.specs.Job.{Job, deadline, no_job}
use Rattle.run.specs.Order.{goes_before, next_by}

-- a rule of service: the place of the job that the supplied slot n serves, by the work left of each job; the unit is idle where no job
-- stands at that place
abbrev pub Rule : Type 0
Rule = ℕ → List ℕ → ℕ

-- the unit goes to the job at that place: its work left falls by one; no work falls where no job stands there
unfoldable pub serve : List ℕ → ℕ → List ℕ
serve left p = set left p (get_or left p 0 - 1)

-- what slot n with trace byte b makes of the work left, where the rule serves
unfoldable pub slot_by : Rule → ℕ → ℕ → List ℕ → List ℕ
slot_by rule n b left = cond (eqb b 0) left (serve left (rule n left))

-- the work left of each job at instant n, in the list's order, on the trace s
unfoldable pub left_by : Rule → List Job → List ℕ → ℕ → List ℕ
left_by rule js s zero = map (λ j. j.work) js
left_by rule js s (suc n) = slot_by rule n (get_or s n 0) (left_by rule js s n)

-- a miss at t: a job whose deadline is t has work left then; the run reaches instant t if the trace has as many slots
pub record MissBy (rule : Rule) (ks : List Task) (js : List Job) (s : List ℕ) (t : ℕ) : Type 0 where
  pub place : ℕ
  pub inside : place < length js
  pub due : deadline ks (get_or js place no_job) ≡ t
  pub late : 0 < get_or (left_by rule js s t) place 0

-- the run of the rules: earliest deadline first
abbrev pub earliest_deadline : List Task → List Job → Rule
earliest_deadline ks js = next_by (goes_before ks) js

abbrev pub slot : List Task → List Job → ℕ → ℕ → List ℕ → List ℕ
slot ks js n b left = slot_by (earliest_deadline ks js) n b left

abbrev pub left_at : List Task → List Job → List ℕ → ℕ → List ℕ
left_at ks js s n = left_by (earliest_deadline ks js) js s n

abbrev pub MissAt : List Task → List Job → List ℕ → ℕ → Type 0
MissAt ks js s t = MissBy (earliest_deadline ks js) ks js s t
