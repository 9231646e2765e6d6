-- Which job a supplied slot serves, said of the place itself: the job there waits and no job that waits goes before it; the unit is idle
-- only where none waits (RULES 9).
use Rattle.std.specs.Prelude.{ℕ, ◌≤◌, ◌<◌, true, false, List, ◌≡◌, length, get_or}
use Rattle.budget.specs.declared.task.Task.{Task}
use Rattle.budget.specs.Task.{valid_tasks}
use Rattle.run.specs.Job.{Job, legal_arrival, no_job}
use Rattle.run.specs.Order.{Order, goes_before, next, waits}

-- slot n serves the job at place p, or none where p is the count of jobs
pub record Serves (before : Order) (n : ℕ) (js : List Job) (left : List ℕ) (p : ℕ) : Type 0 where
  pub place : p ≤ length js
  pub waiting : p < length js → waits n (get_or js p no_job) (get_or left p 0) ≡ true
  pub first : (q : ℕ) → q < length js → waits n (get_or js q no_job) (get_or left q 0) ≡ true → before (get_or js q no_job) (get_or js p no_job) ≡ false
  pub idle : p ≡ length js → (q : ℕ) → q < length js → waits n (get_or js q no_job) (get_or left q 0) ≡ true → ⊥

abbrev pub SlotServes : Type 0
SlotServes = (ks : List Task) (n : ℕ) (js : List Job) (left : List ℕ) → Serves (goes_before ks) n js left (next ks n js left)

-- in a legal arrival no other place is so
abbrev pub OneServed : Type 0
OneServed =
    (ks : List Task) (js : List Job) → valid_tasks ks ≡ true → legal_arrival ks js ≡ true → (n : ℕ) (left : List ℕ) (p q : ℕ)
    → Serves (goes_before ks) n js left p → Serves (goes_before ks) n js left q → p ≡ q
