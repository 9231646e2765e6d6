-- What the rules of releases and readiness come to (RULES 9), of every legal arrival: the deadline as a natural number loses nothing, only the
-- first job of a task can be released before slot 0, and without lateness a job is ready when it is released.
use Rattle.std.specs.Prelude.{ℕ, ◌<◌, true, List, ◌≡◌, pos, ◌+ℤ◌, length, get_or}
use Rattle.std.specs.Int.Signed.{le_z}
use Rattle.budget.specs.declared.task.Task.{Task}
use Rattle.budget.specs.Task.{D, J, valid_tasks}
use Rattle.run.specs.Job.{Job, deadline, legal_arrival, no_job, task_of}

-- one job: its deadline lies exactly D slots behind its release, and behind its readiness; its release lies at most J slots before slot 0; and
-- where its task has J = 0 it is ready in the slot of its release
pub record Placed (ks : List Task) (j : Job) : Type 0 where
  pub exact : j.release +ℤ pos (D (task_of ks j)) ≡ pos (deadline ks j)
  pub ready_before : j.ready < deadline ks j
  pub not_earlier : le_z (pos 0) (j.release +ℤ pos (J (task_of ks j))) ≡ true
  pub punctual : J (task_of ks j) ≡ 0 → j.release ≡ pos j.ready

abbrev pub JobsPlaced : Type 0
JobsPlaced =
    (ks : List Task) → valid_tasks ks ≡ true → (js : List Job) → legal_arrival ks js ≡ true → (q : ℕ) → q < length js → Placed ks (get_or js q no_job)

-- a job that stands behind another one of its task is released in slot 1 or later
abbrev pub OnlyFirstEarly : Type 0
OnlyFirstEarly =
    (ks : List Task) → valid_tasks ks ≡ true → (js : List Job) → legal_arrival ks js ≡ true → (p q : ℕ) → p < q → q < length js
    → (get_or js p no_job).task ≡ (get_or js q no_job).task → le_z (pos 1) (get_or js q no_job).release ≡ true
