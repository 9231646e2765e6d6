-- A job, and a list of jobs that is a legal arrival (RULES 9). No limit on their number.
use Rattle.std.specs.Prelude.{ℕ, Bool, true, ◌&&◌, ◌||◌, not, List, [], ◌∷◌, length, get_or, leb, ltb, eqb, ℤ, pos, negsuc, ◌+ℤ◌}
use Rattle.std.specs.Int.Signed.{le_z, lt_z}
use Rattle.budget.specs.declared.task.Task.{Task}
use Rattle.budget.specs.Task.{T, C, D, J, no_task}

-- a job belongs to a task, is released in a slot, which may lie before slot 0, becomes ready in a slot, and asks for some units
pub record Job : Type 0 where
  pub task : ℕ
  pub release : ℤ
  pub ready : ℕ
  pub work : ℕ

-- stands for the job at a place past the list's end
abbrev pub no_job : Job
no_job = record { task = 0; release = pos 0; ready = 0; work = 0 }

-- the task of a job, by its number in the table
unfoldable pub task_of : List Task → Job → Task
task_of ks j = get_or ks j.task no_task

-- a slot or instant as a natural number; one before slot 0 is taken as 0
abbrev pub from_zero : ℤ → ℕ
from_zero (pos n) = n
from_zero (negsuc n) = 0

-- the instant by which a job must be done: D slots after its release, whenever it becomes ready; that of a legal job lies behind slot 0
unfoldable pub deadline : List Task → Job → ℕ
deadline ks j = from_zero (j.release +ℤ pos (D (task_of ks j)))

-- the job becomes ready in its release slot or up to J slots later; never before slot 0, as its readiness is a natural number
unfoldable pub ready_in_time : List Task → Job → Bool
ready_in_time ks j = le_z j.release (pos j.ready) && le_z (pos j.ready) (j.release +ℤ pos (J (task_of ks j)))

-- the job's task is there, its work is at least 1 and at most the task's, and it becomes ready in time
unfoldable pub valid_job : List Task → Job → Bool
valid_job ks j = ltb j.task (length ks) && ((leb 1 j.work && leb j.work (C (task_of ks j))) && ready_in_time ks j)

-- jobs are sorted by release, and those of one release by task
unfoldable pub in_order : Job → Job → Bool
in_order a b = lt_z a.release b.release || (le_z a.release b.release && leb a.task b.task)

-- a job and a later one of the same task are released T slots apart or more
unfoldable pub apart : List Task → Job → Job → Bool
apart ks a b = not (eqb a.task b.task) || le_z (a.release +ℤ pos (T (task_of ks a))) b.release

-- a job and every job after it are in order and apart
unfoldable pub before_all : List Task → Job → List Job → Bool
before_all ks a [] = true
before_all ks a (b ∷ js) = (in_order a b && apart ks a b) && before_all ks a js

-- a legal arrival of jobs
unfoldable pub legal_arrival : List Task → List Job → Bool
legal_arrival ks [] = true
legal_arrival ks (j ∷ js) = valid_job ks j && (before_all ks j js && legal_arrival ks js)
