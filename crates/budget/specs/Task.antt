-- A task (T, C, D, J) and a table of tasks (RULES 2).
use Rattle.std.specs.Prelude.{ℕ, ◌+◌, ◌-◌, Bool, true, cond, ◌&&◌, List, [], ◌∷◌, ◌++◌, length, take, set, replicate, leb, ltb}
use Rattle.budget.specs.declared.task.Task.{Task}
use Rattle.budget.specs.declared.task.Table.{Table}
use Rattle.budget.specs.Limits.{limit, most_tasks}
use Rattle.budget.specs.Refusal as refusal

-- T, C, D and J of a task
abbrev pub T : Task → ℕ
T k = k.period.0

abbrev pub C : Task → ℕ
C k = k.work.0

abbrev pub D : Task → ℕ
D k = k.deadline.0

abbrev pub J : Task → ℕ
J k = k.lateness.0

-- the slots from the latest readiness of a job to its deadline: J of the D slots behind its release may pass before it can be served
abbrev pub span : Task → ℕ
span k = D k - J k

-- the range of a task: a work of at least 1, no longer than the deadline, which is no longer than the period; and a lateness that leaves room
-- for the work before the deadline
unfoldable pub valid_task : Task → Bool
valid_task k = leb 1 (C k) && (leb (C k) (D k) && (leb (D k) (T k) && (leb (T k) limit && leb (J k) (D k - C k))))

unfoldable pub task_refusal : Task → ℕ
task_refusal k = cond (valid_task k) refusal.none refusal.range

unfoldable pub valid_tasks : List Task → Bool
valid_tasks [] = true
valid_tasks (k ∷ ks) = valid_task k && valid_tasks ks

-- the task (0, 0, 0, 0), which fills the places from the count on
abbrev pub no_task : Task
no_task = record { period = record { 0 = 0 }; work = record { 0 = 0 }; deadline = record { 0 = 0 }; lateness = record { 0 = 0 } }

-- a table's tasks are its first `count` places; what stands behind them means nothing
unfoldable pub tasks_of : Table → List Task
tasks_of t = take t.count t.tasks

-- the one table that is handed back for these tasks, with zeros behind them
unfoldable pub table_of : List Task → Table
table_of ks = record { count = length ks; tasks = ks ++ replicate (most_tasks - length ks) no_task }

-- the table with one task more, at the place of its count; a full table stays as it is
unfoldable pub appended : Table → Task → Table
appended t k = cond (ltb t.count most_tasks) (record { count = t.count + 1; tasks = set t.tasks t.count k }) t

-- a table is refused with 6 if it has more than 64 tasks, then with 9 if a number of a task is outside its range
unfoldable pub table_refusal : Table → ℕ
table_refusal t = cond (ltb most_tasks t.count) refusal.tasks (cond (valid_tasks (tasks_of t)) refusal.none refusal.range)
