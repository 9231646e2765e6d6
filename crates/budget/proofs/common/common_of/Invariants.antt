-- The common period is worked out task by task. The loop's invariant: what is stored so far, grown by the tasks from the present one on, is that of all.
use mathlib.Core.Path.{◌≡◌}
use lib.ListN.{drop}
use Rattle.budget.specs.Common.{common_of, grown_by}
use Rattle.budget.specs.Task.{tasks_of}
use Rattle.budget.proofs.common.common_of.Given as goal

abbrev pub invariant-loop-task : goal.invariant-loop-task
invariant-loop-task l = common_of l.fn.period.0 (tasks_of l.fn.table) ≡ grown_by l.common (drop l.task-index l.task-items)
