-- Tasks are refused as defined. The loop's invariant: what is left to check from the present task on decides for all.
use mathlib.Core.Path.{◌≡◌}
use lib.ListN.{drop}
use Rattle.budget.specs.Task.{valid_tasks}
use Rattle.budget.proofs.task.check_tasks.Given as goal

abbrev pub invariant-loop-task : goal.invariant-loop-task
invariant-loop-task l = valid_tasks l.tasks ≡ valid_tasks (drop l.task-index l.tasks)
