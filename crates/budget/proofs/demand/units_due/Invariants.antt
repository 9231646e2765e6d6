-- Demand of some tasks is summed as defined. The loop's invariant: the sum so far and the demand of the tasks from the present one on make the demand of all, and no task passed asked for more than twice the limit.
use Prim.Native.Nat.{◌+◌, ◌*◌, ◌≤◌}
use mathlib.Core.Bool.{true}
use mathlib.Core.Path.{◌≡◌}
use lib.ListN.{drop}
use Rattle.budget.specs.Demand.{demand}
use Rattle.budget.specs.Limits.{limit}
use Rattle.budget.specs.Task.{valid_tasks}
use Rattle.budget.proofs.demand.units_due.Given as goal

abbrev pub invariant-loop-task : goal.invariant-loop-task
invariant-loop-task l =
    let left = drop l.task-index l.tasks in
    (l.units ≤ l.task-index * (2 * limit)) × (valid_tasks left ≡ true) × (demand l.tasks l.at ≡ l.units + demand left l.at)
