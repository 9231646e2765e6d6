-- The common period is worked out task by task: one more is the one at the place, and at the end none is left.
use mathlib.Core.Path.{sym, ◌∙◌, ap}
use lib.ListN.{drop_of_length-le}
use Rattle.budget.specs.Common.{common_of, grown_by}
use Rattle.budget.proofs.Places.{from_place}
use Rattle.budget.proofs.common.common_of.Goals as goal

pub loop-task-init : goal.loop-task-init
unfolding common_of
loop-task-init c = rw (c.capped-common.ensures, c.tasks-task-items.ensures)

pub loop-task-preserved : goal.loop-task-preserved
unfolding grown_by
loop-task-preserved c =
    rw c.grow-common.ensures
    (c.loop-task.invariant ∙ ap (grown_by c.loop-task.common) (from_place c.tasks-task-items.result.now _ c.loop-task-test.true))

pub returns : goal.returns
unfolding grown_by
returns c = sym (c.loop-task.invariant ∙ rw (drop_of_length-le c.tasks-task-items.result.now {i = c.loop-task.task-index} c.loop-task-test.false))
