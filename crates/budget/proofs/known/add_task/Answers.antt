-- Adding a task to a component whose stored value is right answers as defined: the refusals of the ranges, or the component with the task.
use mathlib.Core.Path.{sym}
use Rattle.std.proofs.lemmas.Result.{err_from_is_err_and}
use Rattle.budget.proofs.CommonLaws.{with_tasks_right}
use Rattle.budget.proofs.Edits.{adding_refused, adding_room, adding_given}
use Rattle.budget.proofs.Refusals.{some}
use Rattle.budget.proofs.known.add_task.Goals as goal

pub returns-in_err-check_adding : goal.returns-in_err-check_adding
returns-in_err-check_adding c =
    let p = err_from_is_err_and c.from_residual.result c.from_residual.ensures.1 in
    rw (p.1, p.2) (sym (adding_refused _ _ _ c.in_err-check_adding.ensures (some c.in_err-check_adding.field-0.0)))

pub added-requires : goal.added-requires
added-requires c = (adding_room _ _ (sym c.in_ok-check_adding.ensures), c.args.known.right)

pub returns : goal.returns
returns c = rw c.added.ensures (sym (adding_given _ _ (sym c.in_ok-check_adding.ensures) c.args.known.right))

pub invariant_of-result : goal.invariant_of-result
invariant_of-result c = record { right = rw c.added.ensures (with_tasks_right _ _) }
