-- Adding a task answers as defined: the refusals in turn, that of the stored value last, or the component with the task.
use mathlib.Core.Path.{sym, ◌∙◌}
use Rattle.std.proofs.lemmas.Result.{err_from_is_err_and}
use Rattle.budget.proofs.CommonLaws.{right}
use Rattle.budget.proofs.Edits.{adding_refused, adding_room, adding_wrong, adding_given}
use Rattle.budget.proofs.Refusals.{some}
use Rattle.budget.proofs.edit.add_task.Goals as goal

pub returns-in_err-check_adding : goal.returns-in_err-check_adding
returns-in_err-check_adding c =
    let p = err_from_is_err_and c.from_residual.result c.from_residual.ensures.1 in
    rw (p.1, p.2) (sym (adding_refused _ _ _ c.in_err-check_adding.ensures (some c.in_err-check_adding.field-0.0)))

pub added-requires : goal.added-requires
added-requires c = (adding_room _ _ (sym c.in_ok-check_adding.ensures), right _ (sym c.is_right.ensures ∙ c.if-is_right.true))

pub returns-then-is_right : goal.returns-then-is_right
returns-then-is_right c =
    rw c.added.ensures (sym (adding_given _ _ (sym c.in_ok-check_adding.ensures) (right _ (sym c.is_right.ensures ∙ c.if-is_right.true))))

pub returns : goal.returns
returns c = sym (adding_wrong _ _ (sym c.in_ok-check_adding.ensures) (sym c.is_right.ensures ∙ c.if-is_right.false))
