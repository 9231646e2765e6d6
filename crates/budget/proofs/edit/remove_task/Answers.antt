-- Removing a task answers as defined: what the component is refused for when it is handed in, or what is removed of it.
use mathlib.Core.Path.{sym, ◌∙◌}
use Rattle.std.proofs.lemmas.Result.{err_from_is_err_and}
use Rattle.budget.proofs.Edits.{removing_held, removing_taken}
use Rattle.budget.proofs.Ranges.{held}
use Rattle.budget.proofs.Refusals.{some}
use Rattle.budget.proofs.edit.remove_task.Goals as goal

pub returns-in_err-check_held : goal.returns-in_err-check_held
returns-in_err-check_held c =
    let p = err_from_is_err_and c.from_residual.result c.from_residual.ensures.1 in
    rw (p.1, p.2) (sym (removing_held _ _ _ c.in_err-check_held.ensures (some c.in_err-check_held.field-0.0)))

pub removed_at-requires : goal.removed_at-requires
removed_at-requires c = (held _ (sym c.in_ok-check_held.ensures)).0.count

pub returns : goal.returns
returns c =
    let h = held _ (sym c.in_ok-check_held.ensures) in
    c.removed_at.ensures ∙ sym (removing_taken _ _ h.0 h.1)
