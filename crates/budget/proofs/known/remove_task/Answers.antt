-- Removing a task of a component whose stored value is right answers as defined: what the ranges are refused for, or what is removed of it.
use mathlib.Core.Path.{sym, ◌∙◌, ap}
use Rattle.std.proofs.lemmas.Result.{err_from_is_err_and}
use Rattle.budget.specs.Edit.{Edited}
use Rattle.budget.proofs.EditRight.{removed_right}
use Rattle.budget.proofs.Edits.{removing_ranges, removing_taken}
use Rattle.budget.proofs.Ranges.{in_range}
use Rattle.budget.proofs.Refusals.{some}
use Rattle.budget.proofs.known.remove_task.Goals as goal

pub returns-in_err-check_ranges : goal.returns-in_err-check_ranges
returns-in_err-check_ranges c =
    let p = err_from_is_err_and c.from_residual.result c.from_residual.ensures.1 in
    rw (p.1, p.2) (sym (removing_ranges _ _ _ c.in_err-check_ranges.ensures (some c.in_err-check_ranges.field-0.0)))

pub removed_at-requires : goal.removed_at-requires
removed_at-requires c = (in_range _ (sym c.in_ok-check_ranges.ensures)).count

pub returns-in_err-component : goal.returns-in_err-component
returns-in_err-component c =
    let p = err_from_is_err_and c.from_residual-in_err-component.result c.from_residual-in_err-component.ensures.1 in
    rw (p.1, p.2) (c.in_err-component.ensures ∙ sym (removing_taken _ _ (in_range _ (sym c.in_ok-check_ranges.ensures)) c.args.known.right))

pub returns : goal.returns
returns c = c.in_ok-component.ensures ∙ sym (removing_taken _ _ (in_range _ (sym c.in_ok-check_ranges.ensures)) c.args.known.right)

pub invariant_of-result : goal.invariant_of-result
invariant_of-result c = record { right = rw (ap (λ (a : Edited). a.component) c.in_ok-component.ensures) (removed_right _ _) }
