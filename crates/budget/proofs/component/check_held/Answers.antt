-- A component that is handed in is refused as defined: the ranges first, then the stored value.
use mathlib.Core.Path.{sym, ◌∙◌}
use Rattle.std.proofs.lemmas.Result.{err_from_is_err_and}
use Rattle.budget.proofs.Ranges.{in_range, held_range, held_next}
use Rattle.budget.proofs.Refusals.{some}
use Rattle.budget.proofs.component.check_held.Goals as goal

pub returns-in_err-check_ranges : goal.returns-in_err-check_ranges
returns-in_err-check_ranges c =
    let p = err_from_is_err_and c.from_residual.result c.from_residual.ensures.1 in
    let e = c.in_err-check_ranges.ensures in
    rw (p.1, p.2) (e ∙ sym (held_range _ (λ z. some c.in_err-check_ranges.field-0.0 (e ∙ z))))

pub returns-then-is_right : goal.returns-then-is_right
returns-then-is_right c = sym (held_next _ (in_range _ (sym c.in_ok-check_ranges.ensures)) ∙ rw (sym c.is_right.ensures ∙ c.if-is_right.true))

pub returns : goal.returns
returns c = sym (held_next _ (in_range _ (sym c.in_ok-check_ranges.ensures)) ∙ rw (sym c.is_right.ensures ∙ c.if-is_right.false))
