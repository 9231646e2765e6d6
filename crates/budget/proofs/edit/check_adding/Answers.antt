-- What adding is refused before the stored value is looked at: a full table, then the ranges, then the task.
use mathlib.Core.Path.{sym, ◌∙◌}
use Rattle.std.proofs.lemmas.Result.{err_from_is_err_and}
use Rattle.budget.proofs.Edits.{ranges_full, ranges_out, ranges_task}
use Rattle.budget.proofs.Ranges.{in_range}
use Rattle.budget.proofs.Refusals.{some}
use Rattle.budget.proofs.edit.check_adding.Goals as goal

pub returns-then-component-ge-MOST : goal.returns-then-component-ge-MOST
returns-then-component-ge-MOST c = sym (ranges_full _ _ c.if-component-ge-MOST.true)

pub returns-in_err-check_ranges : goal.returns-in_err-check_ranges
returns-in_err-check_ranges c =
    let p = err_from_is_err_and c.from_residual.result c.from_residual.ensures.1 in
    let e = c.in_err-check_ranges.ensures in
    rw (p.1, p.2) (e ∙ sym (ranges_out _ _ c.if-component-ge-MOST.false (λ z. some c.in_err-check_ranges.field-0.0 (e ∙ z))))

pub returns : goal.returns
returns c = c.check_task.ensures ∙ sym (ranges_task _ _ c.if-component-ge-MOST.false (in_range _ (sym c.in_ok-check_ranges.ensures)))
