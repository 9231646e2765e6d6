-- Of a component whose stored value is right the common period is answered as defined: the ranges first, then what it stores says it.
use mathlib.Core.Path.{sym, ◌∙◌}
use Rattle.std.proofs.lemmas.Result.{err_from_is_err_and}
use Rattle.budget.proofs.Periods.{refused_answer, stored_answer_lem}
use Rattle.budget.proofs.Ranges.{in_range, refused_range}
use Rattle.budget.proofs.Refusals.{some}
use Rattle.budget.proofs.known.common_period.Goals as goal

pub returns-in_err-check_ranges : goal.returns-in_err-check_ranges
returns-in_err-check_ranges c =
    let p = err_from_is_err_and c.from_residual.result c.from_residual.ensures.1 in
    let e = c.in_err-check_ranges.ensures in
    let h = some c.in_err-check_ranges.field-0.0 in
    rw (p.1, p.2) (refused_answer _ _ (refused_range _ (λ z. h (e ∙ z)) ∙ sym e) h)

pub returns : goal.returns
returns c = c.stored.ensures ∙ stored_answer_lem _ (in_range _ (sym c.in_ok-check_ranges.ensures)) c.args.known.right
