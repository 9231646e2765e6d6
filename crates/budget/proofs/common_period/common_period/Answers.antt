-- A component's common period is answered as defined: what it is refused for when it is handed in comes first, then what it stores says it.
use mathlib.Core.Path.{sym, ◌∙◌}
use Rattle.std.proofs.lemmas.Result.{err_from_is_err_and}
use Rattle.budget.proofs.Periods.{refused_answer, stored_answer_lem}
use Rattle.budget.proofs.Ranges.{held, refused_held}
use Rattle.budget.proofs.Refusals.{some}
use Rattle.budget.proofs.common_period.common_period.Goals as goal

pub returns-in_err-check_held : goal.returns-in_err-check_held
returns-in_err-check_held c =
    let p = err_from_is_err_and c.from_residual.result c.from_residual.ensures.1 in
    let e = c.in_err-check_held.ensures in
    let h = some c.in_err-check_held.field-0.0 in
    rw (p.1, p.2) (refused_answer _ _ (refused_held _ (λ z. h (e ∙ z)) ∙ sym e) h)

pub returns : goal.returns
returns c =
    let h = held _ (sym c.in_ok-check_held.ensures) in
    c.stored.ensures ∙ stored_answer_lem _ h.0 h.1
