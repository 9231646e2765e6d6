-- The answer to the trace question: refused, no; taken, what the walk says.
use mathlib.Core.Path.{sym, ◌∙◌}
use mathlib.Core.Bool.{false≢true}
use Rattle.std.proofs.lemmas.Result.{err_from_is_err_and}
use Rattle.budget.proofs.Refusals.{some}
use Rattle.trace.proofs.legal.is_legal.Goals as goal

pub returns-in_err-check_trace : goal.returns-in_err-check_trace
returns-in_err-check_trace c =
    let p = err_from_is_err_and c.from_residual.result c.from_residual.ensures.1 in
    let e = c.in_err-check_trace.ensures in
    rw (p.1, p.2) (record { refused = e; yes_exactly = (λ f. absurd (false≢true f), λ h. absurd (some c.in_err-check_trace.field-0.0 (e ∙ h.0))) })

pub returns : goal.returns
returns c =
    let e = c.in_ok-check_trace.ensures in
    let w = c.walk.ensures in
    record { refused = e; yes_exactly = (λ t. (sym e, w.0 t), λ h. w.1 h.1) }
