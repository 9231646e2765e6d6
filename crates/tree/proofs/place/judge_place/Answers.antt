-- Refused as what is loaded; else the outcome of its load.
use mathlib.Core.Path.{refl}
use Rattle.std.proofs.lemmas.Result.{err_from_is_err_and}
use Rattle.budget.proofs.Refusals.{some}
use Rattle.tree.proofs.PlaceLaws.{judged_refused, judged_found}
use Rattle.tree.proofs.place.judge_place.Goals as goal

pub returns-in_err-found : goal.returns-in_err-found
returns-in_err-found c =
    let p = err_from_is_err_and c.from_residual.result c.from_residual.ensures.1 in
    rw (p.1, p.2) (judged_refused c.args.sheet.now c.args.place _ c.in_err-found.ensures (some c.in_err-found.field-0.0.refusal))

pub returns : goal.returns
returns c = judged_found c.args.sheet.now c.args.place _ c.in_ok-found.ensures refl _ c.outcome_of.ensures
