-- `judge::capacity::smallest_capacity` meets its contract: the refusal of the common period asked for, or what the walk up to L finds.
use mathlib.Core.Path.{refl}
use Rattle.std.proofs.lemmas.Result.{err_from_is_err_and}
use Rattle.budget.proofs.Refusals.{some}
use Rattle.judge.proofs.AnswerLaws.{refused_capacity, given_capacity}
use Rattle.judge.proofs.Whole.{refused, whole}
use Rattle.judge.proofs.capacity.smallest_capacity.Goals as goal

pub returns-in_err-length : goal.returns-in_err-length
returns-in_err-length c =
    let p = err_from_is_err_and c.from_residual.result c.from_residual.ensures.1 in
    rw (p.1, p.2) (refused_capacity _ _ (refused _ _ c.in_err-length.ensures) (some c.in_err-length.field-0.0))

pub invariant_of-least_capacity : goal.invariant_of-least_capacity
invariant_of-least_capacity c = record { whole = whole _ _ c.in_ok-length.ensures refl }

pub returns : goal.returns
returns c = given_capacity _ _ (whole _ _ c.in_ok-length.ensures refl).passes c.least_capacity.ensures
