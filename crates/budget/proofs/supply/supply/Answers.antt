-- Supply answers as defined: the refusal met first, or the supply of an interface that is in range.
use mathlib.Core.Bool.{true}
use Prim.Native.Nat.{ℕ, ◌≤◌}
use mathlib.Core.Path.{◌≡◌, sym, ap, ◌∙◌}
use Rattle.std.proofs.lemmas.Result.{err_from_is_err_and}
use Rattle.budget.specs.declared.interface.Interface.{Interface}
use Rattle.budget.specs.Interface.{interface_refusal, valid_interface}
use Rattle.budget.specs.Limits.{limit}
use Rattle.budget.specs.Refusal as refusal
use Rattle.budget.specs.Supply.{supply, supply_refusal, supply_answer}
use Rattle.budget.proofs.Answers.{passed, at_instant, instant_passed, answer_refused, supply_given}
use Rattle.budget.proofs.Refusals.{some}
use Rattle.budget.proofs.supply.supply.Goals as goal
use Rattle.budget.proofs.supply.supply.Goals.{In_ok-check_instant}

valid : (i : Interface) → refusal.none ≡ interface_refusal i → valid_interface i ≡ true
unfolding interface_refusal
valid i e = passed (valid_interface i) (sym e)

pub returns-in_err-check_instant : goal.returns-in_err-check_instant
unfolding supply_answer supply_refusal
returns-in_err-check_instant c =
    let p = err_from_is_err_and c.from_residual.result c.from_residual.ensures.1 in
    rw (p.1, p.2)
    (answer_refused _ (supply_refusal c.args.interface c.args.t.0) (supply c.args.interface c.args.t.0)
    (c.in_err-check_instant.ensures ∙ ap (λ (n : ℕ). at_instant n c.args.t.0) c.check_interface.ensures)
    (some c.in_err-check_instant.field-0.0))

-- where there is none, neither what is asked about nor the instant is refused
known : (c : In_ok-check_instant) → (valid_interface c.args.interface ≡ true) × (c.args.t.0 ≤ limit)
known c =
    let p = instant_passed _ _ (sym c.in_ok-check_instant.ensures) in
    (valid _ (sym p.0 ∙ c.check_interface.ensures), p.1)

pub units_by-requires : goal.units_by-requires
units_by-requires c = let k = known (goal.at.units_by-requires c).In_ok-check_instant in record { in_range = k.0; in_time = k.1 }

pub returns : goal.returns
returns c = let k = known (goal.at.returns c).In_ok-check_instant in rw c.units_by.ensures (sym (supply_given _ _ k.0 k.1))
