-- `judge::supplied::units_at` meets its contract: within the limits the supply is answered.
use mathlib.Core.Path.{sym, ◌∙◌, ap, subst}
use borrow.Author.Rules.{rules}
use Rattle.std.specs.Prelude.{Ok}
use Rattle.std.specs.Result.{IsOk}
use Rattle.budget.specs.Answered.{Amount, amount_in}
use Rattle.budget.proofs.Answers.{supply_given}
use Rattle.budget.proofs.Refusals.{amounts_apart}
use Rattle.judge.proofs.supplied.units_at.Goals as goal

pub unwrap-requires : goal.unwrap-requires
unwrap-requires c =
    let e = amounts_apart c.supply.result (Ok _) (c.supply.ensures ∙ supply_given _ _ c.requires.interface c.requires.bounded) in
    subst (λ r. IsOk r) (sym e) (search rules)

pub returns : goal.returns
returns c =
    ap (λ (a : Amount). a.units.0)
    (ap (λ r. amount_in r) (sym c.unwrap.ensures) ∙ c.supply.ensures ∙ supply_given _ _ c.requires.interface c.requires.bounded)
