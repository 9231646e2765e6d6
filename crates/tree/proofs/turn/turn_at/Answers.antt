-- With a place in the row each part is what its function ensures, and the offer is set where its four numbers stand in the row of numbers.
use Prim.Native.Nat.{◌*◌}
use mathlib.Core.Path.{sym, subst, ap, ◌∙◌}
use lib.Seq.{sets}
use Rattle.budget.specs.declared.component.Component.{Component}
use Rattle.tree.specs.numbers.Offer.{Offer}
use Rattle.tree.specs.Offer.{noted, offer_of, row_in}
use Rattle.tree.specs.inner.Told.{Told}
use Rattle.tree.specs.Outcome.{outcome_in}
use Rattle.tree.proofs.Accepted.{told}
use Rattle.tree.proofs.OfferLaws.{row_before, row_set}
use Rattle.tree.proofs.turn.turn_at.Goals as goal

pub offer_of-requires : goal.offer_of-requires
offer_of-requires c = subst Told (sym c.judge_next-outcome.ensures) (told _)

pub returns-clause-turned : goal.returns-clause-turned
returns-clause-turned c =
    let a = c.args in
    let read = c.read_at-known.ensures in
    λ room. record {
      number = ap (λ (x : Component). x.number) read;
      outcome = rw (row_before a.place a.offers.now, ← read) c.judge_next-outcome.ensures;
      row =
          row_set a.place a.offers.now c.offer_of.result room
          ∙ ap (λ (o : Offer). sets (row_in a.offers.now) (4 * a.place) (noted o))
          (c.offer_of.ensures ∙ ap (λ (x : Component). offer_of x (outcome_in c.judge_next-outcome.result)) read);
    }
