-- The loop's invariant: the row holds the offers of the components before the place reached.
use mathlib.Core.List.{List, [], ◌∷◌, ◌++◌, map}
use mathlib.Core.Path.{refl, sym, ap, ◌∙◌}
use native.Mathlib.Omega.{arith}
use lib.ListN.{length-set, take}
use Rattle.std.proofs.lemmas.List.{map_push, take_more_set}
use Rattle.transfer.specs.ReadAt.{read_at}
use Rattle.tree.specs.numbers.Offer.{Offer}
use Rattle.tree.specs.Offer.{offered_in}
use Rattle.tree.specs.inner.Below.{offers_below}
use Rattle.tree.proofs.BelowLaws.{offers_next}
use Rattle.tree.proofs.below.offers_below.Goals as goal

pub loop-k-init : goal.loop-k-init
unfolding offers_below
loop-k-init c = record { places = refl; held = refl }

pub loop-k-preserved : goal.loop-k-preserved
loop-k-preserved c =
    let l = c.loop-k in
    let a = c.args in
    let o = c.offer_at-offer.result in
    let held = l.invariant.held in
    record {
      places = length-set l.offers l.k o ∙ l.invariant.places;
      held =
          ap (map offered_in) (take_more_set l.offers l.k o (omega (arith, l.invariant.places)))
          ∙ (map_push offered_in (take l.k l.offers) o
          ∙ (ap (λ (os : List Offer). os ++ (offered_in o ∷ [])) held
          ∙ sym (offers_next a.wanted.now a.pass.pairs.now (read_at a.pass.sheet.now a.pass.edges.now) l.k _ held _ c.offer_at-offer.ensures)));
    }
