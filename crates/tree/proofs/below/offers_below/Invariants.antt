-- The loop's invariant: the row holds the offers of the components before the place reached.
use mathlib.Core.List.{map}
use mathlib.Core.Path.{◌≡◌}
use lib.ListN.{length, take}
use Rattle.tree.specs.Offer.{offered_in}
use Rattle.tree.specs.inner.Below.{offers_below}
use Rattle.transfer.specs.ReadAt.{read_at}
use Rattle.tree.proofs.below.offers_below.Given as goal

abbrev pub invariant-loop-k : goal.invariant-loop-k
invariant-loop-k l =
    record {
      places : length l.offers ≡ 256;
      held : map offered_in (take l.k l.offers) ≡ offers_below l.wanted l.pass.pairs.now (read_at l.pass.sheet.now l.pass.edges.now) l.k;
    }
