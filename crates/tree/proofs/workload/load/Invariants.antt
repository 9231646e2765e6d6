-- The loop's invariant: what is gathered from the pairs gone through, with its common period, and those from the next on, make the whole workload.
use mathlib.Core.List.{map}
use mathlib.Core.Path.{◌≡◌}
use lib.ListN.{drop}
use Rattle.tree.specs.Offer.{offered_in}
use Rattle.tree.proofs.WorkloadLaws.{Gathering}
use Rattle.tree.proofs.workload.load.Given as goal

abbrev pub invariant-loop-pair : goal.invariant-loop-pair
invariant-loop-pair l =
    record {
      gathered : Gathering l.pairs (drop l.pair-index l.pairs) (map offered_in l.offers) l.component l.loaded.table l.loaded.common;
      same : l.loaded ≡ record l.component { common = l.loaded.common; table = l.loaded.table };
    }
