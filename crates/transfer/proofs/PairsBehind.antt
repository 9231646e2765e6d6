-- The pairs that are read behind the last component of an accepted sheet are its pairs: the walk took them there up to the end record, and they are no more than the components.
use Prim.Native.Nat.{ℕ, zero, suc, ◌≤◌}
use mathlib.Core.Path.{◌≡◌, refl, ap}
use mathlib.Core.List.{List}
use native.Mathlib.Omega.{arith}
use lib.ListN.{length}
use Rattle.sheet.specs.Check.{check, pairs_of}
use Rattle.sheet.specs.Pairs.{paired}
use Rattle.sheet.specs.Register.{walked, entries_from, register_of}
use Rattle.sheet.proofs.ContentsLaws.{taken, last_edge}
use Rattle.sheet.proofs.HeldLaws.{walked_few, walked_within}
use Rattle.sheet.proofs.PairCounts.{pairs_few}
use Rattle.sheet.proofs.PairLaws.{Passed, passed}
use Rattle.transfer.specs.Pairing.{PairsStandBehind}
use Rattle.transfer.proofs.PairBytes.{pairs_found}

from_long : (s : List ℕ) (n k : ℕ) → length (entries_from s n k) ≡ n
unfolding entries_from
from_long s zero k = refl
from_long s (suc n) k = ap suc (from_long s n (suc k))

module _ (s : List ℕ) where
  -- what the walk over the pairs leaves
  pub walked_pairs : Passed (register_of s) s (walked s).place (paired s)
  unfolding paired
  walked_pairs = passed (register_of s) s (walked s).place (walked_within s)

  few_walked : length (paired s).pairs ≤ 256
  unfolding register_of
  few_walked =
      let h = pairs_few (register_of s) (paired s).pairs walked_pairs.nested in
      let n = from_long s (walked s).count 0 in
      omega (arith, walked_few s)

  pub accepted_pairs : (check s).refusal ≡ 0 → pairs_of s ≡ (paired s).pairs
  unfolding pairs_of
  accepted_pairs e = rw e

pub few_pairs : (s : List ℕ) → (check s).refusal ≡ 0 → length (pairs_of s) ≤ 256
few_pairs s e = rw (accepted_pairs s e) (few_walked s)

pub pairs_stand_behind : PairsStandBehind
pairs_stand_behind s e =
    let w = walked_pairs s in
    rw (last_edge s e, accepted_pairs s e)
    (pairs_found s (register_of s) 256 (paired s).pairs (walked s).place (few_walked s) w.stand (rw w.place at (w.closed (taken s e).pairs)))
