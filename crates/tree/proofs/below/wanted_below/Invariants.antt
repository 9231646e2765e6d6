-- The loop's invariant: what the pairs behind those gone through make wanted is wanted.
use Prim.Native.Nat.{◌+◌, ◌-◌, ◌≤◌}
use mathlib.Core.Path.{◌≡◌}
use lib.ListN.{length, drop}
use Rattle.tree.specs.inner.Below.{wanted_of}
use Rattle.tree.proofs.below.wanted_below.Given as goal

abbrev pub invariant-loop-pair : goal.invariant-loop-pair
invariant-loop-pair l =
    record {
      few : length l.wanted ≤ length l.yielded + 1;
      below : l.wanted ≡ wanted_of (drop (length l.pairs - length l.yielded) l.pairs) l.number;
    }
