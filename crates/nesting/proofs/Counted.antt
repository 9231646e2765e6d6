-- What a trace counts from slot f on, cut from slots that give at most 1: at least what they give, also where the trace has ended and counts 1.
use Prim.Native.Nat.{ℕ, ◌+◌, ◌≤◌, ◌<◌}
use mathlib.Core.Path.{◌≡◌, ap, ◌∙◌, sym}
use lib.ListN.{length, get_or, drop, length-drop, get_or-eq_default}
use lib.Seq.{get_or-drop}
use native.Mathlib.Decide.{dec_lt}
use native.Mathlib.Nat.{le_of_eq, zero-add}
use native.Mathlib.Omega.{arith}
use Rattle.trace.specs.Legal.{counted}
use Rattle.trace.specs.Units.{units}
use Rattle.trace.specs.WorstTrace.{slots}
use Rattle.trace.proofs.Periods.{counted_after, counted_at}
use Rattle.trace.proofs.Units.{units_le}
use Rattle.trace.proofs.WorstTrace.{slots_at, slots_length}

-- a slot that is not 0 is one that gives
pub slot_gives : (g : ℕ → ℕ) (n m : ℕ) → 0 < get_or (slots g 0 n) m 0 → 0 < g m
slot_gives g n m h = go (dec_lt m n)
  where
    go : Dec (m < n) → 0 < g m
    go (yes l) = rw (slots_at g 0 n m 0 l, zero-add) at h
    go (no l) = absurd (omega (arith, get_or-eq_default (slots g 0 n) 0 {n = m} (omega (arith, slots_length g 0 n))))

module _ (g h : ℕ → ℕ) (n f : ℕ) (one : (m : ℕ) → h m ≤ 1) (same : (m : ℕ) → m < n → h m ≡ g m) where
  counted_place : (x y : ℕ) → f + y ≡ x → Dec (x < n) → h x ≤ counted 0 (drop f (slots g 0 n)) y
  counted_place x y e (yes l) =
      le_of_eq
      (same x l
      ∙ ap g (sym e ∙ sym (zero-add (f + y)))
      ∙ sym (slots_at g 0 n (f + y) 1 (omega arith))
      ∙ sym (get_or-drop f (slots g 0 n) y 1)
      ∙ sym (counted_at 0 (drop f (slots g 0 n)) y)
      ∙ ap (counted 0 (drop f (slots g 0 n))) (zero-add y))
  counted_place x y e (no l) =
      let end : 0 + length (drop f (slots g 0 n)) ≤ y = omega (arith, length-drop f (slots g 0 n), slots_length g 0 n) in
      rw (counted_after 0 (drop f (slots g 0 n)) y end) (one x)

  pub counted_units : (y d : ℕ) → units h (f + y) d ≤ units (counted 0 (drop f (slots g 0 n))) y d
  counted_units y d = units_le h _ (f + y) y d (λ m l. counted_place (f + y + m) (y + m) (omega arith) (dec_lt _ _))
