-- To ask it of the periods that the trace touches is to ask it of all: one that the trace does not touch counts 1 at each of its places
-- below Δ, and Θ ≤ Δ. So a legal trace, with everything outside it counted as supplied, is a curve.
use Prim.Native.Nat.{ℕ, zero, suc, ◌+◌, ◌-◌, ◌*◌, ◌≤◌, ◌<◌}
use mathlib.Core.Path.{◌≡◌, ap, ◌∙◌}
use mathlib.Core.Bool.{Bool, true, false, cond}
use mathlib.Core.List.{List, [], ◌∷◌}
use mathlib.Core.Logic.{◌↔◌}
use lib.ListN.{length, get_or, get_or-eq_default}
use lib.Dec.{ltb, leb}
use borrow.Author.Tests.{lt-ltb, le-ltb, leb-true}
use native.Mathlib.Nat.{le_refl, le_dest, add-sub_cancel_left}
use native.Mathlib.Decide.{dec_le}
use native.Mathlib.Omega.{arith}
use Rattle.budget.specs.declared.interface.Interface.{Interface}
use Rattle.budget.specs.Interface.{Π, Θ, Δ}
use Rattle.budget.proofs.Valid.{ValidInterface, both}
use Rattle.trace.specs.Legal.{zeros_and_ones, counted, Legal}
use Rattle.trace.specs.Units.{units}
use Rattle.trace.proofs.Units.{units_same, units_ones}

-- what a place counts: before the trace, in it and after it
pub counted_before : (o : ℕ) (s : List ℕ) (x : ℕ) → x < o → counted o s x ≡ 1
unfolding counted
counted_before o s x h = simp (lt-ltb x o h)

pub counted_at : (o : ℕ) (s : List ℕ) (n : ℕ) → counted o s (o + n) ≡ get_or s n 1
unfolding counted
counted_at o s n = simp (le-ltb (o + n) o (omega arith), add-sub_cancel_left)

pub counted_after : (o : ℕ) (s : List ℕ) (x : ℕ) → o + length s ≤ x → counted o s x ≡ 1
counted_after o s x h =
    let (m, e) = le_dest h in
    ap (counted o s) (omega arith) ∙ counted_at o s (length s + m) ∙ get_or-eq_default s 1 (omega arith)

-- a row of 0 and 1 counts no more than 1 at a place, nor past its end where what is read there counts no more
pub bit : (s : List ℕ) → zeros_and_ones s ≡ true → (d : ℕ) → d ≤ 1 → (n : ℕ) → get_or s n d ≤ 1
unfolding zeros_and_ones
bit [] e d h n = h
bit (b ∷ s) e d h zero = leb-true b 1 (both (leb b 1) _ e).0
bit (b ∷ s) e d h (suc n) = bit s (both (leb b 1) _ e).1 d h n

pub counted_bit : (o : ℕ) (s : List ℕ) → zeros_and_ones s ≡ true → (x : ℕ) → counted o s x ≤ 1
unfolding counted
counted_bit o s e x = go (ltb x o)
  where
    go : (t : Bool) → cond t 1 (get_or s (x - o) 1) ≤ 1
    go true = le_refl 1
    go false = bit s e 1 (le_refl 1) (x - o)

module _ (i : Interface) (v : ValidInterface i) (o : ℕ) (s : List ℕ) where
  -- a period whose places below Δ all count owes nothing more
  pub all_count : (k : ℕ) → ((m : ℕ) → m < Δ i → counted o s (k * Π i + m) ≡ 1) → Θ i ≤ units (counted o s) (k * Π i) (Δ i)
  all_count k h =
      omega (arith, units_ones (k * Π i) (Δ i), units_same (counted o s) (λ y. 1) (k * Π i) (k * Π i) (Δ i) h)

  -- the period lies behind the trace, or before it, or the trace is empty, or its slot at the period's start or its first one stands there
  each_period : Legal i o s → (k : ℕ) → Θ i ≤ units (counted o s) (k * Π i) (Δ i)
  each_period legal k =
      go (dec_le (o + length s) (k * Π i)) (dec_le (k * Π i + Π i) o) (dec_le (length s) 0)
    where
      place : (x : ℕ) → length s ≤ 0 → Dec (o ≤ x) → counted o s x ≡ 1
      place x e (yes h) = counted_after o s x (omega arith)
      place x e (no h) = counted_before o s x (omega arith)

      go : Dec (o + length s ≤ k * Π i) → Dec (k * Π i + Π i ≤ o) → Dec (length s ≤ 0) → Θ i ≤ units (counted o s) (k * Π i) (Δ i)
      go (yes h) b c = all_count k (λ m l. counted_after o s (k * Π i + m) (omega arith))
      go (no h) (yes b) c = all_count k (λ m l. counted_before o s (k * Π i + m) (omega arith))
      go (no h) (no b) (yes c) = all_count k (λ m l. place (k * Π i + m) c (dec_le o (k * Π i + m)))
      go (no h) (no b) (no c) =
          legal k (record { slot = k * Π i - o; inside = omega arith; from = omega arith; until = omega arith })

  pub every_period : Legal i o s ↔ ((k : ℕ) → Θ i ≤ units (counted o s) (k * Π i) (Δ i))
  every_period = (each_period, λ h k touched. h k)
