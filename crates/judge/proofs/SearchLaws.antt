-- The search for a smallest number finds it: what it answers is at most the bound, passes the test below it, and nothing before it does; and only one number is so.
use Prim.Native.Nat.{ℕ, zero, suc, ◌≤◌, ◌<◌}
use mathlib.Core.Path.{◌≡◌, refl, sym, ◌∙◌}
use mathlib.Core.Bool.{Bool, true, false, cond, false≢true}
use lib.Dec.{ltb}
use borrow.Author.Tests.{ltb-true, ltb-false}
use native.Mathlib.Nat.{not-suc-le-zero, le_antisymm}
use native.Mathlib.Decide.{dec_le}
use native.Mathlib.Omega.{arith}
use Rattle.judge.specs.Search.{smallest}

pub record Smallest (test : ℕ → Bool) (n k : ℕ) : Type 0 where
  pub within : k ≤ n
  pub before : (j : ℕ) → j < k → test j ≡ false
  pub passes : k < n → test k ≡ true

-- one number more to search
grow : (test : ℕ → Bool) (n k : ℕ) → Smallest test n k → (b : Bool) → ltb k n ≡ b → (a : Bool) → test n ≡ a
    → Smallest test (suc n) (elim b [ true ↦ k | false ↦ cond a n (suc n) ])
grow test n k s true e a f = record { within = omega (arith, s.within); before = s.before; passes = λ h. s.passes (ltb-true k n e) }
grow test n k s false e true f =
    let same : k ≡ n = omega (arith, s.within, ltb-false k n e) in
    record { within = omega arith; before = λ j h. s.before j (omega arith); passes = λ h. f }
grow test n k s false e false f =
    let same : k ≡ n = omega (arith, s.within, ltb-false k n e) in
    record { within = omega arith; before = λ j h. earlier j (dec_le n j) h; passes = λ h. absurd (omega (arith, h)) }
  where
    earlier : (j : ℕ) → Dec (n ≤ j) → j < suc n → test j ≡ false
    earlier j (yes l) h =
        let e : j ≡ n = omega arith in
        rw e f
    earlier j (no l) h = s.before j (omega (arith, s.within, ltb-false k n e))

pub smallest_is : (test : ℕ → Bool) (n : ℕ) → Smallest test n (smallest test n)
unfolding smallest
smallest_is test zero = record { within = omega arith; before = λ j h. absurd (not-suc-le-zero h); passes = λ h. absurd (not-suc-le-zero h) }
smallest_is test (suc n) = grow test n (smallest test n) (smallest_is test n) _ refl _ refl

-- of two smallest numbers neither is before the other
not_before : (test : ℕ → Bool) (n a b : ℕ) → Smallest test n a → Smallest test n b → a < b → ⊥
not_before test n a b s t h = false≢true (sym (t.before a h) ∙ s.passes (omega (arith, t.within)))

pub smallest_only : (test : ℕ → Bool) (n k : ℕ) → Smallest test n k → smallest test n ≡ k
smallest_only test n k s = compared (dec_le (smallest test n) k) (dec_le k (smallest test n))
  where
    compared : Dec (smallest test n ≤ k) → Dec (k ≤ smallest test n) → smallest test n ≡ k
    compared (yes l) (yes g) = le_antisymm l g
    compared (yes l) (no g) = absurd (not_before test n (smallest test n) k (smallest_is test n) s (omega arith))
    compared (no l) g = absurd (not_before test n k (smallest test n) s (smallest_is test n) (omega arith))
