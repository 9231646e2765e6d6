-- A trace with 1s put behind it stays legal: a place outside a trace counts as supplied, so that no place counts anything else.
use Prim.Native.Nat.{ℕ, zero, suc, ◌-◌, ◌*◌}
use mathlib.Core.Bool.{true, cond}
use mathlib.Core.List.{List, [], ◌∷◌, ◌++◌}
use mathlib.Core.Path.{◌≡◌, refl, ap}
use lib.Dec.{leb, ltb}
use lib.ListN.{get_or, replicate}
use native.Mathlib.Omega.{arith}
use Rattle.budget.specs.declared.interface.Interface.{Interface}
use Rattle.budget.specs.Interface.{Π, Δ}
use Rattle.budget.proofs.Valid.{ValidInterface, and_true, both}
use Rattle.trace.specs.Legal.{Legal, counted, zeros_and_ones}
use Rattle.trace.proofs.Periods.{every_period}
use Rattle.trace.proofs.Units.{units_same}

-- the trace with d slots more, all supplied
abbrev pub longer : List ℕ → ℕ → List ℕ
longer s d = s ++ replicate d 1

longer_at : (s : List ℕ) (d y : ℕ) → get_or (longer s d) y 1 ≡ get_or s y 1
longer_at [] zero y = refl
longer_at [] (suc d) zero = refl
longer_at [] (suc d) (suc y) = longer_at [] d y
longer_at (b ∷ s) d zero = refl
longer_at (b ∷ s) d (suc y) = longer_at s d y

pub longer_bits : (s : List ℕ) (d : ℕ) → zeros_and_ones s ≡ true → zeros_and_ones (longer s d) ≡ true
unfolding zeros_and_ones
longer_bits [] zero e = refl
longer_bits [] (suc d) e = longer_bits [] d e
longer_bits (b ∷ s) d e = and_true (both (leb b 1) _ e).0 (longer_bits s d (both (leb b 1) _ e).1)

module _ (i : Interface) (v : ValidInterface i) (o : ℕ) (s : List ℕ) (d : ℕ) where
  counted_longer : (x : ℕ) → counted o (longer s d) x ≡ counted o s x
  unfolding counted
  counted_longer x = ap (λ (y : ℕ). cond (ltb x o) 1 y) (longer_at s d (x - o))

  pub longer_legal : Legal i o s → Legal i o (longer s d)
  longer_legal legal =
      (every_period i v o (longer s d)).1
      (λ k.
      omega (
        arith,
        (every_period i v o s).0 legal k,
        units_same (counted o (longer s d)) (counted o s) (k * Π i) (k * Π i) (Δ i) (λ m l. counted_longer _),
      ))
