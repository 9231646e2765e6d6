-- The trace that attains supply at each of its lengths: slot n gives what supply rises by from n to n + 1. It stands behind the units of a period
-- that are given at its first places, so it is cut at place Θ from a supply that gives each period its capacity.
use Prim.Native.Nat.{ℕ, zero, suc, ◌+◌, ◌-◌, ◌*◌, ◌≤◌, ◌<◌}
use mathlib.Core.Path.{◌≡◌, refl, sym, ap, ◌∙◌}
use mathlib.Core.Bool.{Bool, true, false, cond}
use lib.ListN.{length, get_or, take}
use lib.Dec.{ltb}
use borrow.Author.Tests.{lt-ltb, le-ltb, le-leb}
use native.Mathlib.Nat.{zero-add, zero-mul, add-zero, add-suc, suc-add, add-sub_cancel_left, le_refl, le_dest, le_of_suc-le-suc, not-suc-le-zero, le-suc, mod-lt}
use native.Mathlib.Omega.{arith}
use Rattle.budget.specs.declared.interface.Interface.{Interface}
use Rattle.budget.specs.Interface.{Π, Θ, Δ}
use Rattle.budget.specs.Supply.{supply}
use Rattle.budget.proofs.SupplyLaws.{supply_zero, supply_mono, supply_rise, supply_period}
use Rattle.budget.proofs.Valid.{ValidInterface, and_true}
use Rattle.trace.specs.Legal.{zeros_and_ones, supplied, Legal}
use Rattle.trace.specs.Units.{units}
use Rattle.trace.specs.WorstTrace.{rise, slots, worst_offset, worst_trace}
use Rattle.trace.proofs.Curve.{most, gain}
use Rattle.trace.proofs.Units.{units_same, units_ones, supplied_part}
use Rattle.trace.proofs.Windows.{cut_legal}

pub slots_length : (f : ℕ → ℕ) (x n : ℕ) → length (slots f x n) ≡ n
unfolding slots
slots_length f x zero = refl
slots_length f x (suc n) = ap suc (slots_length f (suc x) n)

pub slots_at : (f : ℕ → ℕ) (x n m d : ℕ) → m < n → get_or (slots f x n) m d ≡ f (x + m)
unfolding slots
slots_at f x zero m d h = absurd (not-suc-le-zero h)
slots_at f x (suc n) zero d h = rw add-zero
slots_at f x (suc n) (suc m) d h = slots_at f (suc x) n m d (le_of_suc-le-suc h) ∙ rw (suc-add, add-suc)

pub slots_bits : (f : ℕ → ℕ) → ((x : ℕ) → f x ≤ 1) → (x n : ℕ) → zeros_and_ones (slots f x n) ≡ true
unfolding slots zeros_and_ones
slots_bits f one x zero = refl
slots_bits f one x (suc n) = and_true (le-leb (f x) 1 (one x)) (slots_bits f one (suc x) n)

-- the supply that it is cut from: every slot before place Θ of the first period, and the worst from there on
source : Interface → ℕ → ℕ
source i x = cond (ltb x (Θ i)) 1 (rise i (x - Θ i))

module _ (i : Interface) (v : ValidInterface i) where
  rise_most : (n : ℕ) → rise i n ≤ 1
  unfolding rise
  rise_most n = omega (arith, supply_rise i v n)

  rises : (n : ℕ) → units (rise i) 0 n ≡ supply i n
  unfolding units rise
  rises zero = sym (supply_zero i v)
  rises (suc n) = rw zero-add (omega (arith, rises n, supply_mono i v n (suc n) (le-suc n)))

  source_most : (x : ℕ) → source i x ≤ 1
  unfolding source
  source_most x = go (ltb x (Θ i))
    where
      go : (t : Bool) → cond t 1 (rise i (x - Θ i)) ≤ 1
      go true = le_refl 1
      go false = rise_most (x - Θ i)

  source_before : (x : ℕ) → x < Θ i → source i x ≡ 1
  unfolding source
  source_before x h = simp (lt-ltb x (Θ i) h)

  source_after : (n : ℕ) → source i (Θ i + n) ≡ rise i n
  unfolding source
  source_after n = simp (le-ltb (Θ i + n) (Θ i) (omega arith), add-sub_cancel_left)

  source_units : (n : ℕ) → units (source i) 0 (Θ i + n) ≡ Θ i + supply i n
  source_units n =
      omega (
        arith,
        gain (source i) (Θ i) n,
        units_same (source i) (λ x. 1) 0 0 (Θ i) (λ m l. source_before (0 + m) (omega arith)),
        units_ones 0 (Θ i),
        units_same (source i) (rise i) (Θ i) 0 n (λ m l. rw zero-add (source_after m)),
        rises n,
      )

  -- each period after the first is paid just in time
  paid : (k : ℕ) → supply i (Δ i - Θ i + k * Π i) ≡ k * Θ i
  paid zero = omega (arith, most i v (Δ i - Θ i + zero * Π i) 0 0 (omega arith))
  paid (suc k) =
      omega (
        arith,
        paid k,
        supply_period i v (Δ i - Θ i + k * Π i) (omega arith),
        ap (supply i) {x = Δ i - Θ i + k * Π i + Π i} {y = Δ i - Θ i + suc k * Π i} (omega arith),
      )

  pays : (k : ℕ) → Θ i ≤ units (source i) (k * Π i) (Δ i)
  pays zero =
      let (d, e) = le_dest v.fits in
      rw zero-mul (omega (arith, source_units d, ap (units (source i) 0) e))
  pays (suc k) =
      let within : Θ i ≤ suc k * Π i = omega arith in
      let (y, e) = le_dest within in
      let after : Θ i + (Δ i - Θ i + suc k * Π i) ≡ suc k * Π i + Δ i = omega arith in
      omega (
        arith,
        gain (source i) (suc k * Π i) (Δ i),
        source_units y,
        ap (units (source i) 0) e,
        most i v y k 0 (omega arith),
        source_units (Δ i - Θ i + suc k * Π i),
        ap (units (source i) 0) after,
        paid (suc k),
      )

  pub worst_legal : (t : ℕ) → Legal i (worst_offset i) (worst_trace i t)
  unfolding worst_trace
  worst_legal t =
      cut_legal i v (source i) source_most pays (Θ i) (slots (rise i) 0 t)
      (λ n l. source_after n ∙ sym (slots_at (rise i) 0 t n 1 (rw slots_length at l) ∙ rw zero-add))

  pub worst_length : (t : ℕ) → length (worst_trace i t) ≡ t
  unfolding worst_trace
  worst_length t = slots_length (rise i) 0 t

  pub worst_bits : (t : ℕ) → zeros_and_ones (worst_trace i t) ≡ true
  unfolding worst_trace
  worst_bits t = slots_bits (rise i) rise_most 0 t

  -- its first n slots have exactly the supply of n
  pub worst_prefix : (t n : ℕ) → n ≤ t → supplied (take n (worst_trace i t)) ≡ supply i n
  unfolding worst_trace
  worst_prefix t n h =
      supplied_part (slots (rise i) 0 t) 0 n
      ∙ units_same _ (rise i) 0 0 n (λ m l. rw zero-add (slots_at (rise i) 0 t m 0 (omega arith) ∙ rw zero-add))
      ∙ rises n

  pub worst_within : worst_offset i < Π i
  worst_within = mod-lt (Θ i) (omega arith)
