-- Laws of supply. The quotient that its formula picks makes it the least of n·Θ + (t − (Π + Δ − 2Θ) − n·Π) over all n, and every other law
-- compares such rows for well chosen n; the formula is not opened again.
use Prim.Native.Nat.{ℕ, zero, suc, ◌+◌, ◌-◌, ◌*◌, ◌/◌, ◌≤◌, ◌<◌}
use mathlib.Core.Path.{◌≡◌, refl, sym, ap, ◌∙◌}
use mathlib.Core.Bool.{Bool, true, false, cond}
use borrow.Author.Tests.{ltb-true}
use native.Mathlib.Nat.{div-mul-le_self, lt-div-mul-add, mul-le-mul_left, mul-le-mul_right, le_dest, lt_of_not-le, le_trans, le_antisymm}
use native.Mathlib.Decide.{dec_le}
use native.Mathlib.Omega.{arith}
use Rattle.budget.specs.declared.interface.Interface.{Interface}
use Rattle.budget.specs.Interface.{Π, Θ, Δ}
use Rattle.budget.specs.Supply.{supply, whole_periods}
use Rattle.budget.proofs.Valid.{ValidInterface}

-- The least row, over plain numbers: period p, capacity q, first gap d = Δ − Θ and longest gap g, so that g + q ≡ p + d.
module _ (p q d g : ℕ) (fits : q ≤ p) (gap : g + q ≡ p + d) where
  row_before : (t n j : ℕ) → (n + suc j) * p ≤ t - d → (n + suc j) * q + (t - g - (n + suc j) * p) ≤ n * q + (t - g - n * p)
  row_before t n j h = omega (arith, mul-le-mul_left j fits)

  row_after : (t y j : ℕ) → t - d < y * p + p → y * q + (t - g - y * p) ≤ (y + j) * q + (t - g - (y + j) * p)
  row_after t y zero h = omega arith
  row_after t y (suc j) h = omega (arith, mul-le-mul_left j fits)

  -- the row of the true quotient y is the least
  row_least : (t y n : ℕ) → y * p ≤ t - d → t - d < y * p + p → y * q + (t - g - y * p) ≤ n * q + (t - g - n * p)
  row_least t y n low high = by_order (dec_le y n)
    where
      by_order : Dec (y ≤ n) → y * q + (t - g - y * p) ≤ n * q + (t - g - n * p)
      by_order (yes h) = rw (← (le_dest h).1) (row_after t y (le_dest h).0 high)
      by_order (no h) =
          let k = le_dest (lt_of_not-le h) in
          let e : n + suc k.0 ≡ y = omega (arith, k.1) in
          rw (← e) (row_before t n k.0 (rw e low))

  -- what lies below every row of a and what lies below every row of b sum up to no more than the row of z for a + b, whose rest r is given
  -- by a bound only: b is cut at its whole periods m, and a gets what is left of z, or one period less where a is too short for that
  row_add : (a b z m u w r : ℕ) → ((n : ℕ) → u ≤ n * q + (a - g - n * p)) → ((n : ℕ) → w ≤ n * q + (b - g - n * p))
      → m * p ≤ b → b < m * p + p → a + b ≤ g + z * p + r → u + w ≤ z * q + r
  row_add a b z m u w r below-a below-b low high rest = by_order (dec_le z m)
    where
      split : (j : ℕ) → m + suc j ≡ z → Dec (suc j * p ≤ a) → u + w ≤ z * q + r
      split j e (yes h) = rw (← e) (omega (arith, below-a (suc j), below-b m, rw (← e) at rest))
      split j e (no h) = rw (← e) (omega (arith, below-a j, below-b m, rw (← e) at rest))

      by_order : Dec (z ≤ m) → u + w ≤ z * q + r
      by_order (yes h) = omega (arith, below-a 0, below-b z, mul-le-mul_right p h)
      by_order (no h) =
          let k = le_dest (lt_of_not-le h) in
          split k.0 (omega (arith, k.1)) (dec_le (suc k.0 * p) a)

-- a gap of two parts may be taken off part by part
parted : (t d e g n : ℕ) → g ≡ e + d → t - g - n ≡ t - d - n - e
parted t d e g n h = omega (arith, h)

no_case : (b : Bool) (x : ℕ) → (b ≡ true → x ≡ 0) → cond b 0 x ≡ x
no_case true x h = sym (h refl)
no_case false x h = refl

module _ (i : Interface) (v : ValidInterface i) where
  gap_is : Π i + Δ i - 2 * Θ i + Θ i ≡ Π i + (Δ i - Θ i)
  gap_is = omega (arith, v.fits, v.within)

  -- a capacity fits its period, since it fits the deadline
  pub fitting : Θ i ≤ Π i
  fitting = le_trans v.fits v.within

  -- the two bounds of the formula's quotient
  pub whole_fits : (t : ℕ) → whole_periods i t * Π i ≤ t - (Δ i - Θ i)
  unfolding whole_periods
  whole_fits t = div-mul-le_self (t - (Δ i - Θ i)) (Π i)

  whole_most : (t : ℕ) → t - (Δ i - Θ i) < whole_periods i t * Π i + Π i
  unfolding whole_periods
  whole_most t = lt-div-mul-add (le_trans v.some v.within)

  row_early : (t : ℕ) → t < Δ i - Θ i → whole_periods i t * Θ i + (t - (Π i + Δ i - 2 * Θ i) - whole_periods i t * Π i) ≡ 0
  row_early t h = omega (arith, whole_fits t, mul-le-mul_left (whole_periods i t) fitting, gap_is, fitting)

  -- before the first gap ends the row is 0 too, so the formula's case makes no difference
  supply_row : (t : ℕ) → supply i t ≡ whole_periods i t * Θ i + (t - (Π i + Δ i - 2 * Θ i) - whole_periods i t * Π i)
  unfolding supply
  supply_row t = no_case _ _ (λ e. row_early t (ltb-true _ _ e))

  -- the row by the rest, the slots behind the wait and the whole periods: the longest gap is the pause and the wait
  pub supply_by_rest : (t : ℕ) → supply i t ≡ whole_periods i t * Θ i + (t - (Δ i - Θ i) - whole_periods i t * Π i - (Π i - Θ i))
  supply_by_rest t = supply_row t ∙ ap (λ (n : ℕ). whole_periods i t * Θ i + n) (parted t _ _ _ _ (omega (arith, gap_is, fitting)))

  -- supply is the least row: at most every row, and equal to one
  pub supply_at_most : (t n : ℕ) → supply i t ≤ n * Θ i + (t - (Π i + Δ i - 2 * Θ i) - n * Π i)
  supply_at_most t n = rw (supply_row t) (row_least _ _ _ _ fitting gap_is t (whole_periods i t) n (whole_fits t) (whole_most t))

  pub supply_attained : (t : ℕ) → (n : ℕ) × (supply i t ≡ n * Θ i + (t - (Π i + Δ i - 2 * Θ i) - n * Π i))
  supply_attained t = (whole_periods i t, supply_row t)

  pub supply_zero : supply i 0 ≡ 0
  supply_zero = omega (arith, supply_at_most 0 0)

  pub supply_mono : (a b : ℕ) → a ≤ b → supply i a ≤ supply i b
  supply_mono a b h =
      let s = supply_attained b in
      omega (arith, s.1, supply_at_most a s.0)

  pub supply_rise : (t : ℕ) → supply i (suc t) ≤ suc (supply i t)
  supply_rise t =
      let s = supply_attained t in
      omega (arith, s.1, supply_at_most (suc t) s.0)

  pub supply_add : (a b : ℕ) → supply i a + supply i b ≤ supply i (a + b)
  supply_add a b =
      let s = supply_attained (a + b) in
      rw s.1
      (row_add _ _ _ _ fitting gap_is a b s.0 (b / Π i) _ _ _ (supply_at_most a) (supply_at_most b) (div-mul-le_self b (Π i))
      (lt-div-mul-add (le_trans v.some v.within)) (omega arith))

  pub supply_le_time : (t : ℕ) → supply i t ≤ t
  supply_le_time t = omega (arith, supply_at_most t 0)

  -- every row for a period later is at least the capacity above some row for t, and the row after the least one is just that
  row_later : (t n : ℕ) → Δ i - Θ i ≤ t → supply i t + Θ i ≤ n * Θ i + (t + Π i - (Π i + Δ i - 2 * Θ i) - n * Π i)
  row_later t zero h = omega (arith, supply_at_most t 0, gap_is, fitting)
  row_later t (suc n) h = omega (arith, supply_at_most t n)

  later_at_most : (t : ℕ) → supply i (t + Π i) ≤ supply i t + Θ i
  later_at_most t =
      let s = supply_attained t in
      omega (arith, s.1, supply_at_most (t + Π i) (suc s.0))

  -- once the first gap is over, each period brings the capacity
  pub supply_period : (t : ℕ) → Δ i - Θ i ≤ t → supply i (t + Π i) ≡ supply i t + Θ i
  supply_period t h =
      let s = supply_attained (t + Π i) in
      le_antisymm (later_at_most t) (rw s.1 (row_later t s.0 h))

-- two interfaces of one period whose gaps and capacities are ordered
pub supply_under : (i j : Interface) → ValidInterface i → ValidInterface j → Π i ≡ Π j → Θ i ≤ Θ j → Π j + Δ j - 2 * Θ j ≤ Π i + Δ i - 2 * Θ i
    → (t : ℕ) → supply i t ≤ supply j t
supply_under i j v w p q g t =
    let s = supply_attained j w t in
    omega (arith, s.1, supply_at_most i v t s.0, mul-le-mul_left s.0 q, ap (λ (x : ℕ). s.0 * x) p)

-- more capacity gives no less, for one period and deadline
pub supply_capacity : (i j : Interface) → ValidInterface i → ValidInterface j → Π i ≡ Π j → Δ i ≡ Δ j → Θ i ≤ Θ j → (t : ℕ) → supply i t ≤ supply j t
supply_capacity i j v w p d q t = supply_under i j v w p q (omega arith) t

-- a later deadline gives no more, for one period and capacity
pub supply_deadline : (i j : Interface) → ValidInterface i → ValidInterface j → Π i ≡ Π j → Θ i ≡ Θ j → Δ i ≤ Δ j → (t : ℕ) → supply j t ≤ supply i t
supply_deadline i j v w p q d t = supply_under j i w v (sym p) (omega arith) (omega arith) t
