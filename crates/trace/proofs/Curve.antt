-- A supply as the curve of the units given before each absolute place: it never falls, rises by at most one a place, and gains at least Θ from
-- the start of each period to its place Δ. Every window of t places of such a curve gains at least supply(t): the window is split where periods
-- begin, and its gain less the capacity of its whole periods is a candidate in the least that supply is.
use Prim.Native.Nat.{ℕ, zero, suc, ◌+◌, ◌*◌, ◌/◌, ◌%◌, ◌≤◌, ◌<◌}
use mathlib.Core.Path.{◌≡◌, ap, ◌∙◌}
use native.Mathlib.Nat.{zero-add, le_dest, mod-lt, div-add-mod', div-mul-le_self, le-div_iff_mul-le}
use native.Mathlib.Decide.{dec_le}
use native.Mathlib.Omega.{arith}
use Rattle.budget.specs.declared.interface.Interface.{Interface}
use Rattle.budget.specs.Interface.{Π, Θ, Δ}
use Rattle.budget.specs.Supply.{supply}
use Rattle.budget.proofs.Valid.{ValidInterface}
use Rattle.budget.proofs.SupplyLaws.{supply_at_most}
use Rattle.trace.specs.Units.{units}
use Rattle.trace.proofs.Units.{units_add, units_most}

-- supply is the least over all n, said without a difference
pub most : (i : Interface) → ValidInterface i → (t n m : ℕ) → t + 2 * Θ i ≤ Π i + Δ i + n * Π i + m → supply i t ≤ n * Θ i + m
most i v t n m h = omega (arith, supply_at_most i v t n)

-- the units that f gives before place x
abbrev before : (ℕ → ℕ) → ℕ → ℕ
before f x = units f 0 x

-- a window's units are what the curve gains over it
pub gain : (f : ℕ → ℕ) (x n : ℕ) → units f 0 (x + n) ≡ units f 0 x + units f x n
gain f x n = units_add f 0 x n ∙ rw zero-add

module _ (i : Interface) (v : ValidInterface i) (f : ℕ → ℕ) (one : (x : ℕ) → f x ≤ 1) (pays : (k : ℕ) → Θ i ≤ units f (k * Π i) (Δ i)) where
  rises : (x y : ℕ) → x ≤ y → before f x ≤ before f y
  rises x y h =
      let (m, e) = le_dest h in
      omega (arith, gain f x m, ap (before f) e)

  slow : (x y : ℕ) → x ≤ y → before f y + x ≤ before f x + y
  slow x y h =
      let (m, e) = le_dest h in
      omega (arith, gain f x m, ap (before f) e, units_most f one x m)

  deadline : (k : ℕ) → before f (k * Π i) + Θ i ≤ before f (k * Π i + Δ i)
  deadline k = omega (arith, gain f (k * Π i) (Δ i), pays k)

  -- n whole periods give Θ each
  periods : (k n : ℕ) → before f (k * Π i) + n * Θ i ≤ before f (k * Π i + n * Π i)
  periods k zero = omega (arith, rises (k * Π i) (k * Π i + zero * Π i) (omega arith))
  periods k (suc n) =
      omega (
        arith,
        periods k n,
        rises (k * Π i + n * Π i) ((k + n) * Π i) (omega arith),
        deadline (k + n),
        rises ((k + n) * Π i + Δ i) (k * Π i + suc n * Π i) (omega arith),
      )

  -- a window within one period, from its place r to its place e
  within : (k r e t : ℕ) → e < Π i → r + t ≡ e → supply i t + before f (k * Π i + r) ≤ before f (k * Π i + e)
  within k r e t he q =
      let (m, d) = le_dest (rises (k * Π i + r) (k * Π i + e) (omega arith)) in
      go m d (dec_le e (Δ i))
    where
      first : before f (k * Π i + r) + k * Π i ≤ before f (k * Π i) + (k * Π i + r)
      first = slow (k * Π i) (k * Π i + r) (omega arith)

      go : (m : ℕ) → before f (k * Π i + r) + m ≡ before f (k * Π i + e) → Dec (e ≤ Δ i) → supply i t + before f (k * Π i + r) ≤ before f (k * Π i + e)
      go m d (yes h) =
          let last = slow (k * Π i + e) (k * Π i + Δ i) (omega arith) in
          omega (arith, most i v t 0 m (omega (arith, deadline k, first)))
      go m d (no h) =
          let last = rises (k * Π i + Δ i) (k * Π i + e) (omega arith) in
          omega (arith, most i v t 0 m (omega (arith, deadline k, first)))

  -- a window that leaves its first period from place r on, has n whole periods, and ends at place e of its last
  across : (k n r e t : ℕ) → r < Π i → e < Π i → r + t ≡ Π i + n * Π i + e → supply i t + before f (k * Π i + r) ≤ before f ((k + suc n) * Π i + e)
  across k n r e t hr he q = go (dec_le e (Δ i))
    where
      first : before f (k * Π i + r) + k * Π i ≤ before f (k * Π i) + (k * Π i + r)
      first = slow (k * Π i) (k * Π i + r) (omega arith)

      leaves : before f (k * Π i + r) ≤ before f (suc k * Π i)
      leaves = rises (k * Π i + r) (suc k * Π i) (omega arith)

      whole : before f (k * Π i) + suc n * Θ i ≤ before f ((k + suc n) * Π i)
      whole = omega (arith, periods k (suc n), rises (k * Π i + suc n * Π i) ((k + suc n) * Π i) (omega arith))

      inner : before f (suc k * Π i) + n * Θ i ≤ before f ((k + suc n) * Π i)
      inner = omega (arith, periods (suc k) n, rises (suc k * Π i + n * Π i) ((k + suc n) * Π i) (omega arith))

      go : Dec (e ≤ Δ i) → supply i t + before f (k * Π i + r) ≤ before f ((k + suc n) * Π i + e)
      go (yes h) =
          let last = slow ((k + suc n) * Π i + e) ((k + suc n) * Π i + Δ i) (omega arith) in
          let most-of : before f (k * Π i + r) + n * Θ i ≤ before f ((k + suc n) * Π i + e) =
          omega (arith, rises ((k + suc n) * Π i) ((k + suc n) * Π i + e) (omega arith), leaves, inner) in
          let (m, d) = le_dest most-of in
          omega (arith, most i v t n m (omega (arith, deadline (k + suc n), first, whole)))
      go (no h) =
          let last = rises ((k + suc n) * Π i + Δ i) ((k + suc n) * Π i + e) (omega arith) in
          let most-of : before f (k * Π i + r) + suc n * Θ i ≤ before f ((k + suc n) * Π i + e) =
          omega (arith, deadline (k + suc n), leaves, inner) in
          let (m, d) = le_dest most-of in
          omega (arith, most i v t (suc n) m (omega (arith, deadline (k + suc n), first, whole)))

  -- the periods in which the window begins and ends, d periods apart
  split : (x t k r d e : ℕ) → k * Π i + r ≡ x → (k + d) * Π i + e ≡ x + t → r < Π i → e < Π i → supply i t + before f x ≤ before f (x + t)
  split x t k r zero e p q hr he =
      omega (
        arith,
        within k r e t he (omega arith),
        rises x (k * Π i + r) (omega arith),
        rises (k * Π i + e) (x + t) (omega arith),
      )
  split x t k r (suc n) e p q hr he =
      omega (
        arith,
        across k n r e t hr he (omega arith),
        rises x (k * Π i + r) (omega arith),
        rises ((k + suc n) * Π i + e) (x + t) (omega arith),
      )

  pub window : (x t : ℕ) → supply i t ≤ units f x t
  window x t =
      let some : 0 < Π i = omega arith in
      let later : x / Π i ≤ (x + t) / Π i = (le-div_iff_mul-le some).1 (omega (arith, div-mul-le_self x (Π i))) in
      let (d, e) = le_dest later in
      let split-there =
      split x t (x / Π i) (x % Π i) d ((x + t) % Π i) (div-add-mod' x (Π i))
      (ap (λ (k : ℕ). k * Π i + (x + t) % Π i) e ∙ div-add-mod' (x + t) (Π i)) (mod-lt x some) (mod-lt (x + t) some) in
      omega (arith, split-there, gain f x t)
