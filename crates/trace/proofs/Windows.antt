-- Windows: what is cut out of a supply is legal at its own offset, since what lies outside the cut counts as supplied; and a window of a legal
-- trace has at least the supply of its length, since a legal trace is a curve (Curve.antt).
use Prim.Native.Nat.{ℕ, zero, suc, ◌+◌, ◌-◌, ◌*◌, ◌/◌, ◌%◌, ◌≤◌, ◌<◌}
use mathlib.Core.Path.{◌≡◌, refl, sym, ap, ◌∙◌}
use mathlib.Core.Bool.{true}
use mathlib.Core.List.{List, [], ◌∷◌}
use lib.ListN.{length, get_or, take, drop}
use native.Mathlib.Nat.{add_assoc, le_dest, le_trans, le_of_eq, le_of_suc-le-suc, not-suc-le-zero, div-add-mod'}
use native.Mathlib.Decide.{dec_le}
use native.Mathlib.Omega.{arith}
use Rattle.budget.specs.declared.interface.Interface.{Interface}
use Rattle.budget.specs.Interface.{Π, Θ, Δ}
use Rattle.budget.specs.Supply.{supply}
use Rattle.budget.proofs.Valid.{ValidInterface}
use Rattle.trace.specs.Legal.{zeros_and_ones, supplied, counted, Legal}
use Rattle.trace.specs.Units.{units}
use Rattle.trace.proofs.Curve.{window}
use Rattle.trace.proofs.Periods.{counted_before, counted_at, counted_after, counted_bit, every_period}
use Rattle.trace.proofs.Units.{units_le, units_same, supplied_part}

-- inside the list no default is read
pub get_d_inside : (s : List ℕ) (n d e : ℕ) → n < length s → get_or s n d ≡ get_or s n e
get_d_inside [] n d e h = absurd (not-suc-le-zero h)
get_d_inside (b ∷ s) zero d e h = refl
get_d_inside (b ∷ s) (suc n) d e h = get_d_inside s n d e (le_of_suc-le-suc h)

module _ (i : Interface) (v : ValidInterface i) where
  -- what is cut, from place x on, out of a supply that gives each period its capacity is legal at the place of its first slot
  pub cut_legal : (f : ℕ → ℕ) → ((x : ℕ) → f x ≤ 1) → ((k : ℕ) → Θ i ≤ units f (k * Π i) (Δ i))
      → (x : ℕ) (s : List ℕ) → ((n : ℕ) → n < length s → f (x + n) ≡ get_or s n 1) → Legal i (x % Π i) s
  cut_legal f one pays x s same k touched =
      le_trans (pays (x / Π i + k))
      (units_le f (counted (x % Π i) s) ((x / Π i + k) * Π i) (k * Π i) (Δ i) (λ m l. place m (dec_le (x % Π i) (k * Π i + m))))
    where
      inside : (m n : ℕ) → x % Π i + n ≡ k * Π i + m → Dec (length s ≤ n) → f ((x / Π i + k) * Π i + m) ≤ counted (x % Π i) s (k * Π i + m)
      inside m n e (yes h) = rw (counted_after (x % Π i) s (k * Π i + m) (omega arith)) (one _)
      inside m n e (no h) =
          le_of_eq
          (ap f (omega (arith, div-add-mod' x (Π i))) ∙ same n (omega arith) ∙ sym (counted_at (x % Π i) s n) ∙ ap (counted (x % Π i) s) e)

      place : (m : ℕ) → Dec (x % Π i ≤ k * Π i + m) → f ((x / Π i + k) * Π i + m) ≤ counted (x % Π i) s (k * Π i + m)
      place m (yes h) =
          let (n, e) = le_dest h in
          inside m n e (dec_le (length s) n)
      place m (no h) = rw (counted_before (x % Π i) s (k * Π i + m) (omega arith)) (one _)

  module _ (o : ℕ) (s : List ℕ) (bits : zeros_and_ones s ≡ true) (legal : Legal i o s) where
    pays : (k : ℕ) → Θ i ≤ units (counted o s) (k * Π i) (Δ i)
    pays = (every_period i v o s).0 legal

    -- every window [a, b) has at least the supply of its length
    pub window_units : (a b : ℕ) → a ≤ b → b ≤ length s → supply i (b - a) ≤ units (λ n. get_or s n 0) a (b - a)
    window_units a b h l =
        omega (
          arith,
          window i v (counted o s) (counted_bit o s bits) pays (o + a) (b - a),
          units_same (counted o s) (λ n. get_or s n 0) (o + a) a (b - a)
              (λ m e. rw (add_assoc o a m, counted_at o s (a + m)) (get_d_inside s (a + m) 1 0 (omega arith))),
        )

    pub window_supply : (a b : ℕ) → a ≤ b → b ≤ length s → supply i (b - a) ≤ supplied (take (b - a) (drop a s))
    window_supply a b h l = rw (supplied_part s a (b - a)) (window_units a b h l)
