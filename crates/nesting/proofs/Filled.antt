-- A component's trace with 1s put before its first release: told in the topmost one's time it is then a legal trace like any other, at the offset
-- that lets a period begin where the budget is first released. No job of the component is ready there, so its run stays the same (Alike.antt).
use Prim.Native.Nat.{ℕ, zero, suc, ◌+◌, ◌-◌, ◌*◌, ◌%◌, ◌≤◌, ◌<◌}
use mathlib.Core.Bool.{true}
use mathlib.Core.List.{List, [], ◌∷◌}
use mathlib.Core.Path.{◌≡◌, refl, sym, ap, ◌∙◌}
use lib.Dec.{leb}
use lib.ListN.{length, get_or, drop}
use lib.Seq.{get_or-drop}
use native.Mathlib.Decide.{dec_le}
use native.Mathlib.Nat.{le_dest, mod-lt, mul-le-mul_left, mul-le-mul_right, zero-add}
use native.Mathlib.Omega.{arith}
use Rattle.budget.specs.declared.interface.Interface.{Interface}
use Rattle.budget.specs.Interface.{Π, Θ, Δ}
use Rattle.budget.proofs.Valid.{ValidInterface, both}
use Rattle.trace.specs.Legal.{Legal, counted, zeros_and_ones}
use Rattle.trace.specs.Units.{units}
use Rattle.trace.specs.WorstTrace.{slots}
use Rattle.trace.proofs.Periods.{all_count, counted_at, counted_before, counted_bit, every_period}
use Rattle.trace.proofs.Units.{units_same}
use Rattle.trace.proofs.Windows.{cut_legal, get_d_inside}
use Rattle.trace.proofs.WorstTrace.{slots_at, slots_bits, slots_length}
use Rattle.nesting.specs.Behaviour.{Begun, First, from, never}
use Rattle.nesting.specs.Service.{Served}

-- a legal trace that is the component's own from its first release on
pub record Supply (i : Interface) (first : First) (n : ℕ) (trace : List ℕ) : Type 0 where
  pub filled : List ℕ
  pub offset : ℕ
  pub below : offset < Π i
  pub slots : length filled ≡ n
  pub bits : zeros_and_ones filled ≡ true
  pub legal : Legal i offset filled
  pub same : (m : ℕ) → m < n → Begun first m → get_or trace m 0 ≡ get_or filled m 0

drop_bits : (f : ℕ) (s : List ℕ) → zeros_and_ones s ≡ true → zeros_and_ones (drop f s) ≡ true
unfolding zeros_and_ones
drop_bits zero s e = e
drop_bits (suc f) [] e = refl
drop_bits (suc f) (b ∷ s) e = drop_bits f s (both (leb b 1) _ e).1

module _ (i : Interface) (v : ValidInterface i) where
  -- g periods put before a trace count nothing but 1s
  later_place : (g k j : ℕ) (s : List ℕ) → g + j ≡ k → (m : ℕ) → counted (g * Π i) s (k * Π i + m) ≡ counted 0 s (j * Π i + m)
  later_place g k j s e m =
      let periods = ap (λ (x : ℕ). x * Π i) e in
      ap (counted (g * Π i) s) {x = k * Π i + m} {y = g * Π i + (j * Π i + m)} (omega arith)
      ∙ counted_at (g * Π i) s (j * Π i + m)
      ∙ sym (counted_at 0 s (j * Π i + m))
      ∙ ap (counted 0 s) (zero-add (j * Π i + m))

  later_legal : (g : ℕ) (s : List ℕ) → Legal i 0 s → Legal i (g * Π i) s
  later_legal g s legal = (every_period i v (g * Π i) s).1 (λ k. go k (dec_le g k))
    where
      go : (k : ℕ) → Dec (g ≤ k) → Θ i ≤ units (counted (g * Π i) s) (k * Π i) (Δ i)
      go k (yes h) =
          let (j, e) = le_dest h in
          omega (
            arith,
            (every_period i v 0 s).0 legal j,
            units_same (counted (g * Π i) s) (counted 0 s) (k * Π i) (j * Π i) (Δ i) (λ m l. later_place g k j s e m),
          )
      go k (no h) =
          let before : suc k * Π i ≤ g * Π i = mul-le-mul_right (Π i) (omega arith) in
          all_count i v (g * Π i) s k (λ m l. counted_before (g * Π i) s (k * Π i + m) (omega arith))

  -- what is cut from a legal trace with 1s around it is legal
  window_legal : (o : ℕ) (s : List ℕ) → zeros_and_ones s ≡ true → Legal i o s → (x n : ℕ) → Legal i (x % Π i) (slots (counted o s) x n)
  window_legal o s bits legal x n =
      cut_legal i v (counted o s) (counted_bit o s bits) ((every_period i v o s).0 legal) x (slots (counted o s) x n)
      (λ m l. sym (slots_at (counted o s) x n m 1 (rw slots_length at l)))

  -- the 1s around a legal trace, to any instants
  around : (first : First) (n : ℕ) (trace : List ℕ) (o : ℕ) (s : List ℕ) (x : ℕ) → zeros_and_ones s ≡ true → Legal i o s
      → ((m : ℕ) → m < n → Begun first m → get_or trace m 0 ≡ counted o s (x + m)) → Supply i first n trace
  around first n trace o s x bits legal same =
      record {
        filled = slots (counted o s) x n;
        offset = x % Π i;
        below = mod-lt x (omega arith);
        slots = slots_length (counted o s) x n;
        bits = slots_bits (counted o s) (counted_bit o s bits) x n;
        legal = window_legal o s bits legal x n;
        same = λ m l h. same m l h ∙ sym (slots_at (counted o s) x n m 0 l);
      }

  -- slot m of the trace, from the first release f on, stands at place m − f of the f-th period
  same_from : (f n : ℕ) (trace : List ℕ) → length trace ≡ n → (m : ℕ) → m < n → f ≤ m
      → get_or trace m 0 ≡ counted (f * Π i) (drop f trace) (f * Π i - f + m)
  same_from f n trace e m l h =
      let (d, g) = le_dest h in
      let within : f * 1 ≤ f * Π i = mul-le-mul_left f (omega arith) in
      get_d_inside trace m 0 1 (omega arith)
      ∙ ap (λ (y : ℕ). get_or trace y 1) (sym g)
      ∙ sym (get_or-drop f trace d 1)
      ∙ sym (counted_at (f * Π i) (drop f trace) d)
      ∙ ap (counted (f * Π i) (drop f trace)) (omega arith)

  pub fill : (first : First) (n : ℕ) (trace : List ℕ) → Served i first n trace → Supply i first n trace
  unfolding zeros_and_ones
  fill never n trace served = around never n trace 0 [] 0 refl (λ k t. absurd (omega (arith, t.inside))) (λ m l h. absurd h)
  fill (from f) n trace served =
      around (from f) n trace (f * Π i) (drop f trace) (f * Π i - f) (drop_bits f trace served.bits)
      (later_legal f (drop f trace) (served.legal f refl)) (same_from f n trace served.slots)
