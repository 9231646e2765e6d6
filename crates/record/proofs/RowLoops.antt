-- The loops over a row's fields. What was summed, read or stored so far, and what is left of the row, together give the whole.
use Prim.Native.Nat.{ℕ, zero, suc, ◌+◌, ◌*◌, ◌^◌, ◌≤◌, ◌<◌}
use mathlib.Core.Path.{◌≡◌, refl, sym, ap, ap₂, ◌∙◌}
use mathlib.Core.List.{List, [], ◌∷◌, ◌++◌, append_assoc}
use native.Mathlib.Nat.{one-le-pow}
use native.Mathlib.Numerals.{add-one}
use native.Mathlib.Decide.{ℕ_discrete}
use native.Mathlib.Omega.{arith}
use lib.ListN.{length, get_or, take, drop, set, replicate, length-set}
use borrow.Rule.Slice.PartMut.{put_mid}
use lib.Seq.{sets, length-sets, drop-cons, take-suc-set, get_or-set_same, get_or-set_other}
use Rattle.std.proofs.lemmas.List.Recursion.{is_sum_by}
use Rattle.std.specs.List.{sum}
use Rattle.record.specs.Field.{encode, field}
use Rattle.record.specs.Row.{row_length, row_bytes, values_at}
use Rattle.record.specs.inner.Narrow.{Narrow, Held}
use Rattle.record.proofs.FieldLaws.{length_encode, part_long}
use Rattle.record.proofs.StoreLaws.{sets_append, part_stored}

-- a row of narrow fields is short
pub narrow_short : (ws : List ℕ) → Narrow ws → row_length ws ≤ 4 * length ws
narrow_short [] n = omega arith
narrow_short (w ∷ ws) n =
    let h : w ≤ 4 = n 0 in
    let r = narrow_short ws (λ i. n (suc i)) in
    omega arith

-- its length is std's sum of its widths
pub sum_length : (ws : List ℕ) → sum ws ≡ row_length ws
sum_length ws = sym (is_sum_by row_length (λ x. x) refl (λ _ _. refl) ws)

module _ (ws : List ℕ) (i : ℕ) (h : i < length ws) where
  -- the field at a place, and the row behind it
  next_field : drop i ws ≡ get_or ws i 0 ∷ drop (i + 1) ws
  next_field = rw (add-one) (drop-cons ws i 0 h)

  pub next_length : row_length (drop i ws) ≡ get_or ws i 0 + row_length (drop (i + 1) ws)
  next_length = ap row_length next_field

-- ---- reading

-- zeros fit every row
none : (n i : ℕ) → get_or {A = ℕ} (replicate n 0) i 0 ≡ 0
none zero i = refl
none (suc n) zero = refl
none (suc n) (suc i) = none n i

pub none_held : (ws : List ℕ) (n : ℕ) → Held ws (replicate n 0)
none_held ws n i = rw none (one-le-pow (get_or ws i 0) 256 (omega arith))

pub record Reading (ws s values : List ℕ) (place i : ℕ) : Type 0 where
  pub todo : take i values ++ values_at (drop i ws) s place ≡ values_at ws s 0
  pub held : Held ws values
  pub long : length values ≡ length ws
  pub here : place + row_length (drop i ws) ≡ row_length ws

module _ (ws s values : List ℕ) (place i : ℕ) (r : Reading ws s values place i) where
  pub reading_more : (value : ℕ) → i < length ws → value ≡ field s place (get_or ws i 0) → value < 256 ^ get_or ws i 0 → Reading ws s (set values i value) (place + get_or ws i 0) (i + 1)
  reading_more value h e b =
      let w = get_or ws i 0 in
      let n : i < length values = omega (arith, r.long) in
      let l = next_length ws i h in
      record {
        todo =
            ap (λ (k : ℕ). take k (set values i value) ++ values_at (drop (i + 1) ws) s (place + w)) (add-one i)
            ∙ (ap (λ (l : List ℕ). l ++ values_at (drop (i + 1) ws) s (place + w)) (take-suc-set values i value n)
            ∙ (append_assoc (take i values) (value ∷ []) (values_at (drop (i + 1) ws) s (place + w))
            ∙ (ap (λ (v : ℕ). take i values ++ (v ∷ values_at (drop (i + 1) ws) s (place + w))) e
            ∙ (ap (λ (l : List ℕ). take i values ++ values_at l s place) (sym (next_field ws i h)) ∙ r.todo))));
        held = λ j. held j (ℕ_discrete j i);
        long = length-set values i value ∙ r.long;
        here = omega (arith, r.here);
      }
    where
      held : (j : ℕ) → Dec (j ≡ i) → get_or (set values i value) j 0 < 256 ^ get_or ws j 0
      held j (yes p) = rw p (rw (get_or-set_same values i value 0 (omega (arith, r.long))) b)
      held j (no p) = rw (get_or-set_other values i j value 0 p) (r.held j)

-- ---- storing

pub record Storing (start ws vs part : List ℕ) (place i : ℕ) : Type 0 where
  pub todo : sets part place (row_bytes (drop i ws) (drop i vs)) ≡ sets start 0 (row_bytes ws vs)
  pub long : length part ≡ length start
  pub here : place + row_length (drop i ws) ≡ row_length ws

module _ (start ws vs : List ℕ) (same : length vs ≡ length ws) where
  module _ (part : List ℕ) (place i : ℕ) (r : Storing start ws vs part place i) where
    storing_more : (new : List ℕ) → i < length ws → new ≡ sets part place (encode (get_or ws i 0) (get_or vs i 0)) → Storing start ws vs new (place + get_or ws i 0) (i + 1)
    storing_more new h e =
        let w = get_or ws i 0 in
        let v = get_or vs i 0 in
        let rest = row_bytes (drop (i + 1) ws) (drop (i + 1) vs) in
        let g : i < length vs = omega (arith, same) in
        let l = next_length ws i h in
        record {
          todo =
              ap (λ (l : List ℕ). sets l (place + w) rest) e
              ∙ (ap (λ (k : ℕ). sets (sets part place (encode w v)) (place + k) rest) (sym (length_encode w v))
              ∙ (sym (sets_append part place (encode w v) rest)
              ∙ (ap₂ (λ (a b : List ℕ). sets part place (row_bytes a b)) (sym (next_field ws i h)) (sym (next_field vs i g)) ∙ r.todo)));
          long = ap length e ∙ (length-sets part place (encode w v) ∙ r.long);
          here = omega (arith, r.here);
        }

    -- one turn of the loop: a field's part is lent and filled
    pub storing_part : (width value m next : ℕ) (new : List ℕ) → row_length ws ≤ length start → i < length ws → width ≡ get_or ws i 0 → value ≡ get_or vs i 0
        → m ≡ width → next ≡ i + 1 → new ≡ encode (length (take m (drop place part))) value → Storing start ws vs (put_mid place m part new) (place + width) next
    storing_part width value m next new fits h e f k n g =
        let l = next_length ws i h in
        let room : place + width ≤ length part = omega (arith, r.here, r.long) in
        let bytes : new ≡ encode width value = g ∙ ap (λ (n : ℕ). encode n value) (part_long width m part place k room) in
        let long : length new ≡ width = ap length bytes ∙ length_encode width value in
        rw (n, e)
        (storing_more (put_mid place m part new) h
        (part_stored part place m new (k ∙ sym long) (omega arith) ∙ (ap (sets part place) bytes ∙ ap₂ (λ (a b : ℕ). sets part place (encode a b)) e f)))
