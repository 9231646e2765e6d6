-- The bytes of entries: how many they are, and that they stand one behind the other as they are put.
use Prim.Native.Nat.{ℕ, zero, suc, ◌+◌, ◌*◌, ◌≤◌}
use native.Mathlib.Numerals.{add-one}
use native.Mathlib.Omega.{arith}
use mathlib.Core.Path.{◌≡◌, refl, sym, ap, ap₂, ◌∙◌}
use mathlib.Core.List.{List, [], ◌∷◌, ◌++◌, append-nil}
use lib.Dec.{eqb}
use lib.ListN.{length, replicate, length-append, length-replicate, drop_of_length-le}
use lib.Seq.{sets, sets-eq, length-sets}
use borrow.Rule.Slice.PartMut.{put_mid}
use borrow.Author.Tests.{eq-eqb, ne_eqb}
use Rattle.jougsilver.specs.Answer.{refusal_of, reply_of, reply_on}
use Rattle.jougsilver.specs.Host.{rest_on, entry_on, entry_at, entries_to}
use Rattle.record.specs.declared.reply.Reply.{Reply}
use Rattle.record.specs.Reply.{reply_row, reply_bytes}
use Rattle.record.specs.Writing.{buffered, numbers_row, numbers_bytes, room_refusal}
use Rattle.record.proofs.Cases.{cases}
use Rattle.record.proofs.RowLaws.{row_length_lem}
use Rattle.record.proofs.StoreLaws.{part_stored, sets_append, written_bytes}
use Rattle.sheet.specs.Contents.{edge_of}
use Rattle.transfer.specs.Reading.{reading}
use Rattle.tree.specs.numbers.Outcome.{Outcome}
use Rattle.tree.specs.Tree.{outcome_at}

pub numbers_length : (a b c : ℕ) → length (numbers_bytes a b c) ≡ 12
unfolding numbers_bytes
numbers_length a b c = row_length_lem numbers_row (a ∷ b ∷ c ∷ [])

reply_length : (r : Reply) → length (reply_bytes r) ≡ 24
unfolding reply_bytes
reply_length r = row_length_lem reply_row (24 ∷ 16 ∷ r.number ∷ r.code ∷ r.capacity.0 ∷ r.instant.0 ∷ r.margin ∷ r.stands.0 ∷ [])

rest_length : (number : ℕ) (o : Outcome) → length (rest_on number o) ≡ 24
unfolding rest_on reply_on
rest_length number o =
    cases (λ (bytes : List ℕ). length bytes ≡ 24) (eqb (refusal_of o) 0) (λ p. reply_length (reply_of number o)) (λ p. length-replicate {A = ℕ} 24 0)

entry_length : (number : ℕ) (o : Outcome) (byte : ℕ) → length (entry_on number o byte) ≡ 36
unfolding entry_on
entry_length number o byte =
    length-append (numbers_bytes (refusal_of o) number byte) (rest_on number o) ∙ ap₂ ◌+◌ (numbers_length (refusal_of o) number byte) (rest_length number o)

pub entries_length : (s : List ℕ) (k : ℕ) → length (entries_to s k) ≡ 36 * k
unfolding entries_to
entries_length s zero = refl
entries_length s (suc k) =
    let n : length (entry_at s k) ≡ 36 = entry_length _ _ _ in omega (arith, length-append (entries_to s k) (entry_at s k), entries_length s k)

-- where there is room for all its bytes, a writer leaves them stored
pub stored_all : (l : List ℕ) (at : ℕ) (bytes : List ℕ) (size : ℕ) → length bytes ≡ size → at + size ≤ length l
    → {new : List ℕ} → new ≡ buffered (room_refusal (length l) at size) l at bytes → new ≡ sets l at bytes
stored_all l at bytes size n h {new} e =
    written_bytes l at bytes (omega arith) new (e ∙ ap (λ (m : ℕ). buffered (room_refusal (length l) at m) l at bytes) (sym n))

-- bytes stored over all of a list are the list
sets_whole : (l bytes : List ℕ) → length bytes ≡ length l → sets l 0 bytes ≡ bytes
sets_whole l bytes e = sets-eq bytes l 0 (omega arith) ∙ rw (drop_of_length-le l {i = 0 + length bytes} (omega arith), append-nil)

-- the numbers at an entry's front
module _ (l : List ℕ) (number byte : ℕ) (o : Outcome) (long : length l ≡ 36) {half : List ℕ}
    (e : half ≡ buffered (room_refusal (length l) 0 (length (numbers_bytes (refusal_of o) number byte))) l 0 (numbers_bytes (refusal_of o) number byte)) where
  front : half ≡ sets l 0 (numbers_bytes (refusal_of o) number byte)
  front = stored_all l 0 (numbers_bytes (refusal_of o) number byte) 12 (numbers_length _ _ _) (omega arith) (rw (numbers_length (refusal_of o) number byte) at e)

  pub half_long : length half ≡ 36
  half_long = ap length front ∙ length-sets l 0 (numbers_bytes (refusal_of o) number byte) ∙ long

  -- and what is left behind them
  whole : {new : List ℕ} → new ≡ sets half 12 (rest_on number o) → new ≡ entry_on number o byte
  unfolding entry_on
  whole {new} f =
      let numbers = numbers_bytes (refusal_of o) number byte in
      let rest = rest_on number o in
      let n : 0 + length numbers ≡ 12 = omega (arith, numbers_length (refusal_of o) number byte) in
      f
      ∙ (ap₂ (λ (xs : List ℕ) (m : ℕ). sets xs m rest) front (sym n)
      ∙ (sym (sets_append l 0 numbers rest) ∙ sets_whole l (numbers ++ rest) (entry_length number o byte ∙ sym long)))

  -- a reply
  pub reply_put : refusal_of o ≡ 0 → {new : List ℕ} → new ≡ buffered (room_refusal (length half) 12 24) half 12 (reply_on number o) → new ≡ entry_on number o byte
  unfolding rest_on reply_on
  reply_put z e =
      whole (rw (eq-eqb (refusal_of o) 0 z) (stored_all half 12 (reply_bytes (reply_of number o)) 24 (reply_length (reply_of number o)) (omega (arith, half_long)) e))

  -- or zeros
  pub zeros_put : (refusal_of o ≡ 0 → ⊥) → {zeros : List ℕ} (k j : ℕ) → k ≡ 24 → j ≡ 24 → zeros ≡ replicate j 0 → put_mid 12 k half zeros ≡ entry_on number o byte
  unfolding rest_on
  zeros_put z {zeros} k j n m e =
      whole (rw (ne_eqb (refusal_of o) 0 z) (rw (e, m) (part_stored half 12 k (replicate 24 0) (omega arith) (omega (arith, half_long)))))

-- an entry behind those of the first k components
pub one_more_entry : (s l : List ℕ) (k m : ℕ) {now new : List ℕ} {number byte : ℕ} {o : Outcome} → now ≡ sets l 0 (entries_to s k)
    → number ≡ (reading s k).component.number → o ≡ outcome_at s k → byte ≡ edge_of s k → m ≡ 36 → 36 * k + 36 ≤ length l
    → new ≡ entry_on number o byte → put_mid (36 * k) m now new ≡ sets l 0 (entries_to s (k + 1))
unfolding entries_to
one_more_entry s l k m {now} {new} {number} {byte} {o} e is judged edge n room f =
    let next : entries_to s k ++ entry_on number o byte ≡ entries_to s (k + 1) = rw (is, judged, edge, add-one) in
    let size : length (entry_on number o byte) ≡ 36 = entry_length number o byte in
    let long : length now ≡ length l = ap length e ∙ length-sets l 0 (entries_to s k) in
    let here : put_mid (36 * k) m now new ≡ sets now (36 * k) (entry_on number o byte) = rw f (part_stored now (36 * k) m (entry_on number o byte) (omega arith) (omega arith)) in
    here
    ∙ (ap₂ (λ (xs : List ℕ) (i : ℕ). sets xs i (entry_on number o byte)) e (omega (arith, entries_length s k))
    ∙ (sym (sets_append l 0 (entries_to s k) (entry_on number o byte))
    ∙ ap (λ (xs : List ℕ). sets l 0 xs) next))
