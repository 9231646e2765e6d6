-- Laws of storing bytes from a place on: one store behind the other, and a store into the part that begins at a place, which is a store into the whole.
use Prim.Native.Nat.{ℕ, suc, ◌+◌, ◌-◌, ◌≤◌}
use mathlib.Core.Path.{◌≡◌, refl, sym, ap, ◌∙◌}
use mathlib.Core.List.{List, [], ◌∷◌, ◌++◌, append-nil, append_assoc}
use native.Mathlib.Omega.{arith}
use native.Mathlib.Nat.{add-suc, suc-add, add-zero, zero-add, le_of_eq}
use lib.ListN.{length, take, drop, set, length-drop, take-append-drop, drop_of_length-le}
use lib.Seq.{sets, sets-eq, take_all, length-take-le, drop-drop}
use lib.Dec.{leb}
use borrow.Author.Tests.{leb-true, le-leb}
use borrow.Rule.Slice.PartMut.{put_mid}
use Rattle.record.specs.Writing.{Written}
use Rattle.record.specs.Writing.{stored, room_refusal, written, buffered}
use Rattle.record.proofs.Cases.{cases}

-- one store behind the other
pub sets_append : (l : List ℕ) (i : ℕ) (a b : List ℕ) → sets l i (a ++ b) ≡ sets (sets l i a) (i + length a) b
sets_append l i [] b = rw add-zero
sets_append l i (x ∷ a) b = sets_append (set l i x) (suc i) a b ∙ rw (add-suc, ← suc-add)

-- a store into the second of two parts
set_right : (xs ys : List ℕ) (i x : ℕ) → set (xs ++ ys) (length xs + i) x ≡ xs ++ set ys i x
set_right [] ys i x = rw zero-add
set_right (y ∷ xs) ys i x = rw suc-add (ap (λ (l : List ℕ). y ∷ l) (set_right xs ys i x))

sets_right : (xs ys : List ℕ) (i : ℕ) (vs : List ℕ) → sets (xs ++ ys) (length xs + i) vs ≡ xs ++ sets ys i vs
sets_right xs ys i [] = refl
sets_right xs ys i (v ∷ vs) = rw (set_right, ← add-suc) (sets_right xs (set ys i v) (suc i) vs)

-- what is stored at the front of the part that begins at p is stored in the whole from p on
sets_part : (l : List ℕ) (p : ℕ) (vs : List ℕ) → p ≤ length l → take p l ++ sets (drop p l) 0 vs ≡ sets l p vs
sets_part l p vs h =
    let n : length (take p l) ≡ p = length-take-le p l h in
    sym (sets_right (take p l) (drop p l) 0 vs) ∙ rw (add-zero, n, take-append-drop)

-- a part that is filled
pub part_stored : (l : List ℕ) (at m : ℕ) (bytes : List ℕ) → m ≡ length bytes → at + length bytes ≤ length l → put_mid at m l bytes ≡ sets l at bytes
part_stored l at m bytes e h = rw (e, drop-drop, ← append_assoc) (sym (sets-eq bytes l at h))

-- the part from a place on, as the code lends it
pub lent : (l : List ℕ) (p : ℕ) → take (length l - p) (drop p l) ≡ drop p l
lent l p = take_all (length l - p) (drop p l) (le_of_eq (length-drop p l))

-- and as it comes back to the buffer
pub stored_back : (l : List ℕ) (p : ℕ) (vs new : List ℕ) → p ≤ length l → new ≡ sets (take (length l - p) (drop p l)) 0 vs → put_mid p (length l - p) l new ≡ sets l p vs
stored_back l p vs new h e =
    let n : drop (length l - p) (drop p l) ≡ [] = drop_of_length-le (drop p l) {i = length l - p} (le_of_eq (length-drop p l)) in
    rw (n, e, lent l p, append-nil) (sets_part l p vs h)

-- a place that is not refused has room behind it, and one with room is not refused
pub room_given : (room at size : ℕ) → room_refusal room at size ≡ 0 → at + size ≤ room
unfolding room_refusal
room_given room at size =
    cases (λ (n : ℕ). n ≡ 0 → at + size ≤ room) (leb (at + size) room) (λ p e. leb-true (at + size) room p) (λ p e. absurd (omega (arith, e)))

pub room_free : (room at size : ℕ) → at + size ≤ room → room_refusal room at size ≡ 0
unfolding room_refusal
room_free room at size h = rw (le-leb (at + size) room h)

-- what is stored in the part from its place on is stored in the buffer
pub stored_part : (l : List ℕ) (at : ℕ) (bytes new : List ℕ) → at + length bytes ≤ length l → new ≡ sets (take (length l - at) (drop at l)) 0 bytes → put_mid at (length l - at) l new ≡ stored l at bytes
unfolding stored
stored_part l at bytes new h e = stored_back l at bytes new (omega arith) e ∙ sets-eq bytes l at h

-- where there is room, a writer answers the place behind its bytes, and leaves them stored
module _ (l : List ℕ) (at : ℕ) (bytes : List ℕ) (h : at + length bytes ≤ length l) where
  pub written_place : (w : Written) → w ≡ written (room_refusal (length l) at (length bytes)) at bytes → w.place ≡ at + length bytes
  unfolding written
  written_place w e = ap (λ (v : Written). v.place) e ∙ rw (room_free (length l) at (length bytes) h)

  pub written_bytes : (new : List ℕ) → new ≡ buffered (room_refusal (length l) at (length bytes)) l at bytes → new ≡ sets l at bytes
  unfolding buffered stored
  written_bytes new e = e ∙ rw (room_free (length l) at (length bytes) h) (sym (sets-eq bytes l at h))
