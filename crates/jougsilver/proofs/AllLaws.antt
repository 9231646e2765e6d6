-- All components in one call: the sheet's refusal comes first, then that of the room for all of it; with both past, what the sheet was answered and the
-- entries behind it are stored as one.
use Prim.Native.Nat.{ℕ, ◌+◌, ◌*◌, ◌^◌, ◌≤◌, ◌<◌}
use native.Mathlib.Omega.{arith}
use mathlib.Core.Path.{◌≡◌, sym, ap, ap₂, ◌∙◌}
use mathlib.Core.List.{List, ◌++◌}
use lib.ListN.{length, length-append}
use lib.Seq.{sets, length-sets, sets-eq}
use borrow.Author.Tests.{eq-eqb, ne_eqb}
use mir.Syntax.{w64}
use mir.Val.{Fits}
use Rattle.jougsilver.specs.Host.{all_refusal, all_reply, entries_to}
use Rattle.record.specs.Writing.{buffered, room_refusal, stored}
use Rattle.record.proofs.StoreLaws.{room_free, sets_append}
use Rattle.sheet.specs.Check.{Checked}
use Rattle.sheet.specs.Check.{check}
use Rattle.transfer.specs.Reply.{checked_bytes}
use Rattle.jougsilver.proofs.EntryLaws.{entries_length, numbers_length, stored_all}

checked_length : (d : Checked) → length (checked_bytes d) ≡ 12
unfolding checked_bytes
checked_length d = numbers_length d.refusal d.place d.count

module _ (s : List ℕ) (d : Checked) (is : d ≡ check s) (room at : ℕ) where
  pub sheet_first : (d.refusal ≡ 0 → ⊥) → d.refusal ≡ all_refusal s room at
  unfolding all_refusal
  sheet_first h = rw (← is, ne_eqb d.refusal 0 h)

  pub room_next : d.refusal ≡ 0 → all_refusal s room at ≡ room_refusal room at (12 + 36 * d.count)
  unfolding all_refusal
  room_next z = rw (← is, eq-eqb d.refusal 0 z)

module _ (s : List ℕ) (d : Checked) (is : d ≡ check s) (l : List ℕ) (at : ℕ) (fits : at + (12 + 36 * d.count) ≤ length l)
    {half : List ℕ} (e : half ≡ buffered (room_refusal (length l) at 12) l at (checked_bytes d)) where
  checked_put : half ≡ sets l at (checked_bytes d)
  checked_put = stored_all l at (checked_bytes d) 12 (checked_length d) (omega arith) e

  -- the entries have room behind it
  pub entries_fit : at + 12 + 36 * d.count ≤ length half
  entries_fit = omega (arith, ap length checked_put ∙ length-sets l at (checked_bytes d))

  pub all_put : d.refusal ≡ 0 → {last : List ℕ} → last ≡ sets half (at + 12) (entries_to s d.count) → last ≡ buffered (all_refusal s (length l) at) l at (all_reply s)
  unfolding all_reply buffered stored
  all_put z {last} f =
      let front = checked_bytes d in
      let entries = entries_to s d.count in
      let n : length front ≡ 12 = checked_length d in
      let m : length (front ++ entries) ≡ 12 + 36 * d.count = length-append front entries ∙ ap₂ ◌+◌ n (entries_length s d.count) in
      let free : all_refusal s (length l) at ≡ 0 = room_next s d is (length l) at z ∙ room_free (length l) at (12 + 36 * d.count) fits in
      f
      ∙ (ap₂ (λ (xs : List ℕ) (k : ℕ). sets xs (at + k) entries) checked_put (sym n)
      ∙ (sym (sets_append l at front entries) ∙ (sets-eq (front ++ entries) l at (omega arith) ∙ rw (free, ← is))))

-- the place where the entries begin is a number
pub entries_place : (at m n : ℕ) → at + (12 + m) ≤ n → n < 2 ^ 64 → Fits w64 (at + 12)
entries_place at m n h k = record { fits = omega arith }
