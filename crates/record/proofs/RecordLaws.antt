-- Laws of one record: read, it is no longer than what is left; its bytes are those of its kind's row, and as many as its size says.
use Prim.Native.Nat.{ℕ, ◌≤◌, zero-le}
use mathlib.Core.Path.{◌≡◌, refl, sym, ap, ◌∙◌}
use mathlib.Core.Bool.{true, false}
use mathlib.Core.List.{List}
use lib.ListN.{length}
use lib.Dec.{ltb, eqb}
use borrow.Author.Tests.{ltb-false}
use Rattle.budget.specs.Refusal as refusal
use Rattle.budget.specs.declared.component.Capacity.{Capacity}
use Rattle.budget.specs.declared.component.Capacity.TheVariants.{Stated, Asked}
use Rattle.record.specs.declared.layout.Head.{Head}
use Rattle.record.specs.Record.{Record, ComponentRecord, TaskRecord, PairRecord, EndRecord, NoRecord}
use Rattle.record.specs.Field.{encode, field}
use Rattle.record.specs.Row.{row_length, row_bytes, values_at}
use Rattle.record.specs.Layout.{row_of, record_with, head_bytes, task_bytes_by, pair_bytes, end_bytes, record_bytes, head_size, task_size, size_of, of_kind, record_of}
use Rattle.record.specs.inner.Fields.{head_kind, head_fields, kind_of, fields_of, headed}
use Rattle.record.proofs.Cases.{cases}
use Rattle.record.proofs.KindLaws.{by_kind}
use Rattle.record.proofs.RowLaws.{row_length_lem}

module _ (s : List ℕ) where
  abbrev Within : Record → Type 0
  Within r = size_of r ≤ length s

  no_record : (n : ℕ) → Within (NoRecord n)
  unfolding size_of
  no_record n = zero-le

  with_kind : (vs : List ℕ) (k : ℕ) → row_length (row_of k) ≤ length s → Within (record_with k vs)
  unfolding row_of record_with size_of head_size task_size
  with_kind vs =
      by_kind (λ (k : ℕ). row_length (row_of k) ≤ length s → Within (record_with k vs)) (λ h. h) (λ h. h) (λ h. h) (λ h. h) (λ h. h) (λ h. h)
      (λ k u h. rw (u.reads vs) (no_record refusal.kind))

  of_kind_lem : (kind size : ℕ) → Within (of_kind s kind size)
  unfolding of_kind
  of_kind_lem kind size =
      let room = row_length (row_of kind) in
      cases Within (eqb room 0) (λ p. no_record refusal.kind)
      (λ p. cases Within (eqb size room)
      (λ q. cases Within (ltb (length s) room) (λ r. no_record refusal.cut) (λ r. with_kind (values_at (row_of kind) s 0) kind (ltb-false (length s) room r)))
      (λ q. no_record refusal.bad_length))

  pub size_within : size_of (record_of s) ≤ length s
  unfolding record_of
  size_within = cases Within (ltb (length s) 4) (λ p. no_record refusal.cut) (λ p. of_kind_lem (field s 2 2) (field s 0 2))

-- a record's bytes and size, as the writer has them
head_row : (h : Head) (c : Capacity) → head_bytes h.number h.period.0 c h.deadline.0 ≡ row_bytes (row_of (head_kind c)) (headed (row_of (head_kind c)) (head_kind c) (head_fields h c))
unfolding head_bytes row_of
head_row h (Stated u) = refl
head_row h Asked = refl

size_head : (c : Capacity) → head_size c ≡ row_length (row_of (head_kind c))
unfolding head_size row_of
size_head (Stated u) = refl
size_head Asked = refl

pub record_row : (r : Record) → record_bytes r ≡ row_bytes (row_of (kind_of r)) (headed (row_of (kind_of r)) (kind_of r) (fields_of r))
unfolding record_bytes head_bytes task_bytes_by pair_bytes end_bytes row_of encode
record_row (ComponentRecord h) = head_row h h.capacity
record_row (TaskRecord true k) = refl
record_row (TaskRecord false k) = refl
record_row (PairRecord p) = refl
record_row (EndRecord n) = refl
record_row (NoRecord n) = refl

pub size_row : (r : Record) → size_of r ≡ row_length (row_of (kind_of r))
unfolding size_of head_size task_size row_of
size_row (ComponentRecord h) = size_head h.capacity
size_row (TaskRecord true k) = refl
size_row (TaskRecord false k) = refl
size_row (PairRecord p) = refl
size_row (EndRecord n) = refl
size_row (NoRecord n) = refl

pub record_length : (r : Record) → length (record_bytes r) ≡ size_of r
record_length r = ap length (record_row r) ∙ (row_length_lem (row_of (kind_of r)) (headed (row_of (kind_of r)) (kind_of r) (fields_of r)) ∙ sym (size_row r))

-- a row with its length and kind in front, as the writers make it
headed_bytes : (row ws : List ℕ) (kind : ℕ) (fields values : List ℕ) → row ≡ ws → values ≡ headed row kind fields → row_bytes row values ≡ row_bytes ws (headed ws kind fields)
headed_bytes row ws kind fields values e f = rw (f, e)

pub record_bytes_lem : (r : Record) (kind : ℕ) (row fields values : List ℕ) → kind ≡ kind_of r → row ≡ row_of kind → fields ≡ fields_of r → values ≡ headed row kind fields → row_bytes row values ≡ record_bytes r
record_bytes_lem r kind row fields values k e f v = headed_bytes row (row_of kind) kind fields values e v ∙ rw (f, k) (sym (record_row r))
