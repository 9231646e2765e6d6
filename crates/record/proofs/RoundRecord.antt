-- A record read is its bytes, and bytes of a record are read as it: both by the laws of rows, which the header's two fields belong to.
use Prim.Native.Nat.{ℕ, ◌+◌, ◌^◌, ◌≤◌, ◌<◌}
use mathlib.Core.Path.{◌≡◌, refl, sym, ap, ap₂, ◌∙◌}
use mathlib.Core.Bool.{Bool, true, false, false≢true}
use mathlib.Core.List.{List, [], ◌∷◌, ◌++◌}
use native.Mathlib.Nat.{zero-add}
use native.Mathlib.Omega.{arith}
use lib.ListN.{length, get_or, drop, length-append}
use lib.Dec.{ltb, eqb}
use borrow.Author.Tests.{ltb-false, eqb-true, eqb-false, le-ltb, eq-eqb, ne_eqb}
use Rattle.budget.specs.declared.component.Capacity.{Capacity}
use Rattle.budget.specs.declared.component.Capacity.TheVariants.{Stated, Asked}
use Rattle.budget.specs.declared.task.Task.{Task}
use Rattle.budget.specs.Component.{units_of}
use Rattle.budget.specs.Task.{T, C, D, J}
use Rattle.record.specs.declared.layout.Head.{Head}
use Rattle.record.specs.declared.layout.Pair.{Pair}
use Rattle.record.specs.Record.{Record, ComponentRecord, TaskRecord, PairRecord, EndRecord, NoRecord}
use Rattle.record.specs.Field.{encode, field, Bytes}
use Rattle.record.specs.Row.{row_length, row_bytes, values_at}
use Rattle.record.specs.Layout.{stated_row, asked_row, pair_row, row_of, framed, head_bytes, task_bytes_by, task_bytes, pair_bytes, end_bytes, record_bytes, head_size, task_size, task_of, record_with, of_kind, record_of}
use Rattle.record.proofs.Cases.{cases}
use Rattle.record.proofs.RowLaws.{Fit, row_length_lem, values_back, bytes_back, values_fit}
use Rattle.record.proofs.KindLaws.{by_kind}

-- the head with these numbers
abbrev pub head : ℕ → ℕ → Capacity → ℕ → Head
head number period c deadline = record { number = number; period = record { 0 = period }; capacity = c; deadline = record { 0 = deadline } }

-- what a row of bytes is, where a record was read at its front: the record's bytes and then the rest; a component's number and those of a pair are of 2 bytes, a J that isn't stated is 0, and no refusal is 0
abbrev pub Faithful : List ℕ → Record → Type 0
Faithful s (ComponentRecord h) = (h.number < 65_536) × (s ≡ record_bytes (ComponentRecord h) ++ drop (head_size h.capacity) s)
Faithful s (TaskRecord stated k) = (stated ≡ false → J k ≡ 0) × (s ≡ task_bytes_by stated k ++ drop (task_size stated) s)
Faithful s (PairRecord p) = (p.child < 65_536) × ((p.parent < 65_536) × (s ≡ pair_bytes p ++ drop 8 s))
Faithful s (EndRecord n) = s ≡ end_bytes n ++ drop 6 s
Faithful s (NoRecord n) = n ≡ 0 → ⊥

module _ (s : List ℕ) (bytes : Bytes s) where
  -- a row of bytes whose first two fields are a length and a kind
  opened : (ws : List ℕ) (size kind : ℕ) → row_length (2 ∷ 2 ∷ ws) ≤ length s → field s 0 2 ≡ size → field s 2 2 ≡ kind
      → s ≡ row_bytes (2 ∷ 2 ∷ ws) (size ∷ kind ∷ values_at ws s 4) ++ drop (row_length (2 ∷ 2 ∷ ws)) s
  opened ws size kind h e f =
      let row : List ℕ = 2 ∷ 2 ∷ ws in
      bytes_back row s 0 bytes (omega arith)
      ∙ (ap (λ (n : ℕ). row_bytes row (values_at row s 0) ++ drop n s) (zero-add (row_length row))
      ∙ ap₂ (λ (a k : ℕ). row_bytes row (a ∷ k ∷ values_at ws s 4) ++ drop (row_length row) s) e f)

  -- a record of each kind, with its kind's length and as many bytes
  abbrev Kept : ℕ → Type 0
  Kept k = (row_length (row_of k) ≡ 0 → ⊥) → row_length (row_of k) ≤ length s → field s 0 2 ≡ row_length (row_of k) → field s 2 2 ≡ k
      → Faithful s (record_with k (values_at (row_of k) s 0))

  with_kind : (k : ℕ) → Kept k
  unfolding row_of record_with record_bytes head_bytes task_bytes_by pair_bytes end_bytes head_size task_size encode
  with_kind =
      by_kind Kept
      (λ l h e f. ((values_fit stated_row s 0 bytes).1.1.0, opened (2 ∷ 4 ∷ 4 ∷ 4 ∷ 0 ∷ 0 ∷ []) 18 1 h e f))
      (λ l h e f. (λ n. refl, opened (4 ∷ 4 ∷ 4 ∷ 0 ∷ 0 ∷ 0 ∷ []) 16 2 h e f))
      (λ l h e f. opened (2 ∷ 0 ∷ 0 ∷ 0 ∷ 0 ∷ 0 ∷ []) 6 3 h e f)
      (λ l h e f. ((values_fit asked_row s 0 bytes).1.1.0, opened (2 ∷ 4 ∷ 4 ∷ 0 ∷ 0 ∷ 0 ∷ []) 14 4 h e f))
      (λ l h e f. (λ n. absurd (false≢true (sym n)), opened (4 ∷ 4 ∷ 4 ∷ 4 ∷ 0 ∷ 0 ∷ []) 20 5 h e f))
      (λ l h e f. let fit = (values_fit pair_row s 0 bytes).1.1 in (fit.0, (fit.1.0, opened (2 ∷ 2 ∷ 0 ∷ 0 ∷ 0 ∷ 0 ∷ []) 8 6 h e f)))
      (λ k u l h e f. absurd (l (ap row_length u.row)))

  of_kind_lem : Faithful s (of_kind s (field s 2 2) (field s 0 2))
  unfolding of_kind
  of_kind_lem =
      let kind = field s 2 2 in
      let room = row_length (row_of kind) in
      cases (Faithful s) (eqb room 0) (λ p e. omega (arith, e))
      (λ p. cases (Faithful s) (eqb (field s 0 2) room)
      (λ q. cases (Faithful s) (ltb (length s) room) (λ r e. omega (arith, e))
      (λ r. with_kind kind (eqb-false room 0 p) (ltb-false (length s) room r) (eqb-true (field s 0 2) room q) refl))
      (λ q e. omega (arith, e)))

  pub faithful : Faithful s (record_of s)
  unfolding record_of
  faithful = cases (Faithful s) (ltb (length s) 4) (λ p e. omega (arith, e)) (λ p. of_kind_lem)

-- values that fit their fields are read back
module _ (kind : ℕ) (ws fields rest : List ℕ) where
  record_back : row_of kind ≡ 2 ∷ 2 ∷ ws → Fit (2 ∷ 2 ∷ ws) (row_length (2 ∷ 2 ∷ ws) ∷ kind ∷ fields)
      → record_of (framed kind (2 ∷ 2 ∷ ws) fields ++ rest) ≡ record_with kind (row_length (2 ∷ 2 ∷ ws) ∷ kind ∷ fields)
  unfolding record_of of_kind
  record_back row fit =
      let size = row_length (2 ∷ 2 ∷ ws) in
      let values = size ∷ kind ∷ fields in
      let s = row_bytes (2 ∷ 2 ∷ ws) values ++ rest in
      let back : values_at (2 ∷ 2 ∷ ws) s 0 ≡ values = values_back [] (2 ∷ 2 ∷ ws) values rest fit in
      let e : field s 0 2 ≡ size = ap (λ (l : List ℕ). get_or l 0 0) back in
      let f : field s 2 2 ≡ kind = ap (λ (l : List ℕ). get_or l 1 0) back in
      let n : length s ≡ size + length rest = length-append (row_bytes (2 ∷ 2 ∷ ws) values) rest ∙ ap (λ (k : ℕ). k + length rest) (row_length_lem (2 ∷ 2 ∷ ws) values) in
      rw (le-ltb (length s) 4 (omega arith), f, e, row, ne_eqb size 0 (λ z. omega (arith, z)), eq-eqb size size refl, le-ltb (length s) size (omega arith), back)

-- of each kind
module _ (rest : List ℕ) where
  task_back_by : (stated : Bool) (k : Task) → T k < 256 ^ 4 → C k < 256 ^ 4 → D k < 256 ^ 4 → J k < 256 ^ 4 → (stated ≡ false → J k ≡ 0)
      → record_of (task_bytes_by stated k ++ rest) ≡ TaskRecord stated k
  unfolding row_of task_bytes_by record_with
  task_back_by true k t c d j z =
      record_back 5 (4 ∷ 4 ∷ 4 ∷ 4 ∷ 0 ∷ 0 ∷ []) (T k ∷ C k ∷ D k ∷ J k ∷ 0 ∷ 0 ∷ []) rest refl
      (omega arith, (omega arith, (t, (c, (d, (j, (omega arith, (omega arith, tt))))))))
  task_back_by false k t c d j z =
      record_back 2 (4 ∷ 4 ∷ 4 ∷ 0 ∷ 0 ∷ 0 ∷ []) (T k ∷ C k ∷ D k ∷ 0 ∷ 0 ∷ 0 ∷ []) rest refl
      (omega arith, (omega arith, (t, (c, (d, (omega arith, (omega arith, (omega arith, tt))))))))
      ∙ ap (λ (n : ℕ). TaskRecord false (task_of (0 ∷ 0 ∷ T k ∷ C k ∷ D k ∷ []) n)) (sym (z refl))

  -- in the form that is written
  pub task_back : (k : Task) → T k < 256 ^ 4 → C k < 256 ^ 4 → D k < 256 ^ 4 → J k < 256 ^ 4 → record_of (task_bytes k ++ rest) ≡ TaskRecord (ltb 0 (J k)) k
  unfolding task_bytes
  task_back k t c d j = task_back_by (ltb 0 (J k)) k t c d j (λ n. omega (arith, ltb-false 0 (J k) n))

  pub end_back : (n : ℕ) → n < 256 ^ 2 → record_of (end_bytes n ++ rest) ≡ EndRecord n
  unfolding row_of end_bytes record_with
  end_back n h =
      record_back 3 (2 ∷ 0 ∷ 0 ∷ 0 ∷ 0 ∷ 0 ∷ []) (n ∷ 0 ∷ 0 ∷ 0 ∷ 0 ∷ 0 ∷ []) rest refl
      (omega arith, (omega arith, (h, (omega arith, (omega arith, (omega arith, (omega arith, (omega arith, (tt)))))))))

  pub pair_back : (p : Pair) → p.child < 256 ^ 2 → p.parent < 256 ^ 2 → record_of (pair_bytes p ++ rest) ≡ PairRecord p
  unfolding row_of pair_bytes record_with
  pair_back p c q =
      record_back 6 (2 ∷ 2 ∷ 0 ∷ 0 ∷ 0 ∷ 0 ∷ []) (p.child ∷ p.parent ∷ 0 ∷ 0 ∷ 0 ∷ 0 ∷ []) rest refl
      (omega arith, (omega arith, (c, (q, (omega arith, (omega arith, (omega arith, (omega arith, tt))))))))

  pub head_back : (number period : ℕ) (c : Capacity) (deadline : ℕ) → number < 256 ^ 2 → period < 256 ^ 4 → units_of c < 256 ^ 4 → deadline < 256 ^ 4 → record_of (head_bytes number period c deadline ++ rest) ≡ ComponentRecord (head number period c deadline)
  unfolding row_of head_bytes record_with
  head_back number period (Stated u) deadline n p q d =
      record_back 1 (2 ∷ 4 ∷ 4 ∷ 4 ∷ 0 ∷ 0 ∷ []) (number ∷ period ∷ u.0 ∷ deadline ∷ 0 ∷ 0 ∷ []) rest refl
      (omega arith, (omega arith, (n, (p, (q, (d, (omega arith, (omega arith, (tt)))))))))
  head_back number period Asked deadline n p q d =
      record_back 4 (2 ∷ 4 ∷ 4 ∷ 0 ∷ 0 ∷ 0 ∷ []) (number ∷ period ∷ deadline ∷ 0 ∷ 0 ∷ 0 ∷ []) rest refl
      (omega arith, (omega arith, (n, (p, (d, (omega arith, (omega arith, (omega arith, (tt)))))))))
