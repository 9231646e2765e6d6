-- The records of a sheet (RULES 10): length, kind and fields. Each kind is a row of widths, and says what its values are.
use Rattle.std.specs.Prelude.{ℕ, Bool, true, false, cond, List, [], ◌∷◌, length, get_or, ltb, eqb}
use Rattle.budget.specs.declared.component.Capacity.{Capacity}
use Rattle.budget.specs.declared.component.Capacity.TheVariants.{Stated, Asked}
use Rattle.budget.specs.declared.task.Task.{Task}
use Rattle.budget.specs.Refusal as refusal
use Rattle.budget.specs.Task.{T, C, D, J}
use Rattle.record.specs.declared.layout.Head.{Head}
use Rattle.record.specs.declared.layout.Pair.{Pair}
use Rattle.record.specs.Record.{Record, ComponentRecord, TaskRecord, PairRecord, EndRecord, NoRecord}
use Rattle.record.specs.Field.{field}
use Rattle.record.specs.Row.{row_length, row_bytes, values_at}

-- ---- the kinds, each a row of widths: length, kind, then the fields; 0 fills up to eight

abbrev pub stated_row : List ℕ
stated_row = 2 ∷ 2 ∷ 2 ∷ 4 ∷ 4 ∷ 4 ∷ 0 ∷ 0 ∷ []

abbrev pub task_row : List ℕ
task_row = 2 ∷ 2 ∷ 4 ∷ 4 ∷ 4 ∷ 0 ∷ 0 ∷ 0 ∷ []

abbrev pub end_row : List ℕ
end_row = 2 ∷ 2 ∷ 2 ∷ 0 ∷ 0 ∷ 0 ∷ 0 ∷ 0 ∷ []

abbrev pub asked_row : List ℕ
asked_row = 2 ∷ 2 ∷ 2 ∷ 4 ∷ 4 ∷ 0 ∷ 0 ∷ 0 ∷ []

abbrev pub late_row : List ℕ
late_row = 2 ∷ 2 ∷ 4 ∷ 4 ∷ 4 ∷ 4 ∷ 0 ∷ 0 ∷ []

abbrev pub pair_row : List ℕ
pair_row = 2 ∷ 2 ∷ 2 ∷ 2 ∷ 0 ∷ 0 ∷ 0 ∷ 0 ∷ []

-- a kind that isn't in the list has no fields
abbrev pub no_row : List ℕ
no_row = 0 ∷ 0 ∷ 0 ∷ 0 ∷ 0 ∷ 0 ∷ 0 ∷ 0 ∷ []

unfoldable pub row_of : ℕ → List ℕ
row_of kind =
    cond (eqb kind 1) stated_row
    (cond (eqb kind 2) task_row
    (cond (eqb kind 3) end_row
    (cond (eqb kind 4) asked_row
    (cond (eqb kind 5) late_row
    (cond (eqb kind 6) pair_row no_row)))))

-- ---- the bytes of each record

-- a record of a kind: the length that its row gives it, its kind, its fields
abbrev pub framed : ℕ → List ℕ → List ℕ → List ℕ
framed kind row fields = row_bytes row (row_length row ∷ kind ∷ fields)

unfoldable pub head_bytes : ℕ → ℕ → Capacity → ℕ → List ℕ
head_bytes number period (Stated u) deadline = framed 1 stated_row (number ∷ period ∷ u.0 ∷ deadline ∷ [])
head_bytes number period Asked deadline = framed 4 asked_row (number ∷ period ∷ deadline ∷ [])

-- a task's record where its J is stated, and where it is not
unfoldable pub task_bytes_by : Bool → Task → List ℕ
task_bytes_by true k = framed 5 late_row (T k ∷ C k ∷ D k ∷ J k ∷ [])
task_bytes_by false k = framed 2 task_row (T k ∷ C k ∷ D k ∷ [])

-- each task has one form: its J is stated exactly where it is not 0
unfoldable pub task_bytes : Task → List ℕ
task_bytes k = task_bytes_by (ltb 0 (J k)) k

-- the child's number, then its parent's
unfoldable pub pair_bytes : Pair → List ℕ
pair_bytes p = framed 6 pair_row (p.child ∷ p.parent ∷ [])

unfoldable pub end_bytes : ℕ → List ℕ
end_bytes count = framed 3 end_row (count ∷ [])

unfoldable pub record_bytes : Record → List ℕ
record_bytes (ComponentRecord h) = head_bytes h.number h.period.0 h.capacity h.deadline.0
record_bytes (TaskRecord stated k) = task_bytes_by stated k
record_bytes (PairRecord p) = pair_bytes p
record_bytes (EndRecord count) = end_bytes count
record_bytes (NoRecord n) = []

-- the lengths of the records
unfoldable pub head_size : Capacity → ℕ
head_size (Stated u) = row_length stated_row
head_size Asked = row_length asked_row

unfoldable pub task_size : Bool → ℕ
task_size true = row_length late_row
task_size false = row_length task_row

unfoldable pub size_of : Record → ℕ
size_of (ComponentRecord h) = head_size h.capacity
size_of (TaskRecord stated k) = task_size stated
size_of (PairRecord p) = row_length pair_row
size_of (EndRecord count) = row_length end_row
size_of (NoRecord n) = 0

-- ---- what the values of a row say, of a record of each kind

abbrev pub stated_of : List ℕ → Head
stated_of vs =
    record {
      number = get_or vs 2 0;
      period = record { 0 = get_or vs 3 0 };
      capacity = Stated (record { 0 = get_or vs 4 0 });
      deadline = record { 0 = get_or vs 5 0 };
    }

abbrev pub asked_of : List ℕ → Head
asked_of vs =
    record {
      number = get_or vs 2 0;
      period = record { 0 = get_or vs 3 0 };
      capacity = Asked;
      deadline = record { 0 = get_or vs 4 0 };
    }

-- a task whose J is not stated has J = 0
abbrev pub task_of : List ℕ → ℕ → Task
task_of vs late =
    record {
      period = record { 0 = get_or vs 2 0 };
      work = record { 0 = get_or vs 3 0 };
      deadline = record { 0 = get_or vs 4 0 };
      lateness = record { 0 = late };
    }

abbrev pub pair_of : List ℕ → Pair
pair_of vs = record { child = get_or vs 2 0; parent = get_or vs 3 0 }

-- the record of a kind with these values
unfoldable pub record_with : ℕ → List ℕ → Record
record_with kind vs =
    cond (eqb kind 1) (ComponentRecord (stated_of vs))
    (cond (eqb kind 2) (TaskRecord false (task_of vs 0))
    (cond (eqb kind 3) (EndRecord (get_or vs 2 0))
    (cond (eqb kind 4) (ComponentRecord (asked_of vs))
    (cond (eqb kind 5) (TaskRecord true (task_of vs (get_or vs 5 0)))
    (cond (eqb kind 6) (PairRecord (pair_of vs)) (NoRecord refusal.kind))))))

-- ---- the record that begins a row of bytes

-- refused in this order (RULES 13): a kind that isn't in the list, a length that isn't the kind's, fewer bytes than that
unfoldable pub of_kind : List ℕ → ℕ → ℕ → Record
of_kind s kind size =
    cond (eqb (row_length (row_of kind)) 0) (NoRecord refusal.kind)
    (cond (eqb size (row_length (row_of kind)))
    (cond (ltb (length s) (row_length (row_of kind))) (NoRecord refusal.cut) (record_with kind (values_at (row_of kind) s 0)))
    (NoRecord refusal.bad_length))

-- fewer bytes than a length and a kind are a cut record before all that
unfoldable pub record_of : List ℕ → Record
record_of s = cond (ltb (length s) 4) (NoRecord refusal.cut) (of_kind s (field s 2 2) (field s 0 2))
