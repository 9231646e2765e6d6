-- A record taken apart as the writer takes it: its kind, and the values of its row, with length and kind put in last.
use Rattle.std.specs.Prelude.{ℕ, cond, List, [], ◌∷◌, set}
use Rattle.budget.specs.declared.component.Capacity.{Capacity}
use Rattle.budget.specs.declared.component.Capacity.TheVariants.{Stated, Asked}
use Rattle.budget.specs.Task.{T, C, D, J}
use Rattle.record.specs.declared.layout.Head.{Head}
use Rattle.record.specs.Record.{Record, ComponentRecord, TaskRecord, PairRecord, EndRecord, NoRecord}
use Rattle.record.specs.Row.{row_length}

abbrev pub head_kind : Capacity → ℕ
head_kind (Stated u) = 1
head_kind Asked = 4

abbrev pub kind_of : Record → ℕ
kind_of (ComponentRecord h) = head_kind h.capacity
kind_of (TaskRecord stated k) = cond stated 5 2
kind_of (PairRecord p) = 6
kind_of (EndRecord n) = 3
kind_of (NoRecord n) = 0

abbrev pub head_fields : Head → Capacity → List ℕ
head_fields h (Stated u) = 0 ∷ 0 ∷ h.number ∷ h.period.0 ∷ u.0 ∷ h.deadline.0 ∷ 0 ∷ 0 ∷ []
head_fields h Asked = 0 ∷ 0 ∷ h.number ∷ h.period.0 ∷ h.deadline.0 ∷ 0 ∷ 0 ∷ 0 ∷ []

abbrev pub fields_of : Record → List ℕ
fields_of (ComponentRecord h) = head_fields h h.capacity
fields_of (TaskRecord stated k) = 0 ∷ 0 ∷ T k ∷ C k ∷ D k ∷ J k ∷ 0 ∷ 0 ∷ []
fields_of (PairRecord p) = 0 ∷ 0 ∷ p.child ∷ p.parent ∷ 0 ∷ 0 ∷ 0 ∷ 0 ∷ []
fields_of (EndRecord n) = 0 ∷ 0 ∷ n ∷ 0 ∷ 0 ∷ 0 ∷ 0 ∷ 0 ∷ []
fields_of (NoRecord n) = 0 ∷ 0 ∷ 0 ∷ 0 ∷ 0 ∷ 0 ∷ 0 ∷ 0 ∷ []

abbrev pub headed : List ℕ → ℕ → List ℕ → List ℕ
headed row kind fields = set (set fields 0 (row_length row)) 1 kind
