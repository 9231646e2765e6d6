-- What writing a component, or the end, makes of a buffer and answers (RULES 10, 11).
use Rattle.std.specs.Prelude.{ℕ, cond, List, [], ◌∷◌, ◌++◌, length, ltb, eqb}
use Rattle.budget.specs.declared.component.Component.{Component}
use Rattle.budget.specs.declared.task.Task.{Task}
use Rattle.budget.specs.Component.{held_refusal}
use Rattle.budget.specs.Refusal as refusal
use Rattle.budget.specs.Task.{tasks_of}
use Rattle.record.specs.Layout.{head_bytes, task_bytes, end_bytes}
unfoldable pub use Rattle.record.specs.Writing.{stored, room_refusal, written, buffered}
use Rattle.sheet.specs.Check.{most_components}

unfoldable pub tasks_bytes : List Task → List ℕ
tasks_bytes [] = []
tasks_bytes (k ∷ ks) = task_bytes k ++ tasks_bytes ks

-- one component's records: its own, then its tasks'; what it stores is in none of them
unfoldable pub component_bytes : Component → List ℕ
component_bytes c = head_bytes c.number c.period.0 c.capacity c.deadline.0 ++ tasks_bytes (tasks_of c.table)

-- a component that can't be taken, by its ranges or its stored value, is refused before a buffer without room for all of it (RULES 13)
unfoldable pub writing_refusal : ℕ → ℕ → Component → ℕ
writing_refusal room at c =
    cond (eqb (held_refusal c) refusal.none) (room_refusal room at (length (component_bytes c))) (held_refusal c)

-- so is a count of components that no sheet has
unfoldable pub end_refusal : ℕ → ℕ → ℕ → ℕ
end_refusal room at count = cond (ltb most_components count) refusal.range (room_refusal room at (length (end_bytes count)))
