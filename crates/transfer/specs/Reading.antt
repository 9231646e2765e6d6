-- Reading one component: its number and interface from its record, its tasks from the records behind it, and their common period.
use Rattle.std.specs.Prelude.{ℕ, zero, suc, cond, List, [], ◌∷◌, drop, eqb, Result, Ok, Err, ◌≡◌}
use Rattle.budget.specs.declared.component.Component.{Component}
use Rattle.budget.specs.declared.right.Known.{Known}
use Rattle.budget.specs.declared.task.Task.{Task}
use Rattle.budget.specs.Common.{common_of}
use Rattle.budget.specs.Component.{refused}
use Rattle.budget.specs.Limits.{most_tasks}
use Rattle.budget.specs.Refusal as refusal
use Rattle.budget.specs.Task.{table_of}
use Rattle.record.specs.declared.layout.Head.{Head}
use Rattle.record.specs.Record.{Record, ComponentRecord, TaskRecord, PairRecord, EndRecord, NoRecord}
use Rattle.record.specs.Layout.{size_of, record_of}
use Rattle.sheet.specs.Part.{part_check, part_of}
use Rattle.sheet.specs.declared.fault.Fault.{Fault}

-- what a reading answers, in the numbers of RULES 12; refused: the component number 0, stated (1, 1, 1), without tasks, its common period 1
pub record Reading : Type 0 where
  pub refusal : ℕ
  pub place : ℕ
  pub component : Component

-- how the code's answer is read as such
abbrev pub reading_in : Result Known Fault → Reading
reading_in (Ok c) = record { refusal = refusal.none; place = 0; component = c.component }
reading_in (Err f) = record { refusal = refusal.number_of f.refusal; place = f.place; component = refused }

-- what is read, without the knowledge that it is right
abbrev pub component_read : Result Known Fault → Result Component Fault
component_read (Ok c) = Ok c.component
component_read (Err f) = Err f

-- no two readings of the code have the same numbers
abbrev pub ReadingsApart : Type 0
ReadingsApart = (a b : Result Known Fault) → reading_in a ≡ reading_in b → component_read a ≡ component_read b

-- a task record's task and those behind it; any other record ends them
unfoldable pub task_then : Record → List Task → List Task
task_then (TaskRecord stated k) ks = k ∷ ks
task_then (ComponentRecord h) ks = []
task_then (PairRecord p) ks = []
task_then (EndRecord count) ks = []
task_then (NoRecord n) ks = []

-- the tasks of the task records at the front of a row of bytes, n at most; each record tells its own length
unfoldable pub tasks_in : ℕ → List ℕ → List Task
tasks_in zero s = []
tasks_in (suc n) s = task_then (record_of s) (tasks_in n (drop (size_of (record_of s)) s))

-- the component that a component record says, with these tasks, zero in what is returned from the count on, and their common period
-- (RULES 2, 3)
unfoldable pub with_head : Head → List Task → Component
with_head h ks =
    record {
      number = h.number;
      period = h.period;
      capacity = h.capacity;
      deadline = h.deadline;
      common = common_of h.period.0 ks;
      table = table_of ks;
    }

-- the component of a part that begins with this record; a table has places for the most tasks of a component
unfoldable pub component_from : List ℕ → Record → Component
component_from s (ComponentRecord h) = with_head h (tasks_in most_tasks (drop (size_of (ComponentRecord h)) s))
component_from s (TaskRecord stated k) = refused
component_from s (PairRecord p) = refused
component_from s (EndRecord count) = refused
component_from s (NoRecord n) = refused

-- the sheet's refusal, then 15 where no component stands at the place (RULES 13); refused, the component is the one that RULES 11 fixes
unfoldable pub reading : List ℕ → ℕ → Reading
reading s k =
    record {
      refusal = (part_check s k).refusal;
      place = (part_check s k).place;
      component = cond (eqb (part_check s k).refusal refusal.none) (component_from (part_of s k) (record_of (part_of s k))) refused;
    }
