-- Every operation that makes a component answers one whose stored common period is right (RULES 3, 11), whatever it is given and also where it is
-- refused: one statement over all of them.
use Rattle.std.specs.Prelude.{ℕ, List}
use Rattle.budget.specs.declared.component.Capacity.{Capacity}
use Rattle.budget.specs.declared.component.Component.{Component}
use Rattle.budget.specs.declared.quantity.Time.{Time}
use Rattle.budget.specs.declared.task.Table.{Table}
use Rattle.budget.specs.declared.task.Task.{Task}
use Rattle.budget.specs.Component.{Right}
use Rattle.budget.specs.Edit.{adding_answer, removing_answer}
use Rattle.budget.specs.Make.{making_answer}
use Rattle.record.specs.Layout.{record_of}
use Rattle.transfer.specs.ReadAt.{read_at}
use Rattle.transfer.specs.Reading.{component_from, reading}
use Rattle.tree.specs.Tree.{loading}

-- the operations that answer a component, with what they are given: numbers, a component and a task, a component and a place, the bytes of a sheet and
-- a place, bytes with edges and a place, the bytes of a part
pub data Making : Type 0 where
  making : ℕ → Time → Capacity → Time → Table → Making
  adding : Component → Task → Making
  removing : Component → ℕ → Making
  reading_place : List ℕ → ℕ → Making
  reading_between : List ℕ → List ℕ → ℕ → Making
  reading_part : List ℕ → Making
  loading_place : List ℕ → ℕ → Making

-- the component that each answers
abbrev pub made : Making → Component
made (making n p q d t) = (making_answer n p q d t).component
made (adding c k) = (adding_answer c k).component
made (removing c at) = (removing_answer c at).component
made (reading_place s k) = (reading s k).component
made (reading_between s edges k) = read_at s edges k
made (reading_part s) = component_from s (record_of s)
made (loading_place s k) = (loading s k).load.component

abbrev pub StoredRight : Type 0
StoredRight = (m : Making) → Right (made m)
