-- A sheet with two levels worked out: component 1 stated (6, 2, 4) with the task (8, 2, 8) is inside component 2, which has the processor to
-- itself and the task (4, 2, 4). The statement about service in sheets speaks of it, and its tree is the one shown.
use Rattle.std.specs.Prelude.{ℕ, List, [], ◌∷◌, ◌≡◌}
use Rattle.budget.specs.declared.component.Capacity.TheVariants.{Stated}
use Rattle.budget.specs.declared.component.Component.{Component}
use Rattle.budget.specs.declared.task.Task.{Task}
use Rattle.budget.specs.Common.{common_of}
use Rattle.budget.specs.Interface.{dedicated, interface}
use Rattle.budget.specs.Refusal as refusal
use Rattle.budget.specs.Task.{table_of}
use Rattle.record.specs.declared.layout.Pair.{Pair}
use Rattle.record.specs.Field.{Bytes}
use Rattle.sheet.specs.Check.{check}
use Rattle.transfer.specs.RoundTrip.{sheet_bytes}
use Rattle.nesting.specs.InSheet.{AcceptedAt, tree_of}
use Rattle.nesting.specs.Tree.{as_task, workload}

-- the task (T, C, D), and a component with a stated interface that stores the right common period
abbrev task : ℕ → ℕ → ℕ → Task
task t c d = as_task (interface t c d)

abbrev stated : ℕ → ℕ → ℕ → ℕ → List Task → Component
stated n p q d ks =
    record {
      number = n;
      period = record { 0 = p };
      capacity = Stated (record { 0 = q });
      deadline = record { 0 = d };
      common = common_of p ks;
      table = table_of ks;
    }

abbrev pub components : List Component
components = stated 1 6 2 4 (task 8 2 8 ∷ []) ∷ stated 2 1 1 1 (task 4 2 4 ∷ []) ∷ []

abbrev pub pairs : List Pair
pairs = record { child = 1; parent = 2 } ∷ []

abbrev pub sheet : List ℕ
sheet = sheet_bytes components pairs

pub record SheetFigure : Type 0 where
  pub bytes : Bytes sheet
  pub taken : (check sheet).refusal ≡ refusal.none
  pub accepted : AcceptedAt sheet 1
  pub children : (tree_of sheet).children 1 ≡ 0 ∷ []
  pub interface_of_child : (tree_of sheet).interface 0 ≡ interface 6 2 4
  pub interface_of_parent : (tree_of sheet).interface 1 ≡ dedicated
  pub workload : workload (tree_of sheet) 1 ≡ task 4 2 4 ∷ task 6 2 4 ∷ []
