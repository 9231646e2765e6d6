-- A component's workload.
use Rattle.std.specs.Prelude.{Bool}
use Rattle.budget.specs.declared.component.Component.{Component}

-- the component with the whole workload as its tasks, or that it waits for a child; then the component is the one of a refused reading
pub record Load : Type 0 where
  pub waiting : Bool
  pub component : Component
