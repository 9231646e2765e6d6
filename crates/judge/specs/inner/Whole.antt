-- What a component is judged over, and what the search for its smallest capacity finds.
use Rattle.std.specs.Prelude.{ℕ, cond, leb, Option, Some, None, ◌≡◌}
use Rattle.budget.specs.declared.component.Component.{Component}
use Rattle.budget.specs.declared.quantity.Units.{Units}
use Rattle.budget.specs.Component.{common_period_of, component_refusal}
use Rattle.budget.specs.Refusal as refusal
use Rattle.judge.specs.Capacity.{capacity_of}

-- a component that is not refused, with its common period
pub record Whole (c : Component) (length : ℕ) : Type 0 where
  pub passes : component_refusal c ≡ refusal.none
  pub is : length ≡ common_period_of c

-- the component's smallest capacity, if there is one up to its deadline
unfoldable pub capacity_found : Component → Option Units
capacity_found c = cond (leb (capacity_of c) c.deadline.0) (Some (record { 0 = capacity_of c })) None
