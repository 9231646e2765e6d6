-- Raising an interface's capacity to what one instant needs.
use Rattle.std.specs.Prelude.{ℕ, ◌≤◌, ◌<◌, Option, Some, None}
use Rattle.budget.specs.declared.interface.Interface.{Interface}
use Rattle.budget.specs.declared.quantity.Units.{Units}
use Rattle.budget.specs.Interface.{interface}
use Rattle.budget.specs.Supply.{supply}

-- the units at an instant where the interface has this capacity
abbrev pub supply_with : Interface → ℕ → ℕ → ℕ
supply_with i q at = supply (interface i.period.0 q i.deadline.0) at

-- r is the smallest capacity from the interface's on that supplies this demand at this instant
pub record Enough (i : Interface) (at asked r : ℕ) : Type 0 where
  pub up : i.capacity.0 ≤ r
  pub within : r ≤ i.deadline.0
  pub short : (q : ℕ) → i.capacity.0 ≤ q → q < r → supply_with i q at < asked
  pub fits : asked ≤ supply_with i r at

-- that capacity, or none where every one up to the deadline is short
abbrev pub Raised : Interface → ℕ → ℕ → Option Units → Type 0
Raised i at asked (Some u) = Enough i at asked u.0
Raised i at asked None = (q : ℕ) → i.capacity.0 ≤ q → q ≤ i.deadline.0 → supply_with i q at < asked
