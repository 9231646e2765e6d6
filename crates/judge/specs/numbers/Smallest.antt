-- What the search for the smallest capacity answers.
use Rattle.std.specs.Prelude.{ℕ}
use Rattle.budget.specs.declared.quantity.Units.{Units}

-- a refusal, the capacity found, or none
pub data Smallest : Type 0 where
  Refused : ℕ → Smallest
  Found : Units → Smallest
  None : Smallest
