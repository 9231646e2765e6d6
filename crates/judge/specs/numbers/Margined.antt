-- The margin's part of an answer.
use Rattle.std.specs.Prelude.{ℕ, ℤ}
use Rattle.budget.specs.declared.quantity.Time.{Time}

-- a refusal, the least margin with its instant, or none for a component without tasks or capacity
pub data Margined : Type 0 where
  Refused : ℕ → Margined
  Least : ℤ → Time → Margined
  None : Margined
