-- What one turn of a pass over components answers.
use Rattle.std.specs.Prelude.{ℕ}
use Rattle.tree.specs.numbers.Outcome.{Outcome}

-- the number of the component that was passed, and its outcome
pub record Turn : Type 0 where
  pub number : ℕ
  pub outcome : Outcome
