-- What is answered at a place of a sheet.
use Rattle.std.specs.Prelude.{ℕ}
use Rattle.tree.specs.numbers.Outcome.{Outcome}

-- the component's number and its outcome, or the sheet's refusal with its byte, then 15
pub data Placed : Type 0 where
  Refused : ℕ → ℕ → Placed
  Found : ℕ → Outcome → Placed
