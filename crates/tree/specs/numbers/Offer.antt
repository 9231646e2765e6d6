-- What a component offers to its parent.
use Rattle.std.specs.Prelude.{ℕ}

-- a component's number, the capacity that it is accepted with, its period and its deadline
pub record Offer : Type 0 where
  pub number : ℕ
  pub capacity : ℕ
  pub period : ℕ
  pub deadline : ℕ
