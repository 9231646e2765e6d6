-- What a search for the tightest step instant has found.
use Rattle.std.specs.Prelude.{ℕ}

-- a step instant with supply and demand there; instant 0 stands for none
pub record Tight : Type 0 where
  pub at : ℕ
  pub units : ℕ
  pub demand : ℕ
