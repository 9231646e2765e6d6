-- What a pass over all components of a sheet goes by: the crates above hand it to functions of their own.
use Rattle.std.specs.Prelude.{ℕ, List, ◌≡◌}
use Rattle.budget.specs.Refusal as refusal
use Rattle.sheet.specs.Check.{check}
use Rattle.sheet.specs.Contents.{contents_of}

-- the sheet is taken, and these are its edges and the count of its components
pub record Known (s xs : List ℕ) (n : ℕ) : Type 0 where
  pub taken : (check s).refusal ≡ refusal.none
  pub edges : xs ≡ (contents_of s).edges
  pub count : n ≡ (check s).count
