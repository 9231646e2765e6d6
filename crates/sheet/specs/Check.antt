-- What a sheet is answered: its count of components, or its refusal and the byte where the refused record began (RULES 10, 13).
use Rattle.std.specs.Prelude.{ℕ, cond, List, [], eqb}
use Rattle.budget.specs.Refusal as refusal
use Rattle.record.specs.declared.layout.Pair.{Pair}
pub use Rattle.sheet.specs.Judging.{most_bytes, most_components}
use Rattle.sheet.specs.Register.{walked}
use Rattle.sheet.specs.Pairs.{paired}

-- what a sheet is answered: the refusal's number, 0 for none, the byte where the refused record began, and the count of components
pub record Checked : Type 0 where
  pub refusal : ℕ
  pub place : ℕ
  pub count : ℕ

-- a refusal has its number and place, any other number of a refused answer is 0 (RULES 11)
unfoldable pub checked_of : ℕ → ℕ → ℕ → Checked
checked_of n place count =
    cond (eqb n refusal.none)
    (record { refusal = refusal.none; place = 0; count = count })
    (record { refusal = n; place = place; count = 0 })

-- the components and tasks are judged first, then the pairs and the end record
unfoldable pub check : List ℕ → Checked
check s =
    cond (eqb (walked s).refusal refusal.none)
    (checked_of (paired s).refusal (paired s).place (walked s).count)
    (checked_of (walked s).refusal (walked s).place 0)

-- the pairs of a sheet that is not refused, in their order
unfoldable pub pairs_of : List ℕ → List Pair
pairs_of s = cond (eqb (check s).refusal refusal.none) (paired s).pairs []
