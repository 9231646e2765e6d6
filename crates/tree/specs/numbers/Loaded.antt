-- The workload at a place of a sheet.
use Rattle.std.specs.Prelude.{ℕ}
use Rattle.tree.specs.numbers.Load.{Load}

-- the number and the workload of the component at a place, or the sheet's refusal with its byte, then 15; refused: the number and component of a
-- refused reading
pub record Loaded : Type 0 where
  pub refusal : ℕ
  pub place : ℕ
  pub number : ℕ
  pub load : Load
