-- What the walk answers, in the numbers of RULES 12: a refusal or 0, the first miss, and the units served and idle (RULES 9, 11).
use Rattle.std.specs.Prelude.{ℕ, Option, Result, Ok, Err, ◌≡◌}
use Rattle.std.specs.Prelude as std
use Rattle.budget.specs.declared.quantity.Time.{Time}
use Rattle.budget.specs.declared.quantity.Units.{Units}
use Rattle.budget.specs.declared.refusal.Refusal.{Refusal}
use Rattle.budget.specs.Refusal as refusal
use Rattle.run.specs.declared.walk.Miss as source
use Rattle.run.specs.declared.walk.Walked as answer

-- the first miss: its instant and its task's number, or none
pub data Miss : Type 0 where
  None : Miss
  At : Time → ℕ → Miss

-- where the walk is refused: no miss, nothing served, nothing idle
pub record Walked : Type 0 where
  pub refusal : ℕ
  pub miss : Miss
  pub served : Units
  pub idle : Units

-- a miss of the code in these words
abbrev pub miss_in : Option source.Miss → Miss
miss_in std.None = None
miss_in (std.Some m) = At m.at m.task

-- an answer of the code in these numbers
abbrev pub walked_in : Result answer.Walked Refusal → Walked
walked_in (Ok w) = record { refusal = refusal.none; miss = miss_in w.miss; served = w.served; idle = w.idle }
walked_in (Err r) = record { refusal = refusal.number_of r; miss = None; served = record { 0 = 0 }; idle = record { 0 = 0 } }

-- no two answers of the code have the same numbers
abbrev pub WalksApart : Type 0
WalksApart = (a b : Result answer.Walked Refusal) → walked_in a ≡ walked_in b → a ≡ b
