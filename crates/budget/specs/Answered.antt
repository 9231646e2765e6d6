-- What the operations on amounts and on the common period answer, in the numbers of RULES 11 and 12: the refusal's number, 0 for none, and beside it the
-- value, 0 where it is refused.
use Rattle.std.specs.Prelude.{ℕ, Result, Ok, Err, ◌≡◌}
use Rattle.budget.specs.declared.quantity.Time.{Time}
use Rattle.budget.specs.declared.quantity.Units.{Units}
use Rattle.budget.specs.declared.refusal.Refusal.{Refusal}
use Rattle.budget.specs.Refusal as refusal

-- an amount of service asked for or given by an instant
pub record Amount : Type 0 where
  pub refusal : ℕ
  pub units : Units

abbrev pub amount_in : Result Units Refusal → Amount
amount_in (Ok u) = record { refusal = refusal.none; units = u }
amount_in (Err r) = record { refusal = refusal.number_of r; units = record { 0 = 0 } }

-- a component's common period L
pub record CommonPeriod : Type 0 where
  pub refusal : ℕ
  pub length : Time

abbrev pub common_period_in : Result Time Refusal → CommonPeriod
common_period_in (Ok l) = record { refusal = refusal.none; length = l }
common_period_in (Err r) = record { refusal = refusal.number_of r; length = record { 0 = 0 } }

-- what a contract says of these numbers settles the answer: no two answers have the same
abbrev pub AmountsApart : Type 0
AmountsApart = (a b : Result Units Refusal) → amount_in a ≡ amount_in b → a ≡ b

abbrev pub CommonPeriodsApart : Type 0
CommonPeriodsApart = (a b : Result Time Refusal) → common_period_in a ≡ common_period_in b → a ≡ b
