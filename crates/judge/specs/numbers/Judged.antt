-- The verdict's part of an answer.
use Rattle.std.specs.Prelude.{ℕ}
use Rattle.budget.specs.declared.quantity.Units.{Units}
use Rattle.judge.specs.declared.answer.Verdict.{Verdict}

-- a refusal, or the capacity stated or found (0 for none) and the verdict
pub data Judged : Type 0 where
  Refused : ℕ → Judged
  Answered : Units → Verdict → Judged
