-- What judging a component answers: verdict and margin.
use Rattle.judge.specs.numbers.Judged.{Judged}
use Rattle.judge.specs.numbers.Margined.{Margined}

-- both are refused, with the same number, or neither is
pub record Answer : Type 0 where
  pub verdict : Judged
  pub margin : Margined
