-- What a component is answered in its tree.
use Rattle.judge.specs.numbers.Answer.{Answer}

-- verdict and margin of a component's whole workload, or that it waits
pub data Outcome : Type 0 where
  Waiting : Outcome
  Judged : Answer → Outcome
