-- `judge::judging::at_smallest` meets its contract: the answer at the capacity that the search up to L finds, or none.
use mathlib.Core.Path.{◌∙◌}
use native.Mathlib.Omega.{arith}
use Rattle.judge.proofs.AnswerLaws.{found_is, found_answer, none_answer}
use Rattle.judge.proofs.judging.at_smallest.Goals as goal

pub at_capacity-requires : goal.at_capacity-requires
at_capacity-requires c = omega (arith, (found_is _ _ c.in-Some.ensures).1)

pub returns-in-Some : goal.returns-in-Some
returns-in-Some c = c.at_capacity.ensures ∙ found_answer _ _ c.in-Some.ensures

pub returns-in-None : goal.returns-in-None
returns-in-None c = none_answer _ c.in-None.ensures
