-- `judge::judging::judge_over` meets its contract: the answer at the capacity stated or asked.
use Rattle.judge.proofs.AnswerLaws.{given_answer}
use Rattle.judge.proofs.Whole.{stated_fits}
use Rattle.judge.proofs.judging.judge_over.Goals as goal

pub at_capacity-requires : goal.at_capacity-requires
at_capacity-requires c = stated_fits _ c.args.judgeable.whole.passes _ c.in-Stated.is

pub returns-in-Stated : goal.returns-in-Stated
returns-in-Stated c = given_answer _ _ _ c.args.judgeable.whole.passes c.in-Stated.is c.at_capacity.ensures

pub returns-in-Asked : goal.returns-in-Asked
returns-in-Asked c = given_answer _ _ _ c.args.judgeable.whole.passes c.in-Asked.is c.at_smallest.ensures
