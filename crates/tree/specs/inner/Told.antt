-- What the code keeps of capacities: none that a component is accepted with is the number that stands in place of one that is withheld.
use Rattle.std.specs.Prelude.{◌<◌}
use Rattle.judge.specs.declared.answer.Verdict.TheVariants as Verdict
use Rattle.judge.specs.numbers.Judged.{Judged}
use Rattle.judge.specs.numbers.Judged.{Refused, Answered}
use Rattle.tree.specs.numbers.Outcome.{Outcome}
use Rattle.tree.specs.Offer.{withheld}

-- of the verdict's part of an answer
abbrev pub ToldBy : Judged → Type 0
ToldBy (Refused n) = Unit {0}
ToldBy (Answered q Verdict.Accepted) = q.0 < withheld
ToldBy (Answered q (Verdict.Short t)) = Unit {0}
ToldBy (Answered q Verdict.None) = Unit {0}

-- of an outcome
abbrev pub Told : Outcome → Type 0
Told Outcome.Waiting = Unit {0}
Told (Outcome.Judged a) = ToldBy a.verdict
