-- What a component is answered in its tree (RULES 7, 8): verdict and margin of its whole workload, or that it waits.
use Rattle.std.specs.Prelude.{cond, ◌≡◌}
use Rattle.judge.specs.Answer.{answer_in, judge_answer}
use Rattle.tree.specs.declared.answer.Outcome as code
use Rattle.tree.specs.declared.answer.Outcome.TheVariants as variant
use Rattle.tree.specs.numbers.Load.{Load}
use Rattle.tree.specs.numbers.Outcome.{Outcome}

-- what the judge answers of the component with its workload; waiting comes before any refusal of it
unfoldable pub outcome_of : Load → Outcome
outcome_of l = cond l.waiting Outcome.Waiting (Outcome.Judged (judge_answer l.component))

-- how an outcome of the code is read as such
abbrev pub outcome_in : code.Outcome → Outcome
outcome_in variant.Waiting = Outcome.Waiting
outcome_in (variant.Judged r) = Outcome.Judged (answer_in r)

-- no two outcomes of the code have the same numbers
abbrev pub OutcomesApart : Type 0
OutcomesApart = (a b : code.Outcome) → outcome_in a ≡ outcome_in b → a ≡ b
