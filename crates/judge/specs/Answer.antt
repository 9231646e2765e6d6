-- What judging a component answers in a single call (RULES 7, 8, 11): the verdict and the margin, each as it is defined by itself.
use Rattle.std.specs.Prelude.{Result, Ok, Err, ◌≡◌}
use Rattle.budget.specs.declared.component.Capacity.{Capacity}
use Rattle.budget.specs.declared.component.Component.{Component}
use Rattle.budget.specs.declared.refusal.Refusal.{Refusal}
use Rattle.budget.specs.Refusal.{number_of}
use Rattle.judge.specs.numbers.Answer.{Answer}
use Rattle.judge.specs.numbers.Judged as Judged
use Rattle.judge.specs.numbers.Margined as Margined
use Rattle.judge.specs.declared.answer.Judgement.{Judgement}
use Rattle.judge.specs.Judged.{judged_at, verdict_answer}
use Rattle.judge.specs.Margin.{margin_in, margined_at, margin_answer}

-- the answer for a capacity stated or asked
abbrev pub answer_at : Component → Capacity → Answer
answer_at c k = record { verdict = judged_at c k; margin = margined_at c k }

-- what the operation answers; a component that is refused is refused in both parts
abbrev pub judge_answer : Component → Answer
judge_answer c = record { verdict = verdict_answer c; margin = margin_answer c }

-- a judgement in these numbers: both parts are answered
abbrev pub judgement_in : Judgement → Answer
judgement_in j = record { verdict = Judged.Answered j.capacity j.verdict; margin = margin_in j.margin }

-- an answer in these numbers: a judgement, or both parts refused
abbrev pub answer_in : Result Judgement Refusal → Answer
answer_in (Ok j) = judgement_in j
answer_in (Err r) = record { verdict = Judged.Refused (number_of r); margin = Margined.Refused (number_of r) }

-- no two answers of the code have the same numbers
abbrev pub AnswersApart : Type 0
AnswersApart = (a b : Result Judgement Refusal) → answer_in a ≡ answer_in b → a ≡ b
