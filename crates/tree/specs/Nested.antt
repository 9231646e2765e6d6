-- What holds of every sheet that is taken, judged in its tree (RULES 7, 13).
use Rattle.std.specs.Prelude.{ℕ, ◌≤◌, ◌<◌, List, ◌≡◌, length}
use Rattle.budget.specs.Limits.{most_tasks}
use Rattle.budget.specs.Refusal as refusal
use Rattle.judge.specs.numbers.Answer.{Answer}
use Rattle.judge.specs.numbers.Judged.{Refused}
use Rattle.judge.specs.Answer.{judge_answer}
use Rattle.record.specs.Field.{Bytes}
use Rattle.sheet.specs.Check.{check, pairs_of}
use Rattle.sheet.specs.Pairs.{named}
use Rattle.transfer.specs.Reading.{reading}
use Rattle.tree.specs.numbers.Outcome as Outcome
use Rattle.tree.specs.numbers.Offer.{Offer}
use Rattle.tree.specs.Tree.{offers_to, outcome_at}
use Rattle.tree.specs.Workload.{children, workload}

-- the offers of the children of the component at a place
abbrev pub children_at : List ℕ → ℕ → List Offer
children_at s k = children (pairs_of s) (offers_to s k) (reading s k).component.number

-- the rules of pairs leave room: no workload is cut by the places of a table
abbrev pub WorkloadFits : Type 0
WorkloadFits =
    (s : List ℕ) → Bytes s → (check s).refusal ≡ refusal.none → (k : ℕ) → k < (check s).count
    → length (workload (reading s k).component (children_at s k)) ≤ most_tasks

-- a component that is judged is refused with 10 and with nothing else
abbrev pub OnlyLong : Type 0
OnlyLong =
    (s : List ℕ) → Bytes s → (check s).refusal ≡ refusal.none → (k : ℕ) → k < (check s).count
    → (a : Answer) (number : ℕ) → outcome_at s k ≡ Outcome.Judged a → a.verdict ≡ Refused number → number ≡ refusal.long

-- a component that is no parent is judged by its own tasks, as if it stood alone
abbrev pub NoParentAlone : Type 0
NoParentAlone =
    (s : List ℕ) → Bytes s → (check s).refusal ≡ refusal.none → (k : ℕ) → k < (check s).count
    → named (pairs_of s) (reading s k).component.number ≡ 0
    → outcome_at s k ≡ Outcome.Judged (judge_answer (reading s k).component)
