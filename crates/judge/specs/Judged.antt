-- The verdict's part of what judging a component answers, for a capacity stated or asked (RULES 7).
use Rattle.std.specs.Prelude.{ℕ, cond, leb, eqb}
use Rattle.budget.specs.declared.component.Capacity.{Capacity}
use Rattle.budget.specs.declared.component.Capacity.TheVariants.{Stated, Asked}
use Rattle.budget.specs.declared.component.Component.{Component}
use Rattle.budget.specs.Component.{interface_at, common_period_of, component_refusal}
use Rattle.budget.specs.Refusal as refusal
use Rattle.budget.specs.Task.{tasks_of}
use Rattle.judge.specs.numbers.Judged.{Judged}
use Rattle.judge.specs.numbers.Judged.{Refused, Answered}
use Rattle.judge.specs.declared.answer.Verdict.{Verdict}
use Rattle.judge.specs.declared.answer.Verdict.TheVariants as Variant
use Rattle.judge.specs.Capacity.{capacity_of}
use Rattle.judge.specs.Verdict.{verdict_on}

-- the code of a verdict in the host's reply (RULES 14)
abbrev pub code_of : Verdict → ℕ
code_of Variant.Accepted = 0
code_of (Variant.Short t) = 1
code_of Variant.None = 2

-- the first short instant, and 0 where there is none
abbrev pub instant_of : Verdict → ℕ
instant_of Variant.Accepted = 0
instant_of (Variant.Short t) = t.0
instant_of Variant.None = 0

-- a stated capacity is answered with its verdict, an asked one with the capacity found, which is accepted, or with none and capacity 0
unfoldable pub judged_at : Component → Capacity → Judged
judged_at c (Stated u) = Answered u (verdict_on (tasks_of c.table) (interface_at c u.0) (common_period_of c))
judged_at c Asked =
    cond (leb (capacity_of c) c.deadline.0)
    (Answered (record { 0 = capacity_of c }) Variant.Accepted)
    (Answered (record { 0 = 0 }) Variant.None)

-- that part of the operation's answer: the refusal, or the capacity and the verdict
unfoldable pub verdict_answer : Component → Judged
verdict_answer c = cond (eqb (component_refusal c) refusal.none) (judged_at c c.capacity) (Refused (component_refusal c))
