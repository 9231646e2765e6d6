-- The smallest capacity that is accepted, looked for from 0 up to Δ (RULES 7).
use Rattle.std.specs.Prelude.{ℕ, suc, cond, List, Option, Some, None, Result, Ok, Err, leb, eqb, ◌≡◌}
use Rattle.budget.specs.declared.component.Component.{Component}
use Rattle.budget.specs.declared.quantity.Units.{Units}
use Rattle.budget.specs.declared.refusal.Refusal.{Refusal}
use Rattle.budget.specs.declared.task.Task.{Task}
use Rattle.budget.specs.Component.{common_period_of, component_refusal}
use Rattle.budget.specs.Interface.{interface}
use Rattle.budget.specs.Refusal as refusal
use Rattle.budget.specs.Task.{tasks_of}
use Rattle.judge.specs.numbers.Smallest.{Smallest}
use Rattle.judge.specs.numbers.Smallest as Variant
use Rattle.judge.specs.Search.{smallest}
use Rattle.judge.specs.Verdict.{accepts}

-- for the period p and the deadline d, the smallest capacity from 0 to d that is accepted over the instants up to n, or d + 1 where none is
unfoldable pub smallest_capacity : List Task → ℕ → ℕ → ℕ → ℕ
smallest_capacity ks p d n = smallest (λ q. accepts ks (interface p q d) n) (suc d)

-- the smallest capacity of a component, for its own period, deadline, tasks and L
unfoldable pub capacity_of : Component → ℕ
capacity_of c = smallest_capacity (tasks_of c.table) c.period.0 c.deadline.0 (common_period_of c)

-- what the operation answers: the refusal, the capacity found, or none
unfoldable pub capacity_answer : Component → Smallest
capacity_answer c =
    cond (eqb (component_refusal c) refusal.none)
    (cond (leb (capacity_of c) c.deadline.0) (Variant.Found (record { 0 = capacity_of c })) Variant.None)
    (Variant.Refused (component_refusal c))

-- an answer in these numbers
abbrev pub smallest_in : Result (Option Units) Refusal → Smallest
smallest_in (Ok (Some u)) = Variant.Found u
smallest_in (Ok None) = Variant.None
smallest_in (Err r) = Variant.Refused (refusal.number_of r)

abbrev pub CapacitiesApart : Type 0
CapacitiesApart = (a b : Result (Option Units) Refusal) → smallest_in a ≡ smallest_in b → a ≡ b
