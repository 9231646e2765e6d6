-- What the judge answers of a component (RULES 7, 8): each promise by its name, about the answers of the operations.
use Rattle.std.specs.Prelude.{ℕ, suc, ◌+◌, ◌≤◌, true, List, [], ◌⊎◌, ◌↔◌, ◌≡◌, ℤ}
use Rattle.budget.specs.declared.component.Capacity.TheVariants.{Stated}
use Rattle.budget.specs.declared.component.Component.{Component}
use Rattle.budget.specs.declared.interface.Interface.{Interface}
use Rattle.budget.specs.declared.quantity.Time.{Time}
use Rattle.budget.specs.declared.quantity.Units.{Units}
use Rattle.budget.specs.declared.task.Task.{Task}
use Rattle.budget.specs.Component.{common_period_of, component_refusal, interface_at}
use Rattle.budget.specs.Demand.{demand}
use Rattle.budget.specs.Refusal as refusal
use Rattle.budget.specs.Supply.{supply}
use Rattle.budget.specs.Task.{tasks_of}
use Rattle.judge.specs.numbers.Answer.{Answer}
use Rattle.judge.specs.numbers.Judged.{Answered, Refused}
use Rattle.judge.specs.numbers.Margined as Margin
use Rattle.judge.specs.numbers.Smallest as Search
use Rattle.judge.specs.declared.answer.Verdict.TheVariants as Variant
use Rattle.judge.specs.declared.answer.Verdict.{Verdict}
use Rattle.judge.specs.Answer.{judge_answer}
use Rattle.judge.specs.Capacity.{capacity_answer}
use Rattle.judge.specs.Judged.{verdict_answer}
use Rattle.judge.specs.Margin.{Step, Tightest, margin_answer, margin_at}
use Rattle.judge.specs.Signed.{is_negative}
use Rattle.judge.specs.Verdict.{Accepted, Judgement, ShortAt}

-- the verdict on a stated capacity: accepted exactly if no instant is short, short at t exactly if t is the first such instant, which is at
-- most L, and nothing else
pub record ExactVerdict (c : Component) (u : Units) : Type 0 where
  pub accepted : (verdict_answer c ≡ Answered u Variant.Accepted) ↔ Accepted (tasks_of c.table) (interface_at c u.0)
  pub short : (t : Time) → (verdict_answer c ≡ Answered u (Variant.Short t)) ↔ ShortAt (tasks_of c.table) (interface_at c u.0) t.0
  pub within : (t : Time) → verdict_answer c ≡ Answered u (Variant.Short t) → t.0 ≤ common_period_of c
  pub nothing_else : (verdict_answer c ≡ Answered u Variant.Accepted) ⊎ ((t : Time) × (verdict_answer c ≡ Answered u (Variant.Short t)))

abbrev pub VerdictExact : Type 0
VerdictExact = (c : Component) → component_refusal c ≡ refusal.none → (u : Units) → c.capacity ≡ Stated u → ExactVerdict c u

-- no two verdicts hold of the same tasks and interface
abbrev pub OneVerdict : Type 0
OneVerdict = (ks : List Task) (i : Interface) (a b : Verdict) → Judgement ks i a → Judgement ks i b → a ≡ b

-- the capacity at which the margin is measured: the one that the judge answers with a verdict other than none
pub record MeasuredAt (c : Component) (q : Units) : Type 0 where
  pub verdict : Verdict
  pub answered : verdict_answer c ≡ Answered q verdict
  pub some : verdict ≡ Variant.None → ⊥

abbrev pub AnsweredNone : Component → Type 0
AnsweredNone c = verdict_answer c ≡ Answered (record { 0 = 0 }) Variant.None

-- the margin: that of the first tightest step instant up to L, and none exactly where there are no tasks or the answer is none
pub record ExactMargin (c : Component) : Type 0 where
  pub least : (q : Units) → MeasuredAt c q → (m : ℤ) (t : Time)
      → (margin_answer c ≡ Margin.Least m t)
      ↔ (Tightest (tasks_of c.table) (interface_at c q.0) (common_period_of c) t.0 × (m ≡ margin_at (tasks_of c.table) (interface_at c q.0) t.0))
  pub none : (margin_answer c ≡ Margin.None) ↔ ((tasks_of c.table ≡ []) ⊎ AnsweredNone c)
  pub nothing_else : (margin_answer c ≡ Margin.None) ⊎ ((m : ℤ) × (t : Time) × (margin_answer c ≡ Margin.Least m t))

abbrev pub MarginExact : Type 0
MarginExact = (c : Component) → component_refusal c ≡ refusal.none → ExactMargin c

-- the margin is below 0 exactly where the component is short
abbrev pub MarginNegative : Component → Type 0
MarginNegative c = (m : ℤ) × (t : Time) × (margin_answer c ≡ Margin.Least m t) × (is_negative m ≡ true)

abbrev pub AnsweredShort : Component → Type 0
AnsweredShort c = (q : Units) × (t : Time) × (verdict_answer c ≡ Answered q (Variant.Short t))

abbrev pub NegativeExactlyShort : Type 0
NegativeExactlyShort = (c : Component) → component_refusal c ≡ refusal.none → MarginNegative c ↔ AnsweredShort c

-- an accepted component has no smaller margin at any step instant p + 1, past L either; a − b ≤ c − d is said as a + d ≤ c + b
abbrev pub NoLaterSmaller : Type 0
NoLaterSmaller =
    (c : Component) → component_refusal c ≡ refusal.none → (q : Units) → verdict_answer c ≡ Answered q Variant.Accepted
    → (m : ℤ) (t : Time) → margin_answer c ≡ Margin.Least m t → (p : ℕ) → Step (tasks_of c.table) p
    → supply (interface_at c q.0) t.0 + demand (tasks_of c.table) (suc p) ≤ supply (interface_at c q.0) (suc p) + demand (tasks_of c.table) t.0

-- a single call answers both: its two parts are the verdict and the margin as they are defined, of refused components too, and no other
-- answer has these parts
abbrev pub OneCall : Type 0
OneCall = (c : Component) (a : Answer) → (a ≡ judge_answer c) ↔ ((a.verdict ≡ verdict_answer c) × (a.margin ≡ margin_answer c))

-- verdict, margin and smallest capacity refuse the same components with the same number (RULES 13)
abbrev pub RefusedAlike : Type 0
RefusedAlike =
    (c : Component) → (component_refusal c ≡ refusal.none → ⊥)
    → (verdict_answer c ≡ Refused (component_refusal c))
    × (margin_answer c ≡ Margin.Refused (component_refusal c))
    × (capacity_answer c ≡ Search.Refused (component_refusal c))
