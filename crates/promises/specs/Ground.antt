-- What the judge stands on (RULES 2, 3, 4, 6, 11): the common period and the value that is stored for it, demand and supply, the edits, and components that
-- count as the same.
use Rattle.std.specs.Prelude.{ℕ, ◌+◌, ◌≤◌, ◌<◌, true, List, ◌≡◌, length, get_or}
use Rattle.std.specs.Int.{◌∣◌}
use Rattle.budget.specs.declared.common.Common.{Common}
use Rattle.budget.specs.declared.common.Common.TheVariants.{Within, Above}
use Rattle.budget.specs.declared.component.Component.{Component}
use Rattle.budget.specs.declared.interface.Interface.{Interface}
use Rattle.budget.specs.declared.task.Task.{Task}
use Rattle.budget.specs.Common.{common_of}
use Rattle.budget.specs.CommonPeriod.{common_period}
use Rattle.budget.specs.Component.{Right, Same, common_period_answer, component_refusal, held_refusal, range_refusal, with_tasks}
use Rattle.budget.specs.Demand.{demand, demand_answer}
use Rattle.budget.specs.Edit.{adding_answer, adding_refusal, removing_answer}
use Rattle.budget.specs.Interface.{Π, valid_interface}
use Rattle.budget.specs.Limits.{limit, most_tasks}
use Rattle.budget.specs.Refusal as refusal
use Rattle.budget.specs.Supply.{supply}
use Rattle.budget.specs.Task.{T, no_task, tasks_of, valid_tasks}
use Rattle.judge.specs.Capacity.{capacity_answer}
use Rattle.judge.specs.Judged.{verdict_answer}
use Rattle.judge.specs.Margin.{margin_answer}

-- the period p and every task's period divide m
pub record CommonMultiple (p : ℕ) (ks : List Task) (m : ℕ) : Type 0 where
  pub period : p ∣ m
  pub tasks : (n : ℕ) → n < length ks → T (get_or ks n no_task) ∣ m

-- l is a common multiple and divides every other
pub record LeastCommonMultiple (p : ℕ) (ks : List Task) (l : ℕ) : Type 0 where
  pub positive : 1 ≤ l
  pub multiple : CommonMultiple p ks l
  pub least : (m : ℕ) → 1 ≤ m → CommonMultiple p ks m → l ≤ m
  pub divides : (m : ℕ) → CommonMultiple p ks m → l ∣ m

abbrev pub CommonPeriodLeast : Type 0
CommonPeriodLeast =
    (c : Component) → component_refusal c ≡ refusal.none → LeastCommonMultiple c.period.0 (tasks_of c.table) (common_period_answer c).length.0

-- what a stored value has to say of the period p and the tasks: a number, that it is the least common multiple and within the limit; the mark, that every
-- common multiple is above the limit
abbrev pub StoredSays : ℕ → List Task → Common → Type 0
StoredSays p ks (Within l) = LeastCommonMultiple p ks l.0 × (l.0 ≤ limit)
StoredSays p ks Above = (m : ℕ) → 1 ≤ m → CommonMultiple p ks m → limit < m

-- a right stored value says it of a component in its ranges
abbrev pub StoredMeans : Type 0
StoredMeans = (c : Component) → range_refusal c ≡ refusal.none → Right c → StoredSays c.period.0 (tasks_of c.table) c.common

-- and only one value says it
abbrev pub StoredAlone : Type 0
StoredAlone =
    (c : Component) → range_refusal c ≡ refusal.none
    → (s : Common) → StoredSays c.period.0 (tasks_of c.table) s → s ≡ common_of c.period.0 (tasks_of c.table)

-- a stretch of L brings the demand at L
abbrev pub DemandRepeats : Type 0
DemandRepeats =
    (ks : List Task) (i : Interface) → valid_tasks ks ≡ true → valid_interface i ≡ true
    → (t : ℕ) → demand ks (t + common_period (Π i) ks) ≡ demand ks t + demand ks (common_period (Π i) ks)

abbrev pub DemandNeverFalls : Type 0
DemandNeverFalls = (ks : List Task) → valid_tasks ks ≡ true → (t u : ℕ) → t ≤ u → demand ks t ≤ demand ks u

abbrev pub SupplyNeverFalls : Type 0
SupplyNeverFalls = (i : Interface) → valid_interface i ≡ true → (t u : ℕ) → t ≤ u → supply i t ≤ supply i u

-- to add a task and then remove the last is to have the component back, with zeros in the places behind its tasks
abbrev pub AddThenRemove : Type 0
AddThenRemove =
    (c : Component) (k : Task) → length c.table.tasks ≡ most_tasks → adding_refusal c k ≡ refusal.none
    → (removing_answer (adding_answer c k).component c.table.count ≡ record { refusal = refusal.none; component = with_tasks c (tasks_of c.table) })
    × Same (with_tasks c (tasks_of c.table)) c

-- what each operation on a component answers; `held` is what writing refuses it for, before it asks for room
pub record AnsweredAlike (a b : Component) : Type 0 where
  pub held : held_refusal a ≡ held_refusal b
  pub common_period : common_period_answer a ≡ common_period_answer b
  pub demand : (t : ℕ) → demand_answer a.table t ≡ demand_answer b.table t
  pub adding : (k : Task) → adding_answer a k ≡ adding_answer b k
  pub removing : (at : ℕ) → removing_answer a at ≡ removing_answer b at
  pub verdict : verdict_answer a ≡ verdict_answer b
  pub margin : margin_answer a ≡ margin_answer b
  pub capacity : capacity_answer a ≡ capacity_answer b

-- components that are the same get the same answers
abbrev pub SameAnswers : Type 0
SameAnswers = (a b : Component) → Same a b → AnsweredAlike a b
