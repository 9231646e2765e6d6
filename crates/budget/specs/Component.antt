-- A component: a number, an interface whose capacity is stated or asked, a table of tasks, and the common period stored beside them (RULES 2, 3).
use Rattle.std.specs.Prelude.{ℕ, Bool, cond, ◌&&◌, List, [], ◌≡◌, leb, ltb, eqb}
use Rattle.budget.specs.declared.common.Common.TheVariants.{Within}
use Rattle.budget.specs.declared.component.Capacity.{Capacity}
use Rattle.budget.specs.declared.component.Capacity.TheVariants.{Stated, Asked}
use Rattle.budget.specs.declared.component.Component.{Component}
use Rattle.budget.specs.declared.interface.Interface.{Interface}
use Rattle.budget.specs.declared.task.Task.{Task}
use Rattle.budget.specs.Answered.{CommonPeriod}
use Rattle.budget.specs.Common.{common_of, same_common}
use Rattle.budget.specs.CommonPeriod.{common_period}
use Rattle.budget.specs.Interface.{valid_interface}
use Rattle.budget.specs.Limits.{limit, most_tasks}
use Rattle.budget.specs.Refusal as refusal
use Rattle.budget.specs.Task.{tasks_of, table_of, valid_tasks}

-- the units of a stated capacity; an asked one has no units of its own
abbrev pub units_of : Capacity → ℕ
units_of (Stated u) = u.0
units_of Asked = 0

-- a component's interface at a given capacity
abbrev pub interface_at : Component → ℕ → Interface
interface_at c q = record { period = c.period; capacity = record { 0 = q }; deadline = c.deadline }

-- a component's interface: at the capacity stated, or at 0 where it is asked
unfoldable pub interface_of : Component → Interface
interface_of c = interface_at c (units_of c.capacity)

-- two components are the same one if they differ at most in the task places behind the count: they store the same common period, right or wrong
pub record Same (a b : Component) : Type 0 where
  pub number : a.number ≡ b.number
  pub period : a.period ≡ b.period
  pub capacity : a.capacity ≡ b.capacity
  pub deadline : a.deadline ≡ b.deadline
  pub common : a.common ≡ b.common
  pub count : a.table.count ≡ b.table.count
  pub tasks : tasks_of a.table ≡ tasks_of b.table

-- the stored common period is right: it is that of the component's period and tasks
abbrev pub Right : Component → Type 0
Right c = c.common ≡ common_of c.period.0 (tasks_of c.table)

-- the same as a test
unfoldable pub is_right : Component → Bool
is_right c = same_common c.common (common_of c.period.0 (tasks_of c.table))

-- the component with the same number and interface and these tasks, as it is returned: zero behind them, and the common period that is right for them
unfoldable pub with_tasks : Component → List Task → Component
with_tasks c ks =
    record {
      number = c.number;
      period = c.period;
      capacity = c.capacity;
      deadline = c.deadline;
      common = common_of c.period.0 ks;
      table = table_of ks;
    }

-- the stand-in for a component that can't be answered (RULES 11): number 0, the dedicated processor as its stated interface, no tasks, and so a
-- common period of 1
unfoldable pub refused : Component
refused =
    record {
      number = 0;
      period = record { 0 = 1 };
      capacity = Stated (record { 0 = 1 });
      deadline = record { 0 = 1 };
      common = Within (record { 0 = 1 });
      table = table_of [];
    }

-- every number of the component is in its range (its own number always is)
unfoldable pub valid_component : Component → Bool
valid_component c = valid_interface (interface_of c) && valid_tasks (tasks_of c.table)

-- the refusals of a component that stand before any other: more than 64 tasks are 6, then a number outside its range is 9
unfoldable pub range_refusal : Component → ℕ
range_refusal c = cond (ltb most_tasks c.table.count) refusal.tasks (cond (valid_component c) refusal.none refusal.range)

-- L of a component
unfoldable pub common_period_of : Component → ℕ
common_period_of c = common_period c.period.0 (tasks_of c.table)

-- the refusals of a component that is handed in, before anything is asked of it: its ranges, then 17 for a stored common period that is not right
unfoldable pub held_refusal : Component → ℕ
held_refusal c =
    cond (ltb most_tasks c.table.count) refusal.tasks
    (cond (valid_component c)
    (cond (is_right c) refusal.none refusal.common)
    refusal.range)

-- the refusal of a component that is to be judged: after these, 10 for a common period above the limit (RULES 13)
unfoldable pub component_refusal : Component → ℕ
component_refusal c =
    cond (ltb most_tasks c.table.count) refusal.tasks
    (cond (valid_component c)
    (cond (is_right c) (cond (leb (common_period_of c) limit) refusal.none refusal.long) refusal.common)
    refusal.range)

-- what the common period's operation answers: the refusal and 0, or L
unfoldable pub common_period_answer : Component → CommonPeriod
common_period_answer c =
    record {
      refusal = component_refusal c;
      length = record { 0 = cond (eqb (component_refusal c) refusal.none) (common_period_of c) 0 };
    }
