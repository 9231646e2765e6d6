-- A parent's workload (RULES 7): its own tasks, then each child's interface as a task, by rising child number.
use Rattle.std.specs.Prelude.{ℕ, Bool, true, false, cond, ◌&&◌, List, [], ◌∷◌, ◌++◌, Option, Some, None, eqb, take}
use Rattle.budget.specs.declared.component.Component.{Component}
use Rattle.budget.specs.declared.right.Known.{Known}
use Rattle.budget.specs.declared.task.Task.{Task}
use Rattle.budget.specs.Component.{refused, with_tasks}
use Rattle.budget.specs.Limits.{most_tasks}
use Rattle.budget.specs.Task.{tasks_of}
use Rattle.record.specs.declared.layout.Pair.{Pair}
use Rattle.tree.specs.numbers.Load.{Load}
use Rattle.tree.specs.numbers.Offer.{Offer}
use Rattle.tree.specs.Offer.{offer_in, is_offered, as_task}

-- the offers of a parent's children, in the order of the pairs, which rise by child
unfoldable pub children : List Pair → List Offer → ℕ → List Offer
children [] os n = []
children (p ∷ ps) os n = cond (eqb p.parent n) (offer_in os p.child ∷ children ps os n) (children ps os n)

-- a parent with a child that offers nothing waits
unfoldable pub all_offered : List Offer → Bool
all_offered [] = true
all_offered (o ∷ os) = is_offered o && all_offered os

-- the tasks that children add; one with capacity 0 adds none
unfoldable pub tasks_from : List Offer → List Task
tasks_from [] = []
tasks_from (o ∷ os) = cond (eqb o.capacity 0) (tasks_from os) (as_task o ∷ tasks_from os)

unfoldable pub workload : Component → List Offer → List Task
workload c below = tasks_of c.table ++ tasks_from below

-- what is answered of a component that waits, and of one that has its whole workload as its tasks
abbrev pub waiting : Load
waiting = record { waiting = true; component = refused }

abbrev pub ready : Component → Load
ready c = record { waiting = false; component = c }

-- how a workload of the code is read as such
abbrev pub load_in : Option Known → Load
load_in None = waiting
load_in (Some k) = ready k.component

-- a table has places for the most tasks; in a sheet that is taken no workload has more (WorkloadFits)
unfoldable pub load_on : List Pair → List Offer → Component → Load
load_on ps os c =
    let below = children ps os c.number in
    cond (all_offered below) (ready (with_tasks c (take most_tasks (workload c below)))) waiting
