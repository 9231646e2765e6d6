-- `judge::capacity::least_capacity` meets its contract. The loop's invariant: the walk is over the component's tasks, the capacity fits at every instant
-- before its next one, and every smaller capacity is short. The measure is what is left of the instants.
use Prim.Native.Nat.{◌-◌, ◌+◌}
use Rattle.budget.specs.Task.{tasks_of}
use Rattle.judge.proofs.CapacityLaws.{Found}
use Rattle.judge.proofs.StepLaws.{Carried}
use Rattle.judge.proofs.capacity.least_capacity.Given as goal

abbrev pub invariant-instants : goal.invariant-instants
invariant-instants l =
    let ks = tasks_of l.fn.judgeable.component.table in
    Carried ks l.steps × Found ks l.fn.judgeable.component.period.0 l.fn.judgeable.component.deadline.0 l.judgeable.length.0 l.steps.at l.capacity.0

abbrev pub decreases-instants : goal.decreases-instants
decreases-instants l = l.judgeable.length.0 + 1 - l.steps.at
