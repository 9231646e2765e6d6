-- The walk goes slot by slot: at instant t the work left and the units are the run's at t, and the stop is where the walk from t on stops.
use Prim.Native.Nat.{◌+◌, ◌≤◌}
use mathlib.Core.List.{List}
use mathlib.Core.Path.{◌≡◌}
use lib.ListN.{length}
use Rattle.budget.specs.declared.task.Task.{Task}
use Rattle.run.specs.inner.Columns.{Deadlines, Works, jobs_in}
use Rattle.run.proofs.Walking.{Walking}
use Rattle.run.proofs.walk.walk_slots.Given as goal

abbrev pub invariant-loop-t : goal.invariant-loop-t
invariant-loop-t l = (length l.left ≡ length l.initial.left)
    × (l.served + l.idle ≤ l.t)
    × ((ks : List Task) → Deadlines ks (jobs_in l.timed.aligned.jobs) l.timed.due.now → Works (jobs_in l.timed.aligned.jobs) l.initial.left
    → Walking ks (jobs_in l.timed.aligned.jobs) l.trace l.t l.left l.served l.idle)
