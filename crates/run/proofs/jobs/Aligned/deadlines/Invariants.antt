-- Each job's deadline is stored at its place: every place below i has its job's deadline.
use Prim.Native.Nat.{ℕ, ◌<◌}
use mathlib.Core.Path.{◌≡◌}
use lib.ListN.{length, get_or}
use Rattle.run.specs.inner.Columns.{jobs_in}
use Rattle.run.specs.Job.{deadline, no_job}
use Rattle.run.proofs.jobs.Aligned.deadlines.Given as goal

abbrev pub invariant-loop-i : goal.invariant-loop-i
invariant-loop-i l =
    (length l.due ≡ length l.self.jobs.tasks.now) × ((k : ℕ) → k < l.i → get_or l.due k 0 ≡ deadline l.table (get_or (jobs_in l.self.jobs) k no_job))
