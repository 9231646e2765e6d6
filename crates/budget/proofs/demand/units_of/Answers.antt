-- What one task asks for is computed as defined; it fits, as the work of its jobs is at most one period more than the instant.
use Prim.Native.Nat.{ℕ, ◌+◌, ◌-◌, ◌*◌, ◌/◌, ◌≤◌}
use mathlib.Core.Path.{◌≡◌}
use native.Mathlib.Nat.{div-le_self}
use native.Mathlib.Omega.{arith}
use borrow.Author.Tests.{le-leb}
use Rattle.budget.specs.declared.task.Task.{Task}
use Rattle.budget.specs.Demand.{jobs_by}
use Rattle.budget.specs.Task.{T, C, span}
use Rattle.budget.proofs.DemandLaws.{jobs_work}
use Rattle.budget.proofs.Valid.{ValidTask, valid_task_lem}
use Rattle.budget.proofs.demand.units_of.Goals as goal
use Rattle.budget.proofs.demand.units_of.Goals.{Else-at-first, Start}

-- from its first deadline on a task asks for one job more than whole periods have passed
some_due : (k : Task) (t : ℕ) → span k ≤ t → ((t - span k) / T k + 1) * C k ≡ jobs_by k t * C k
unfolding jobs_by
some_due k t h = rw (le-leb _ _ h)

in_range : (s : Start) → ValidTask s.args.task
in_range s = valid_task_lem s.args.task s.requires.0

pub nonzero_div-result : goal.nonzero_div-result
nonzero_div-result c = omega (arith, in_range (goal.at.nonzero_div-result c).Start)

pub overflow_add-result : goal.overflow_add-result
overflow_add-result c = let s = c.args in rw c.span-first.ensures (omega (arith, div-le_self (s.at - span s.task) (T s.task)))

-- past the test the first deadline has come
come : (c : Else-at-first) → span c.args.task ≤ c.args.at
come c = omega (arith, c.span-first.ensures)

pub overflow_mul-result : goal.overflow_mul-result
overflow_mul-result c =
    rw c.span-first.ensures (omega (arith, some_due c.args.task c.args.at (come c), jobs_work c.args.task (in_range (goal.at.overflow_mul-result c).Start) c.args.at))

pub returns : goal.returns
returns c = rw c.span-first.ensures (some_due _ _ (come c))
