-- A job keeps its own rules and goes before the later ones as defined: its task is the one that its number has in the table.
use mathlib.Core.Path.{◌≡◌, sym, ap}
use lib.ListN.{get_or}
use borrow.Author.Tests.{lt-ltb, le-ltb}
use Rattle.budget.specs.Task.{T, no_task}
use Rattle.run.specs.inner.Columns.{jobs_in}
use Rattle.run.specs.Job.{valid_job, ready_in_time, task_of, no_job}
use Rattle.run.proofs.jobs.Aligned.is_legal_at.Goals as goal
use Rattle.run.proofs.jobs.Aligned.is_legal_at.Goals.{After-is_within}

-- the job's own rules, as the code tests them
valid : (c : After-is_within) → valid_job c.args.table.now (get_or (jobs_in c.args.self.now.jobs) c.args.i no_job) ≡ c.is_within.result
unfolding valid_job ready_in_time task_of
valid c =
    let h = c.in-Some.ensures.lookup.3 in
    rw (c.at-job.ensures, ← (h.1 no_task), lt-ltb _ _ h.0, c.is_within.ensures)

pub returns-then-is_within : goal.returns-then-is_within
unfolding task_of
returns-then-is_within c =
    let h = c.in-Some.ensures.lookup.3 in
    rw (valid (goal.at.returns-then-is_within c).After-is_within, c.if-is_within.true)
    (c.is_before_rest.ensures c.args.table.now (rw c.at-job.ensures (ap T (sym (h.1 no_task)))))

pub returns-else-is_within : goal.returns-else-is_within
returns-else-is_within c = rw (valid (goal.at.returns-else-is_within c).After-is_within, c.if-is_within.false)

pub returns-in-None : goal.returns-in-None
unfolding valid_job
returns-in-None c = rw (c.at-job.ensures, le-ltb _ _ c.in-None.ensures.lookup.3)
