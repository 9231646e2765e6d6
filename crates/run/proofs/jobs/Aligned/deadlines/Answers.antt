-- Each job's deadline is stored at its place: every place below i has its job's deadline.
use Rattle.std.proofs.Common.{◌≡◌, ◌≢◌, ◌<◌, length, get_or, sym, ◌∙◌, arith, rules, get_or-set_other, get_or-set_same, below_more}
use Rattle.std.proofs.lemmas.List.{get_or-map}
use Rattle.std.proofs.Math.ListN.{length-map}
use Rattle.std.proofs.Math.Seq.{ext_get_or}
use Rattle.run.specs.inner.Columns.{Timely, job_in, jobs_in}
use Rattle.run.specs.Job.{deadline, task_of, no_job}
use Rattle.run.proofs.Rows.{count}
use Rattle.run.proofs.jobs.Aligned.deadlines.Goals as goal
use Rattle.run.proofs.jobs.Aligned.deadlines.Goals.{After-at-job, After-deadline}

-- the job at the loop's place
fine : (c : After-at-job) → Timely c.args.table.now (job_in c.at-job.result)
fine c = rw c.at-job.ensures at (c.requires.1 c.loop-i.i (omega (arith, c.requires.0)))

pub bounds-table-job : goal.bounds-table-job
bounds-table-job c = (fine (goal.at.bounds-table-job c).After-at-job).there

pub deadline-requires : goal.deadline-requires
unfolding deadline task_of
deadline-requires c =
    let f = fine (goal.at.deadline-requires c).After-at-job in
    (f.behind, f.fits)

-- what is stored is the deadline of the job at the loop's place
stored : (c : After-deadline) → c.deadline.result ≡ deadline c.args.table.now (get_or (jobs_in c.args.self.now.jobs) c.loop-i.i no_job)
unfolding deadline task_of
stored c = rw c.at-job.ensures c.deadline.ensures

pub loop-i-preserved : goal.loop-i-preserved
loop-i-preserved c =
    let inside : c.loop-i.i < length c.loop-i.due = omega arith in (
      search rules,
      below_more _ _
          (λ k h. let other : k ≢ c.loop-i.i = omega arith in rw get_or-set_other (c.loop-i.invariant.1 k h))
          (rw get_or-set_same (stored (goal.at.loop-i-preserved c).After-deadline)),
    )

pub returns : goal.returns
returns c =
    let js = jobs_in c.args.self.now.jobs in
    let long = count c.args.self.now.jobs c.args.self.now.even in
    ext_get_or 0 c.loop-i.due _ (omega (arith, length-map js (deadline c.args.table.now), c.requires.0))
    (λ k h. c.loop-i.invariant.1 k (omega (arith, c.requires.0)) ∙ sym (get_or-map (deadline c.args.table.now) js k no_job 0 (omega (arith, c.requires.0))))
