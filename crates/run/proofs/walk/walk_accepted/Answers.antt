-- What is accepted is walked: the deadlines and the whole works are those of the jobs given, so the walk over the slots is the run's.
use mathlib.Core.Path.{sym, ap, ◌∙◌}
use lib.ListN.{length}
use lib.Seq.{length-take-le}
use native.Mathlib.Omega.{arith}
use Rattle.budget.specs.Task.{tasks_of}
use Rattle.run.specs.inner.Columns.{OneLength}
use Rattle.run.specs.Job.{Job}
use Rattle.run.proofs.Accepted.{Accepted, accepted, job_fine, task_few, answer_accepted, left_accepted}
use Rattle.run.proofs.Rows.{at, count, works}
use Rattle.run.proofs.walk.walk_accepted.Goals as goal
use Rattle.run.proofs.walk.walk_accepted.Goals.{Start}

-- what is accepted keeps the rules, and its columns are of one length
kept : (s : Start) → let a = s.args in
    let j = a.jobs.now in Accepted a.table.now j.tasks.now j.releases.now j.ready.now j.works.now a.trace.now (length a.left.now)
kept s = accepted _ _ _ _ _ _ _ s.requires

even : (s : Start) → OneLength s.args.jobs.now
even s = let k = kept s in record { releases = k.releases_long; ready = k.ready_long; works = k.works_long }

pub slice_bounds-room-end : goal.slice_bounds-room-end
slice_bounds-room-end c = (kept (goal.at.slice_bounds-room-end c).Start).few

pub slice_bounds-due-end : goal.slice_bounds-due-end
slice_bounds-due-end c = sym (length-take-le _ _ (kept (goal.at.slice_bounds-due-end c).Start).few)

pub invariant_of-aligned : goal.invariant_of-aligned
invariant_of-aligned c = record { even = even (goal.at.invariant_of-aligned c).Start }

pub deadlines-requires : goal.deadlines-requires
deadlines-requires c =
    let s = (goal.at.deadlines-requires c).Start in
    let j = c.args.jobs.now in (
      length-take-le _ _ (kept s).few,
      rw c.tasks.ensures (job_fine c.args.table.now j.tasks.now j.releases.now j.ready.now j.works.now c.args.trace.now _ (kept s)),
    )

pub copy_from_slice-requires : goal.copy_from_slice-requires
copy_from_slice-requires c =
    let k = kept (goal.at.copy_from_slice-requires c).Start in
    k.room_is ∙ sym k.works_long

pub invariant_of-walk_slots : goal.invariant_of-walk_slots
invariant_of-walk_slots c =
    let s = (goal.at.invariant_of-walk_slots c).Start in
    let j = c.args.jobs.now in
    record {
      long = c.deadlines.auto.due ∙ length-take-le _ _ (kept s).few;
      numbered = λ k h.
          rw (ap (λ (j : Job). j.task) (at j (even s) k h))
          at (task_few c.args.table.now j.tasks.now j.releases.now j.ready.now j.works.now c.args.trace.now _ (kept s) k (omega (arith, count j (even s))));
    }

pub walk_slots-requires : goal.walk_slots-requires
walk_slots-requires c =
    let k = kept (goal.at.walk_slots-requires c).Start in
    (c.copy_from_slice.ensures.len ∙ k.room_is ∙ sym (c.deadlines.auto.due ∙ length-take-le _ _ k.few), k.short)

pub returns : goal.returns
returns c =
    let s = (goal.at.returns c).Start in
    let j = c.args.jobs.now in
    let done = c.walk_slots.ensures (tasks_of c.args.table.now) (rw (← c.tasks.ensures) (sym c.deadlines.ensures)) (works j (even s) ∙ sym c.copy_from_slice.ensures.after) in
    record {
      value = done.0 ∙ sym (answer_accepted c.args.table.now j.tasks.now j.releases.now j.ready.now j.works.now c.args.trace.now (length c.args.left.now) c.requires);
      leaves = done.1 ∙ sym (left_accepted c.args.table.now j.tasks.now j.releases.now j.ready.now j.works.now c.args.trace.now c.args.left.now c.requires);
    }
