-- The walk goes slot by slot: at instant t the work left and the units are the run's at t, and the stop is where the walk from t on stops.
use Prim.Native.Nat.{◌+◌, ◌≤◌}
use mathlib.Core.Path.{◌≡◌, refl, sym, ◌∙◌}
use borrow.Author.Rules.{rules}
use native.Mathlib.Nat.{le_antisymm}
use native.Mathlib.Omega.{arith}
use Rattle.run.specs.declared.scan.Given.{Given}
use Rattle.run.specs.declared.scan.Given.TheVariants.{Nothing, Served, Idle}
use Rattle.run.specs.inner.Columns.{jobs_in}
use Rattle.run.specs.inner.Scan.{served_of, idle_of}
use Rattle.run.proofs.Walking.{late_if_told, begin, step, stop_late, stop_end, answers}
use Rattle.run.proofs.walk.walk_slots.Goals as goal
use Rattle.run.proofs.walk.walk_slots.Goals.{in-Nothing, in-Served, in-Idle, Joined-serve}

pub loop-t-init : goal.loop-t-init
loop-t-init c =
    let s = c.args.timed.now in
    (search rules, search rules, λ ks dues works. begin ks (jobs_in s.aligned.jobs) c.args.trace.now c.args.left.now works)

pub returns-then-is_some : goal.returns-then-is_some
returns-then-is_some c =
    λ ks dues works.
    let js = jobs_in c.args.timed.now.aligned.jobs in
    let w = c.loop-t.invariant.2 ks dues works in
    let told = c.miss_at-miss.ensures ks dues in
    let late = late_if_told _ _ _ told ∙ sym c.is_some.ensures ∙ c.if-is_some.true in
    answers ks js c.args.trace.now c.loop-t.t c.loop-t.left c.loop-t.served c.loop-t.idle w
    (stop_late ks js c.args.trace.now c.loop-t.t c.loop-t.left c.loop-t.served c.loop-t.idle w late) _ told

-- what the slot gave is counted
more_served : (c : Joined-serve) → c.match-serve.served ≡ c.loop-t.served + served_of c.serve.result
more_served c =
    elim c.match-serve.branch [
      | in-Nothing w ↦ rw (w.in-Nothing.is, w.served-is) (omega arith)
      | in-Served w ↦ rw (w.in-Served.is, w.served-is)
      | in-Idle w ↦ rw (w.in-Idle.is, w.served-is) (omega arith)
    ]

more_idle : (c : Joined-serve) → c.match-serve.idle ≡ c.loop-t.idle + idle_of c.serve.result
more_idle c =
    elim c.match-serve.branch [
      | in-Nothing w ↦ rw (w.in-Nothing.is, w.idle-is) (omega arith)
      | in-Served w ↦ rw (w.in-Served.is, w.idle-is) (omega arith)
      | in-Idle w ↦ rw (w.in-Idle.is, w.idle-is)
    ]

-- a slot gives one unit at most
one_given : (g : Given) → served_of g + idle_of g ≤ 1
one_given Nothing = omega arith
one_given Served = omega arith
one_given Idle = omega arith

pub loop-t-preserved : goal.loop-t-preserved
loop-t-preserved c =
    let served = more_served (goal.at.loop-t-preserved c).Joined-serve in
    let idle = more_idle (goal.at.loop-t-preserved c).Joined-serve in (
      search rules,
      omega (arith, one_given c.serve.result),
      λ ks dues works.
          let js = jobs_in c.args.timed.now.aligned.jobs in
          let fine = late_if_told _ _ _ (c.miss_at-miss.ensures ks dues) ∙ sym c.is_some.ensures ∙ c.if-is_some.false in
          rw (served, idle)
          (step ks js c.args.trace.now c.loop-t.t c.loop-t.left c.loop-t.served c.loop-t.idle (c.loop-t.invariant.2 ks dues works)
          c.serve.new.left _ _ c.loop-t-test.true fine (c.serve.ensures ks dues)),
    )

pub returns : goal.returns
returns c =
    λ ks dues works.
    let js = jobs_in c.args.timed.now.aligned.jobs in
    let end = le_antisymm c.loop-t.auto.t-end c.loop-t-test.false in
    let w = rw end at (c.loop-t.invariant.2 ks dues works) in
    answers ks js c.args.trace.now _ c.loop-t.left c.loop-t.served c.loop-t.idle w
    (stop_end ks js c.args.trace.now _ c.loop-t.left c.loop-t.served c.loop-t.idle w refl) _ (c.miss_at.ensures ks dues)
