-- What the rules of releases and readiness come to: by the latest readiness of a job, which lies at its readiness or later and so at slot 0 or later.
use Prim.Native.Nat.{ℕ, ◌+◌, ◌≤◌}
use mathlib.Core.Bool.{true}
use mathlib.Core.List.{List}
use mathlib.Core.Path.{◌≡◌, sym, ap, ◌∙◌}
use lib.IntN.{pos, ◌+ℤ◌, +ℤ_idr}
use lib.ListN.{get_or}
use lib.Signed.{le_z}
use borrow.Author.Tests.{le-leb, leb-true}
use native.Mathlib.Nat.{le_antisymm}
use native.Mathlib.Omega.{arith}
use Rattle.budget.specs.declared.task.Task.{Task}
use Rattle.budget.specs.Task.{D, J, span, valid_tasks}
use Rattle.budget.proofs.Valid.{ValidTask, both, span_fits, valid_at}
use Rattle.run.specs.Job.{Job, no_job, ready_in_time, task_of, valid_job}
use Rattle.run.specs.LateJobs.{JobsPlaced, OnlyFirstEarly, Placed}
use Rattle.run.proofs.Arrival.{apart_pair, task_of_lem, valid_in, valid_job_lem}
use Rattle.run.proofs.Latest.{due_of_latest, from_ready, latest, latest_apart, on_from_latest, ready_by_latest}
use Rattle.run.proofs.Shifted.{moved}

module _ (ks : List Task) (v : valid_tasks ks ≡ true) (j : Job) (e : valid_job ks j ≡ true) where
  valid : ValidTask (task_of ks j)
  unfolding task_of
  valid = valid_at ks v j.task (valid_job_lem ks j e).numbered

  -- the latest readiness as a signed slot
  at_latest : j.release +ℤ pos (J (task_of ks j)) ≡ pos (latest ks j)
  unfolding latest
  at_latest = (from_ready ks j e).is

  pub placed : Placed ks j
  unfolding ready_in_time
  placed =
      let k = task_of ks j in
      let parts : D k ≡ J k + span k = omega (arith, valid.late) in
      let due = due_of_latest ks v j e in
      let by = ready_by_latest ks j e in
      let from = (both (le_z j.release (pos j.ready)) _ (valid_job_lem ks j e).in_time).0 in
      record {
        exact = ap (λ (d : ℕ). j.release +ℤ pos d) parts ∙ on_from_latest ks j e (span k) ∙ ap pos (sym due);
        ready_before = omega (arith, valid.works, span_fits k valid);
        not_earlier = rw at_latest (le-leb 0 (latest ks j) (omega arith));
        punctual = λ none.
            let here : j.release ≡ pos (latest ks j) = sym (+ℤ_idr j.release) ∙ rw none at at_latest in
            let back : latest ks j ≤ j.ready = leb-true _ _ (rw here at from) in
            here ∙ ap pos (le_antisymm back by);
      }

pub jobs_placed : JobsPlaced
jobs_placed ks v js e q l = placed ks v (get_or js q no_job) (valid_in ks js e q l)

pub only_first_early : OnlyFirstEarly
unfolding task_of
only_first_early ks v js e p q h l same =
    let b = get_or js q no_job in
    let vb = valid_in ks js e q l in
    let k = valid ks v b vb in
    let later = latest_apart ks (get_or js p no_job) b (valid_in ks js e p (omega arith)) same (apart_pair ks js e p q h l) in
    let tasks : task_of ks (get_or js p no_job) ≡ task_of ks b = task_of_lem ks (get_or js p no_job) b.task same in
    sym (moved (pos 1) b.release (J (task_of ks b)))
    ∙ rw (at_latest ks v b vb) (le-leb (1 + J (task_of ks b)) (latest ks b) (omega (arith, rw tasks at later, k.works, k.fits, k.late, k.within)))
