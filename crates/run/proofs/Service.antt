-- The place that `next` finds is the one that the rules serve, and the only one: two jobs that neither goes before are of one task and have
-- one deadline, so one latest readiness, and those of two jobs of a task lie T apart.
use Prim.Native.Nat.{ℕ, ◌<◌}
use mathlib.Core.Bool.{true}
use mathlib.Core.List.{List}
use mathlib.Core.Path.{◌≡◌, ap, sym}
use lib.ListN.{length, get_or}
use native.Mathlib.Decide.{dec_lt}
use native.Mathlib.Nat.{le_antisymm}
use native.Mathlib.Omega.{arith}
use Rattle.budget.specs.declared.task.Task.{Task}
use Rattle.budget.specs.Task.{no_task, span, valid_tasks}
use Rattle.budget.proofs.Valid.{valid_at}
use Rattle.run.specs.Job.{Job, deadline, legal_arrival, task_of, no_job}
use Rattle.run.specs.Service.{OneServed, Serves, SlotServes}
use Rattle.run.specs.Order.{goes_before}
use Rattle.run.proofs.LeastFirst.{decides, not_before}
use Rattle.run.proofs.Arrival.{apart_pair, valid_in, valid_job_lem}
use Rattle.run.proofs.Latest.{due_of_latest, latest_apart}
use Rattle.run.proofs.Next.{next_first, next_found, next_most, next_waits}

pub slot_serves : SlotServes
slot_serves ks n js left =
    record {
      place = next_most (goes_before ks) n js left;
      waiting = next_waits (goes_before ks) n js left;
      first = next_first (goes_before ks) n (decides (deadline ks)) js left;
      idle = λ e q h k. omega (arith, next_found (goes_before ks) n js left q h k);
    }

module _ (ks : List Task) (js : List Job) (valid : valid_tasks ks ≡ true) (legal : legal_arrival ks js ≡ true) (n : ℕ) (left : List ℕ) where
  -- two jobs of one task with one deadline are one
  not_twice : (p q : ℕ) → p < q → q < length js → (get_or js p no_job).task ≡ (get_or js q no_job).task
      → deadline ks (get_or js p no_job) ≡ deadline ks (get_or js q no_job) → ⊥
  unfolding task_of
  not_twice p q h l same due =
      let a = valid_in ks js legal p (omega arith) in
      let b = valid_in ks js legal q l in
      let k = valid_at ks valid _ (valid_job_lem ks _ a).numbered in
      let spans = ap (λ (n : ℕ). span (get_or ks n no_task)) same in
      omega (
        arith,
        latest_apart ks _ _ a same (apart_pair ks js legal p q h l),
        due_of_latest ks valid _ a,
        due_of_latest ks valid _ b,
        k.works,
        k.fits,
        k.within,
      )

  not_earlier : (p q : ℕ) → Serves (goes_before ks) n js left p → Serves (goes_before ks) n js left q → p < q → Dec (q < length js) → ⊥
  not_earlier p q x y h (yes l) =
      let a = not_before (deadline ks) _ _ (x.first q l (y.waiting l)) in
      let b = not_before (deadline ks) _ _ (y.first p (omega arith) (x.waiting (omega arith))) in
      let due = le_antisymm a.keys b.keys in
      not_twice p q h l (le_antisymm (a.tasks (sym due)) (b.tasks due)) due
  not_earlier p q x y h (no l) =
      let g = y.place in
      y.idle (omega arith) p (omega arith) (x.waiting (omega arith))

pub one_served : OneServed
one_served ks js valid legal n left p q x y = go (dec_lt p q) (dec_lt q p)
  where
    go : Dec (p < q) → Dec (q < p) → p ≡ q
    go (yes l) d = absurd (not_earlier ks js valid legal n left p q x y l (dec_lt q (length js)))
    go (no l) (yes g) = absurd (not_earlier ks js valid legal n left q p y x g (dec_lt p (length js)))
    go (no l) (no g) = omega arith
