-- Nothing misses at t where demand is at most supply up to t: the urgent work left at t is 0, as in the window that balances there the work
-- asked is at most the demand, the demand at most the supply, and the supply at most the units given. Where the units given up to t are
-- fewer than the work asked by t, some job due by t has work left at t.
use Prim.Native.Nat.{ℕ, ◌+◌, ◌≤◌, ◌<◌}
use mathlib.Core.Bool.{Bool, true, ◌&&◌}
use mathlib.Core.List.{List}
use mathlib.Core.Path.{◌≡◌, refl}
use lib.Dec.{leb, ltb}
use lib.ListN.{length, get_or}
use borrow.Author.Tests.{ltb-true, leb-true, le-leb, lt-ltb}
use native.Mathlib.Decide.{dec_le}
use native.Mathlib.Nat.{zero-add, not-suc-le-zero, le_trans, le_of_eq, le_dest}
use native.Mathlib.Omega.{arith}
use Rattle.budget.specs.declared.interface.Interface.{Interface}
use Rattle.budget.specs.declared.task.Task.{Task}
use Rattle.budget.specs.Task.{valid_tasks}
use Rattle.budget.specs.Demand.{demand}
use Rattle.budget.specs.Supply.{supply}
use Rattle.budget.proofs.Valid.{both, and_true, span_fits, valid_at}
use Rattle.budget.proofs.DemandLaws.{demand_zero}
use Rattle.run.specs.Job.{Job, deadline, task_of, legal_arrival, no_job}
use Rattle.run.specs.Run.{MissAt, earliest_deadline, left_by}
use Rattle.run.proofs.Arrival.{valid_in, valid_job_lem}
use Rattle.run.proofs.Latest.{due_of_latest, ready_by_latest}
use Rattle.run.proofs.RunLaws.{left_falls_by}
use Rattle.trace.specs.Legal.{zeros_and_ones}
use Rattle.trace.specs.Units.{units}
use Rattle.promises.specs.inner.Serving.{asked, due_by, unit_of, waiting_at, work_of}
use Rattle.promises.proofs.DemandBound.{work_within_demand}
use Rattle.promises.proofs.EarliestDeadline.{earliest_first}
use Rattle.promises.proofs.Serving.{flow}
use Rattle.promises.proofs.Sums.{left_at, left_found, work_below_or_from, work_by_key, work_le, work_none}
use Rattle.promises.proofs.Window.{window, arrived}

fits_or_none : (ks : List Task) → valid_tasks ks ≡ true → (i : Interface) (t : ℕ) → ((u : ℕ) → 1 ≤ u → u ≤ t → demand ks u ≤ supply i u)
    → (n : ℕ) → n ≤ t → Dec (1 ≤ n) → demand ks n ≤ supply i n
fits_or_none ks valid i t fits n h (yes l) = fits n l h
fits_or_none ks valid i t fits n h (no l) = let e : n ≡ 0 = omega arith in rw e (omega (arith, demand_zero ks valid))

-- the work asked in a window is at most that of the urgent jobs ready in it or later
pub asked_from : (urgent : Job → Bool) (js : List Job) (a n : ℕ) → units (asked urgent js) a n ≤ work_of (λ j. leb a j.ready && urgent j) js
unfolding asked
asked_from urgent js a n =
    let sum = work_by_key (λ j. j.ready) urgent js a n in
    let parts = work_below_or_from (λ j. j.ready) urgent js a in
    let fewer = work_le (λ j. ltb j.ready (a + n) && urgent j) urgent js (λ q l h. (both (ltb (get_or js q no_job).ready (a + n)) _ h).1) in
    omega arith

-- and by t it is all the urgent work, where every urgent job is ready before t
pub asked_all : (urgent : Job → Bool) (js : List Job) (t : ℕ) → ((q : ℕ) → q < length js → urgent (get_or js q no_job) ≡ true → (get_or js q no_job).ready < t)
    → work_of urgent js ≤ units (asked urgent js) 0 t
unfolding asked
asked_all urgent js t before =
    let sum = work_by_key (λ j. j.ready) urgent js 0 t in
    let none = work_none (λ j. ltb j.ready 0 && urgent j) js
    (λ q l h. not-suc-le-zero (ltb-true (get_or js q no_job).ready 0 (both (ltb (get_or js q no_job).ready 0) _ h).0)) in
    let all = work_le urgent (λ j. ltb j.ready (0 + t) && urgent j) js
    (λ q l h. and_true (lt-ltb (get_or js q no_job).ready (0 + t) (rw zero-add (before q l h))) h) in
    omega arith

module _ (ks : List Task) (valid : valid_tasks ks ≡ true) (js : List Job) (arrival : legal_arrival ks js ≡ true) where
  -- a job is ready before its deadline, as it is by its latest slot and the span is at least 1
  pub ready_before : (q : ℕ) → q < length js → (get_or js q no_job).ready < deadline ks (get_or js q no_job)
  unfolding task_of
  ready_before q l =
      let v = valid_in ks js arrival q l in
      let k = valid_at ks valid _ (valid_job_lem ks _ v).numbered in
      omega (arith, ready_by_latest ks _ v, due_of_latest ks valid _ v, k.works, span_fits _ k)

  module _ (s : List ℕ) (bits : zeros_and_ones s ≡ true) where
    -- what is asked in a window that ends at t is at most the demand of its length
    asked_most : (t a n : ℕ) → a + n ≡ t → units (asked (due_by ks t) js) a n ≤ demand ks n
    asked_most t a n e = rw (← e) (le_trans (asked_from (due_by ks (a + n)) js a n) (work_within_demand ks js valid arrival a n))

    pub none_urgent : (i : Interface) (t : ℕ) → ((u : ℕ) → 1 ≤ u → u ≤ t → demand ks u ≤ supply i u)
        → ((a n : ℕ) → a + n ≤ t → supply i n ≤ units (unit_of s) a n) → waiting_at (due_by ks t) (earliest_deadline ks js) js s t ≡ 0
    none_urgent i t fits given =
        let w = window _ _ _ (flow (earliest_deadline ks js) js s (due_by ks t) (earliest_first ks js t) bits) t in
        let ends = w.ends in
        let balance = w.balance in
        let most = asked_most t w.start w.slots w.ends in
        let units = given w.start w.slots (le_of_eq w.ends) in
        let some = fits_or_none ks valid i t fits w.slots (omega arith) (dec_le 1 w.slots) in
        omega arith

    -- a job that is late at t waits there among the urgent ones
    late_waits : (t : ℕ) → MissAt ks js s t → 0 < waiting_at (due_by ks t) (earliest_deadline ks js) js s t
    unfolding waiting_at due_by
    late_waits t m =
        let left = left_by (earliest_deadline ks js) js s t in
        let due = m.due in
        let before = ready_before m.place m.inside in
        let j = get_or js m.place no_job in
        let passes = and_true (lt-ltb j.ready t (omega arith)) (le-leb (deadline ks j) t (omega arith)) in
        le_trans m.late (left_at (λ j. ltb j.ready t && leb (deadline ks j) t) js left m.place m.inside passes)

    pub no_miss : (i : Interface) (t : ℕ) → ((u : ℕ) → 1 ≤ u → u ≤ t → demand ks u ≤ supply i u)
        → ((a n : ℕ) → a + n ≤ t → supply i n ≤ units (unit_of s) a n) → MissAt ks js s t → ⊥
    no_miss i t fits given m = omega (arith, none_urgent i t fits given, late_waits t m)

    -- urgent work left at t is that of a job that was late at its deadline
    pub late_by : (t : ℕ) → 0 < waiting_at (due_by ks t) (earliest_deadline ks js) js s t → (u : ℕ) × (u ≤ t) × MissAt ks js s u
    unfolding waiting_at due_by
    late_by t h =
        let left = left_by (earliest_deadline ks js) js s in
        let f = left_found (λ j. ltb j.ready t && leb (deadline ks j) t) js (left t) h in
        let j = get_or js f.place no_job in
        let u = deadline ks j in
        let due : u ≤ t = leb-true _ _ (both (ltb j.ready t) _ f.passes).1 in
        let d = le_dest due in
        let still : 0 < get_or (left (u + d.0)) f.place 0 = rw d.1 f.some in
        (u, due, record { place = f.place; inside = f.inside; due = refl; late = le_trans still (left_falls_by (earliest_deadline ks js) js s u d.0 f.place) })

    -- fewer units than the work due by t leave some of it
    pub too_few : (t : ℕ) → units (unit_of s) 0 t < work_of (due_by ks t) js → 0 < waiting_at (due_by ks t) (earliest_deadline ks js) js s t
    unfolding due_by
    too_few t h =
        let all = asked_all (due_by ks t) js t (λ q l e. le_trans (ready_before q l) (leb-true _ _ e)) in
        omega (arith, arrived _ _ _ (flow (earliest_deadline ks js) js s (due_by ks t) (earliest_first ks js t) bits) t)
