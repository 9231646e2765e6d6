-- The work of jobs that become ready at a or later and are due by a + u is at most the demand at u. Each is counted by its latest readiness,
-- which is no earlier. Task by task: those latest slots lie T apart, so that n of them take (n − 1)·T and the last one's span; by induction
-- along the list, each job found moves the start behind it by T.
use Prim.Native.Nat.{ℕ, zero, suc, ◌+◌, ◌*◌, ◌≤◌, ◌<◌}
use mathlib.Core.Bool.{Bool, true, false, ◌&&◌}
use mathlib.Core.List.{List, [], ◌∷◌}
use mathlib.Core.Path.{◌≡◌, refl, sym, ◌∙◌}
use lib.Dec.{leb, ltb, eqb}
use lib.ListN.{length, get_or}
use borrow.Author.Tests.{leb-true, eqb-true, ltb-true, le-leb, lt-ltb}
use native.Mathlib.Nat.{zero-add, suc-add, not-suc-le-zero, le_trans, lt_of_mul-lt-mul_right, mul-le-mul_right}
use native.Mathlib.Omega.{arith}
use Rattle.budget.specs.declared.task.Task.{Task}
use Rattle.budget.specs.Task.{T, C, no_task, span, valid_tasks}
use Rattle.budget.specs.Demand.{demand, jobs_by}
use Rattle.budget.proofs.Valid.{both, and_true, ValidTask, valid_at}
use Rattle.budget.proofs.DemandLaws.{jobs_next_after}
use Rattle.run.specs.Job.{Job, valid_job, before_all, legal_arrival, no_job}
use Rattle.run.proofs.Arrival.{apart_at, arrival_at, task_of_lem, valid_in, valid_job_lem}
use Rattle.run.proofs.Latest.{due_of_latest, latest, latest_apart, ready_by_latest}
use Rattle.trace.specs.Units.{units}
use Rattle.trace.proofs.Units.{units_front, units_le, units_same}
use Rattle.promises.specs.inner.Serving.{work_of, due_by}
use Rattle.promises.proofs.Sums.{work_by_key, work_le, work_none}

-- the jobs of one task whose latest readiness is at a or later and that are due by t
abbrev of_task : List Task → ℕ → ℕ → ℕ → Job → Bool
of_task ks i a t j = eqb j.task i && (leb a (latest ks j) && due_by ks t j)

-- n jobs of a task, T apart, fit between a and t
abbrev Fit : Task → ℕ → ℕ → ℕ → Type 0
Fit k a t zero = Unit {0}
Fit k a t (suc n) = a + n * T k + span k ≤ t

pub record Counted (ks : List Task) (js : List Job) (i a t : ℕ) : Type 0 where
  pub jobs : ℕ
  pub work : work_of (of_task ks i a t) js ≤ jobs * C (get_or ks i no_task)
  pub fit : Fit (get_or ks i no_task) a t jobs

-- what the test of one task's jobs shows
record OfTask (ks : List Task) (i a t : ℕ) (j : Job) : Type 0 where
  task : j.task ≡ i
  from : a ≤ latest ks j
  due : latest ks j + span (get_or ks i no_task) ≤ t

fit_suc : (k : Task) (a r t n : ℕ) → a ≤ r → r + span k ≤ t → Fit k (r + T k) t n → Fit k a t (suc n)
fit_suc k a r t zero h d f = omega arith
fit_suc k a r t (suc n) h d f = omega arith

module _ (ks : List Task) (valid : valid_tasks ks ≡ true) where
  of_task_lem : (i a t : ℕ) (j : Job) → valid_job ks j ≡ true → of_task ks i a t j ≡ true → OfTask ks i a t j
  unfolding due_by
  of_task_lem i a t j v e =
      let x = both (eqb j.task i) _ e in
      let y = both (leb a (latest ks j)) _ x.1 in
      let same = eqb-true _ _ x.0 in
      let due = leb-true _ _ y.1 in
      record {
        task = same;
        from = leb-true _ _ y.0;
        due = rw (← task_of_lem ks j i same, ← due_of_latest ks valid j v) due;
      }

  -- the jobs of the task behind one of them begin T later
  behind : (i a t : ℕ) (j : Job) (js : List Job) → OfTask ks i a t j → valid_job ks j ≡ true → before_all ks j js ≡ true
      → work_of (of_task ks i a t) js ≤ work_of (of_task ks i (latest ks j + T (get_or ks i no_task)) t) js
  behind i a t j js o v h =
      work_le (of_task ks i a t) (of_task ks i (latest ks j + T (get_or ks i no_task)) t) js
      (λ q l p.
      let b = get_or js q no_job in
      let x = both (eqb b.task i) _ p in
      let y = both (leb a (latest ks b)) _ x.1 in
      let later : latest ks j + T (get_or ks i no_task) ≤ latest ks b
      = rw (← task_of_lem ks j i o.task) (latest_apart ks j b v (o.task ∙ sym (eqb-true _ _ x.0)) (apart_at ks j js h q l)) in
      and_true x.0 (and_true (le-leb _ _ later) y.1))

  counted_step : (i a t : ℕ) (j : Job) (js : List Job) (b : Bool) → of_task ks i a t j ≡ b → valid_job ks j ≡ true → before_all ks j js ≡ true
      → ((s : ℕ) → Counted ks js i s t) → Counted ks (j ∷ js) i a t
  unfolding work_of
  counted_step i a t j js true e v h rest =
      let o = of_task_lem i a t j v e in
      let k = get_or ks i no_task in
      let r = rest (latest ks j + T k) in
      let later = behind i a t j js o v h in
      let most : j.work ≤ C k = rw (← task_of_lem ks j i o.task) (valid_job_lem ks j v).most in
      let work = r.work in
      record {
        jobs = suc r.jobs;
        work = rw e (omega arith);
        fit = fit_suc k a (latest ks j) t r.jobs o.from o.due r.fit;
      }
  counted_step i a t j js false e v h rest =
      let r = rest a in
      let work = r.work in
      record { jobs = r.jobs; work = rw e (omega arith); fit = r.fit }

  counted : (js : List Job) → legal_arrival ks js ≡ true → (i a t : ℕ) → Counted ks js i a t
  unfolding legal_arrival work_of
  counted [] e i a t = record { jobs = 0; work = omega arith; fit = tt }
  counted (j ∷ js) e i a t =
      let x = both (valid_job ks j) _ e in
      let y = both (before_all ks j js) _ x.1 in
      counted_step i a t j js _ refl x.0 y.0 (λ s. counted js y.1 i s t)

fit_jobs : (k : Task) → ValidTask k → (a u n : ℕ) → Fit k a (a + u) n → n ≤ jobs_by k u
fit_jobs k v a u zero f = omega arith
fit_jobs k v a u (suc n) f = lt_of_mul-lt-mul_right (T k) (omega (arith, jobs_next_after k v u))

-- one task's part of the demand, by its number
abbrev share : List Task → ℕ → ℕ → ℕ
share ks u i = jobs_by (get_or ks i no_task) u * C (get_or ks i no_task)

task_bound : (ks : List Task) (js : List Job) → valid_tasks ks ≡ true → legal_arrival ks js ≡ true → (a u i : ℕ) → i < length ks
    → work_of (of_task ks i a (a + u)) js ≤ share ks u i
task_bound ks js v e a u i l =
    let n = counted ks v js e i a (a + u) in
    le_trans n.work (mul-le-mul_right _ (fit_jobs _ (valid_at ks v i l) a u n.jobs n.fit))

demand_shares : (ks : List Task) (u : ℕ) → demand ks u ≡ units (share ks u) 0 (length ks)
unfolding demand units
demand_shares [] u = refl
demand_shares (k ∷ ks) u =
    let rest = units_same (share (k ∷ ks) u) (share ks u) 1 0 (length ks) (λ m l. rw (zero-add m, suc-add 0 m, zero-add m)) in
    omega (arith, demand_shares ks u, units_front (share (k ∷ ks) u) 0 (length ks))

pub work_within_demand : (ks : List Task) (js : List Job) → valid_tasks ks ≡ true → legal_arrival ks js ≡ true → (a u : ℕ)
    → work_of (λ j. leb a j.ready && due_by ks (a + u) j) js ≤ demand ks u
work_within_demand ks js v e a u =
    let p : Job → Bool = λ j. leb a (latest ks j) && due_by ks (a + u) j in
    let all = work_le (λ j. leb a j.ready && due_by ks (a + u) j) (λ j. ltb j.task (0 + length ks) && p j) js
    (λ q l h.
    let j = get_or js q no_job in
    let x = both (leb a j.ready) _ h in
    let late = le-leb a (latest ks j) (le_trans (leb-true _ _ x.0) (ready_by_latest ks j (valid_in ks js e q l))) in
    and_true (lt-ltb j.task (0 + length ks) (rw zero-add (arrival_at ks js e q l).numbered)) (and_true late x.1)) in
    let none = work_none (λ j. ltb j.task 0 && p j) js (λ q l h. not-suc-le-zero (ltb-true (get_or js q no_job).task 0 (both (ltb (get_or js q no_job).task 0) _ h).0)) in
    let sum = work_by_key (λ j. j.task) p js 0 (length ks) in
    let each = units_le (λ i. work_of (λ j. eqb j.task i && p j) js) (share ks u) 0 0 (length ks)
    (λ i l. task_bound ks js v e a u (0 + i) (rw zero-add l)) in
    omega (arith, demand_shares ks u)
