-- The walk's miss is the first miss of the run: the lowest late task is a late job's and no late job's is lower, and the stop is the first
-- instant at which a job is late.
use Prim.Native.Nat.{ℕ, zero, suc, ◌+◌, ◌≤◌, ◌<◌, suc-le-suc, zero-le}
use native.Mathlib.Nat.{zero-add, not-suc-le-zero, le_of_suc-le-suc, le_refl, eq-or-lt_of_le}
use native.Mathlib.Omega.{arith}
use mathlib.Core.Path.{◌≡◌, refl, sym, subst, ◌∙◌}
use mathlib.Core.Logic.{⊎_elim}
use mathlib.Core.Bool.{Bool, true, false, cond, ◌&&◌, false≢true}
use mathlib.Core.List.{List, [], ◌∷◌}
use lib.ListN.{length, get_or}
use lib.Dec.{ltb, eqb}
use borrow.Author.Tests.{ltb-true, ltb-false, lt-ltb, eqb-true, eq-eqb}
use Rattle.budget.specs.declared.task.Task.{Task}
use Rattle.budget.specs.Limits.{most_tasks}
use Rattle.budget.specs.Task.{tasks_of}
use Rattle.budget.proofs.Valid.{both, and_true}
use Rattle.run.specs.FirstMiss.{Says, WalkTellsFirstMiss}
use Rattle.run.specs.Job.{Job, deadline, no_job}
use Rattle.run.specs.Run.{left_at, MissAt}
use Rattle.run.proofs.Accepted.{accepted, answer_accepted, task_few}
use Rattle.run.specs.Walked.{None, At}
use Rattle.run.specs.Walk.{jobs_of, late, late_task, missed, miss_of, stop_from, stop, walked_to}

-- the lowest late task is a late job's
record LateJob (ks : List Task) (t : ℕ) (js : List Job) (left : List ℕ) (k : ℕ) : Type 0 where
  place : ℕ
  inside : place < length js
  is_late : late ks t (get_or js place no_job) (get_or left place 0) ≡ true
  is_task : (get_or js place no_job).task ≡ k

later : (ks : List Task) (t : ℕ) (j : Job) (js : List Job) (w : ℕ) (left : List ℕ) (k : ℕ) → LateJob ks t js left k → LateJob ks t (j ∷ js) (w ∷ left) k
later ks t j js w left k l = record { place = suc l.place; inside = suc-le-suc l.inside; is_late = l.is_late; is_task = l.is_task }

late_one : (ks : List Task) (t : ℕ) (j : Job) (js : List Job) (w : ℕ) (left : List ℕ) (b : Bool)
    → (late ks t j w && ltb j.task (late_task ks t js left)) ≡ b
    → (late_task ks t js left < most_tasks → LateJob ks t js left (late_task ks t js left))
    → cond b j.task (late_task ks t js left) < most_tasks → LateJob ks t (j ∷ js) (w ∷ left) (cond b j.task (late_task ks t js left))
late_one ks t j js w left true e ih h = record { place = 0; inside = suc-le-suc zero-le; is_late = (both _ _ e).0; is_task = refl }
late_one ks t j js w left false e ih h = later ks t j js w left _ (ih h)

late_job_lem : (ks : List Task) (t : ℕ) (js : List Job) (left : List ℕ) → late_task ks t js left < most_tasks → LateJob ks t js left (late_task ks t js left)
unfolding late_task
late_job_lem ks t [] left h = absurd (omega arith)
late_job_lem ks t (j ∷ js) [] h = absurd (omega arith)
late_job_lem ks t (j ∷ js) (w ∷ left) h = late_one ks t j js w left _ refl (late_job_lem ks t js left) h

-- no late job's task is lower
lower_one : (a b : Bool) (k l : ℕ) → a ≡ true → ltb k l ≡ b → cond (a && b) k l ≤ k
lower_one true true k l e f = le_refl k
lower_one true false k l e f = ltb-false k l f
lower_one false b k l e f = absurd (false≢true e)

lower_rest : (a b : Bool) (k l m : ℕ) → ltb k l ≡ b → l ≤ m → cond (a && b) k l ≤ m
lower_rest true true k l m f h = omega (arith, ltb-true k l f)
lower_rest true false k l m f h = h
lower_rest false b k l m f h = h

not_late : (ks : List Task) (t : ℕ) (j : Job) → late ks t j 0 ≡ true → ⊥
unfolding late
not_late ks t j e = omega (arith, ltb-true 0 0 (both (eqb (deadline ks j) t) _ e).1)

lowest_late : (ks : List Task) (t : ℕ) (js : List Job) (left : List ℕ) (q : ℕ) → q < length js → late ks t (get_or js q no_job) (get_or left q 0) ≡ true
    → late_task ks t js left ≤ (get_or js q no_job).task
unfolding late_task
lowest_late ks t [] left q h e = absurd (not-suc-le-zero h)
lowest_late ks t (j ∷ js) [] q h e = absurd (not_late ks t _ e)
lowest_late ks t (j ∷ js) (w ∷ left) zero h e = lower_one _ _ j.task _ e refl
lowest_late ks t (j ∷ js) (w ∷ left) (suc q) h e =
    lower_rest (late ks t j w) _ j.task _ _ refl (lowest_late ks t js left q (le_of_suc-le-suc h) e)

-- a late job is a miss, and a miss is a late job
miss_late : (ks : List Task) (js : List Job) (s : List ℕ) (t : ℕ) (m : MissAt ks js s t)
    → late ks t (get_or js m.place no_job) (get_or (left_at ks js s t) m.place 0) ≡ true
unfolding late
miss_late ks js s t m = and_true (eq-eqb _ _ m.due) (lt-ltb _ _ m.late)

late_miss : (ks : List Task) (js : List Job) (s : List ℕ) (t k : ℕ) → LateJob ks t js (left_at ks js s t) k → MissAt ks js s t
unfolding late
late_miss ks js s t k l =
    let b = both _ _ l.is_late in
    record { place = l.place; inside = l.inside; due = eqb-true _ _ b.0; late = ltb-true _ _ (both (eqb _ t) _ l.is_late).1 }

-- the stop, looked for from t on over n slots: none is late before it, and one is late there unless all n slots are over
record StopAt (ks : List Task) (js : List Job) (s : List ℕ) (t n p : ℕ) : Type 0 where
  from : t ≤ p
  within : p ≤ t + n
  before : (u : ℕ) → t ≤ u → u < p → missed ks js s u ≡ false
  here : p < t + n → missed ks js s p ≡ true

module _ (ks : List Task) (js : List Job) (s : List ℕ) where
  stop_one : (t n p : ℕ) (b : Bool) → missed ks js s t ≡ b → StopAt ks js s (suc t) n p → StopAt ks js s t (suc n) (cond b t p)
  stop_one t n p true e l = record { from = le_refl t; within = omega arith; before = λ u a h. absurd (omega arith); here = λ h. e }
  stop_one t n p false e l =
      record {
        from = omega (arith, l.from);
        within = omega (arith, l.within);
        before = λ u a h. ⊎_elim (λ same. subst (λ (v : ℕ). missed ks js s v ≡ false) same e) (λ past. l.before u past h) (eq-or-lt_of_le a);
        here = λ h. l.here (omega arith);
      }

  stop_at : (t n : ℕ) → StopAt ks js s t n (stop_from ks js s t n)
  unfolding stop_from
  stop_at t zero = record { from = le_refl t; within = omega arith; before = λ u a h. absurd (omega arith); here = λ h. absurd (omega arith) }
  stop_at t (suc n) = stop_one t n (stop_from ks js s (suc t) n) _ refl (stop_at (suc t) n)

  stop_is : StopAt ks js s 0 (length s) (stop ks js s)
  unfolding stop
  stop_is = stop_at 0 (length s)

  -- where each job's task has a number below 64, an instant with no late job has no miss
  module _ (few : (q : ℕ) → q < length js → (get_or js q no_job).task < most_tasks) where
    no_miss : (t : ℕ) → missed ks js s t ≡ false → MissAt ks js s t → ⊥
    unfolding missed
    no_miss t e m =
        omega (
          arith,
          ltb-false (late_task ks t js (left_at ks js s t)) most_tasks e,
          few m.place m.inside,
          lowest_late ks t js (left_at ks js s t) m.place m.inside (miss_late ks js s t m),
        )

    says : (k : ℕ) (b : Bool) → late_task ks (stop ks js s) js (left_at ks js s (stop ks js s)) ≡ k → ltb k most_tasks ≡ b
        → Says ks js s (stop ks js s) (cond b (At (record { 0 = stop ks js s }) k) None)
    unfolding late_miss missed
    says k true f e =
        let t = stop ks js s in
        let l = late_job_lem ks t js (left_at ks js s t) (subst (λ (n : ℕ). n < most_tasks) (sym f) (ltb-true _ _ e)) in (
          refl,
          record {
            reached = omega (arith, stop_is.within);
            miss = late_miss ks js s t _ l;
            task = l.is_task ∙ f;
            lowest = λ other. omega (arith, lowest_late ks t js (left_at ks js s t) other.place other.inside (miss_late ks js s t other));
            earliest = λ u h. no_miss u (stop_is.before u zero-le h);
          },
        )
    says k false f e =
        let t = stop ks js s in
        let fine : missed ks js s t ≡ false = rw f e in
        let end : t ≡ length s = ⊎_elim (λ same. same ∙ zero-add _) (λ less. absurd (false≢true (sym fine ∙ stop_is.here less))) (eq-or-lt_of_le stop_is.within) in (
          end,
          λ u h.
              ⊎_elim (λ same. subst (λ (v : ℕ). MissAt ks js s v → ⊥) (end ∙ sym same) (no_miss t fine))
              (λ less. no_miss u (stop_is.before u zero-le (omega arith))) (eq-or-lt_of_le h),
        )

-- the jobs of a call that is taken have tasks that are there
pub walk_tells_first_miss : WalkTellsFirstMiss
unfolding walked_to miss_of
walk_tells_first_miss table ts rs ready ws s room e =
    let a = accepted table ts rs ready ws s room e in
    let ks = tasks_of table in
    let js = jobs_of ts rs ready ws in
    rw (answer_accepted table ts rs ready ws s room e) (says ks js s (task_few table ts rs ready ws s room a) _ _ refl refl)
