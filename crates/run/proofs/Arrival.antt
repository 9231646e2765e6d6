-- What a legal arrival says of its jobs: each is in range and ready in time, and two of one task lie T apart.
use Prim.Native.Nat.{ℕ, zero, suc, ◌≤◌, ◌<◌}
use mathlib.Core.Bool.{true, ◌&&◌}
use mathlib.Core.List.{List, [], ◌∷◌}
use mathlib.Core.Path.{◌≡◌, ap}
use lib.ListN.{length, get_or}
use lib.Dec.{leb}
use lib.IntN.{pos, ◌+ℤ◌}
use lib.Signed.{le_z}
use borrow.Author.Tests.{eq-eqb, leb-true, ltb-true}
use native.Mathlib.Omega.{arith}
use Rattle.budget.specs.declared.task.Task.{Task}
use Rattle.budget.specs.Task.{T, C, no_task}
use Rattle.budget.proofs.Valid.{both}
use Rattle.run.specs.Job.{Job, apart, before_all, in_order, legal_arrival, ready_in_time, task_of, valid_job, no_job}

-- what a legal arrival says of each job
pub record ValidJob (ks : List Task) (j : Job) : Type 0 where
  pub numbered : j.task < length ks
  pub works : 1 ≤ j.work
  pub most : j.work ≤ C (task_of ks j)
  pub in_time : ready_in_time ks j ≡ true

pub valid_job_lem : (ks : List Task) (j : Job) → valid_job ks j ≡ true → ValidJob ks j
unfolding valid_job
valid_job_lem ks j e =
    let a = both _ _ e in
    let b = both (leb 1 j.work && leb j.work (C (task_of ks j))) _ a.1 in
    let d = both _ _ b.0 in
    record { numbered = ltb-true _ _ a.0; works = leb-true _ _ d.0; most = leb-true _ _ d.1; in_time = b.1 }

pub valid_in : (ks : List Task) (js : List Job) → legal_arrival ks js ≡ true → (q : ℕ) → q < length js → valid_job ks (get_or js q no_job) ≡ true
unfolding legal_arrival
valid_in ks [] e q l = absurd (omega arith)
valid_in ks (j ∷ js) e zero l = (both _ _ e).0
valid_in ks (j ∷ js) e (suc q) l = valid_in ks js (both (before_all ks j js) _ (both (valid_job ks j) _ e).1).1 q (omega arith)

pub arrival_at : (ks : List Task) (js : List Job) → legal_arrival ks js ≡ true → (q : ℕ) → q < length js → ValidJob ks (get_or js q no_job)
arrival_at ks js e q l = valid_job_lem ks _ (valid_in ks js e q l)

pub apart_of : (ks : List Task) (a b : Job) → apart ks a b ≡ true → a.task ≡ b.task → le_z (a.release +ℤ pos (T (task_of ks a))) b.release ≡ true
unfolding apart
apart_of ks a b e h = rw (eq-eqb _ _ h) at e

-- every job of a list that a job goes before is apart from it
pub apart_at : (ks : List Task) (a : Job) (js : List Job) → before_all ks a js ≡ true → (q : ℕ) → q < length js → apart ks a (get_or js q no_job) ≡ true
unfolding before_all
apart_at ks a [] e q l = absurd (omega arith)
apart_at ks a (b ∷ js) e zero l = (both (in_order a b) _ (both _ _ e).0).1
apart_at ks a (b ∷ js) e (suc q) l = apart_at ks a js (both (in_order a b && apart ks a b) _ e).1 q (omega arith)

-- and so are any two of a legal arrival
pub apart_pair : (ks : List Task) (js : List Job) → legal_arrival ks js ≡ true → (p q : ℕ) → p < q → q < length js
    → apart ks (get_or js p no_job) (get_or js q no_job) ≡ true
unfolding legal_arrival
apart_pair ks [] e p q h l = absurd (omega arith)
apart_pair ks (j ∷ js) e p zero h l = absurd (omega arith)
apart_pair ks (j ∷ js) e zero (suc q) h l = apart_at ks j js (both (before_all ks j js) _ (both (valid_job ks j) _ e).1).0 q (omega arith)
apart_pair ks (j ∷ js) e (suc p) (suc q) h l =
    apart_pair ks js (both (before_all ks j js) _ (both (valid_job ks j) _ e).1).1 p q (omega arith) (omega arith)

pub task_of_lem : (ks : List Task) (j : Job) (i : ℕ) → j.task ≡ i → task_of ks j ≡ get_or ks i no_task
unfolding task_of
task_of_lem ks j i e = ap (λ (n : ℕ). get_or ks n no_task) e
