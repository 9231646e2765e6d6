-- A legal arrival stays one where tasks are put behind the others, and where only the jobs are kept whose releases pass a test.
use Prim.Native.Nat.{◌<◌}
use mathlib.Core.Bool.{Bool, true, false, cond, ◌&&◌}
use mathlib.Core.List.{List, [], ◌∷◌, ◌++◌}
use mathlib.Core.Path.{◌≡◌, refl}
use lib.Dec.{ltb}
use lib.IntN.{ℤ}
use lib.ListN.{length, length-append, get_or-append}
use borrow.Author.Tests.{lt-ltb}
use native.Mathlib.Omega.{arith}
use Rattle.budget.specs.declared.task.Task.{Task}
use Rattle.budget.specs.Task.{no_task}
use Rattle.budget.proofs.Valid.{and_true, both}
use Rattle.run.specs.Job.{Job, apart, before_all, in_order, legal_arrival, ready_in_time, task_of, valid_job}
use Rattle.run.proofs.Arrival.{valid_job_lem}
use Rattle.promises.proofs.Joined.{Follows}
use Rattle.nesting.specs.Behaviour.{jobs_where}

module _ (ks more : List Task) where
  task_same : (j : Job) → j.task < length ks → task_of (ks ++ more) j ≡ task_of ks j
  unfolding task_of
  task_same j l = get_or-append ks more no_task j.task l

  valid_wider : (j : Job) → valid_job ks j ≡ true → valid_job (ks ++ more) j ≡ true
  unfolding valid_job ready_in_time
  valid_wider j e =
      let l = (valid_job_lem ks j e).numbered in
      let there : j.task < length (ks ++ more) = rw length-append (omega arith) in
      rw (task_same j l) (and_true (lt-ltb _ _ there) (both (ltb j.task (length ks)) _ e).1)

  follows_wider : (a b : Job) → a.task < length ks → Follows ks a b → Follows (ks ++ more) a b
  unfolding apart
  follows_wider a b l e = rw (task_same a l) e

  before_wider : (a : Job) (js : List Job) → a.task < length ks → before_all ks a js ≡ true → before_all (ks ++ more) a js ≡ true
  unfolding before_all
  before_wider a [] l e = refl
  before_wider a (b ∷ js) l e =
      let x = both (in_order a b && apart ks a b) _ e in
      and_true (follows_wider a b l x.0) (before_wider a js l x.1)

  pub legal_wider : (js : List Job) → legal_arrival ks js ≡ true → legal_arrival (ks ++ more) js ≡ true
  unfolding legal_arrival
  legal_wider [] e = refl
  legal_wider (j ∷ js) e =
      let x = both (valid_job ks j) _ e in
      let y = both (before_all ks j js) _ x.1 in
      and_true (valid_wider j x.0) (and_true (before_wider j js (valid_job_lem ks j x.0).numbered y.0) (legal_wider js y.1))

module _ (ks : List Task) (test : ℤ → Bool) where
  before_kept : (a j : Job) (rest : List Job) (z : Bool) → Follows ks a j → before_all ks a rest ≡ true → before_all ks a (cond z (j ∷ rest) rest) ≡ true
  unfolding before_all
  before_kept a j rest true e f = and_true e f
  before_kept a j rest false e f = f

  before_where : (a : Job) (js : List Job) → before_all ks a js ≡ true → before_all ks a (jobs_where test js) ≡ true
  unfolding jobs_where before_all
  before_where a [] e = refl
  before_where a (j ∷ js) e =
      let x = both (in_order a j && apart ks a j) _ e in
      before_kept a j (jobs_where test js) (test j.release) x.0 (before_where a js x.1)

  legal_kept : (j : Job) (rest : List Job) (z : Bool) → valid_job ks j ≡ true → before_all ks j rest ≡ true → legal_arrival ks rest ≡ true
      → legal_arrival ks (cond z (j ∷ rest) rest) ≡ true
  unfolding legal_arrival
  legal_kept j rest true e f g = and_true e (and_true f g)
  legal_kept j rest false e f g = g

  pub legal_where : (js : List Job) → legal_arrival ks js ≡ true → legal_arrival ks (jobs_where test js) ≡ true
  unfolding jobs_where legal_arrival
  legal_where [] e = refl
  legal_where (j ∷ js) e =
      let x = both (valid_job ks j) _ e in
      let y = both (before_all ks j js) _ x.1 in
      legal_kept j (jobs_where test js) (test j.release) x.0 (before_where j js y.0) (legal_where js y.1)
