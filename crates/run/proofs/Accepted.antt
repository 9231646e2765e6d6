-- What the walk may rely on where nothing is refused: each rule that its refusal goes down, as facts about the numbers.
use Prim.Native.Nat.{ℕ, zero, suc, ◌≤◌, ◌<◌}
use native.Mathlib.Nat.{le_of_suc-le-suc, not-suc-le-zero}
use native.Mathlib.Omega.{arith}
use mathlib.Core.Path.{◌≡◌, refl, ap}
use mathlib.Core.Bool.{Bool, true, false, cond}
use mathlib.Core.List.{List, [], ◌∷◌}
use lib.ListN.{length, get_or, length-take}
use lib.Dec.{leb, ltb, eqb}
use lib.IntN.{ℤ, pos}
use lib.Signed.{lt_z}
use borrow.Author.Tests.{ltb-false, leb-true, eqb-true, eqb-false, eq-eqb}
use Rattle.budget.specs.declared.task.Table.{Table}
use Rattle.budget.specs.Limits.{most_tasks}
use Rattle.budget.specs.Refusal as refusal
use Rattle.budget.specs.Task.{D, valid_tasks, tasks_of, table_refusal}
use Rattle.budget.proofs.Valid.{both, span_fits, valid_at}
use Rattle.trace.specs.Answer.{longest}
use Rattle.trace.specs.Legal.{zeros_and_ones}
use Rattle.run.specs.Job.{Job, deadline, task_of, legal_arrival, no_job}
use Rattle.run.specs.Run.{left_at}
use Rattle.run.specs.Walk.{most_jobs, jobs_of, released_before, valid_jobs, valid_trace, walk_refusal, stop, walked_to, walk_answer, left_after}
use Rattle.run.specs.inner.Columns.{Timely}
use Rattle.run.proofs.Arrival.{arrival_at, valid_in, valid_job_lem}
use Rattle.run.proofs.Latest.{due_of_latest}
use Rattle.run.proofs.Rows.{even}
use Rattle.run.proofs.Shifted.{from_zero_most}

-- a row of refusals with none: the first is none, and so are the others
first_none : (a x : ℕ) (b : Bool) → eqb a 0 ≡ b → cond b x a ≡ 0 → (a ≡ 0) × (x ≡ 0)
first_none a x true e f = (eqb-true a 0 e, f)
first_none a x false e f = absurd (eqb-false a 0 e f)

then_none : (b : Bool) (x n : ℕ) → 0 < n → cond b x n ≡ 0 → (b ≡ true) × (x ≡ 0)
then_none true x n h e = (refl, e)
then_none false x n h e = absurd (omega arith)

else_none : (b : Bool) (x n : ℕ) → 0 < n → cond b n x ≡ 0 → (b ≡ false) × (x ≡ 0)
else_none true x n h e = absurd (omega arith)
else_none false x n h e = (refl, e)

pub record Table_accepted (table : Table) : Type 0 where
  pub few : table.count ≤ most_tasks
  pub valid : valid_tasks (tasks_of table) ≡ true

pub table_accepted : (table : Table) → table_refusal table ≡ 0 → Table_accepted table
unfolding table_refusal
table_accepted table e =
    let a = else_none (ltb most_tasks table.count) _ refusal.tasks (omega arith) e in
    record { few = ltb-false _ _ a.0; valid = (then_none _ _ refusal.range (omega arith) a.1).0 }

pub record Accepted (table : Table) (ts : List ℕ) (rs : List ℤ) (ready ws s : List ℕ) (room : ℕ) : Type 0 where
  pub tasks : Table_accepted table
  pub releases_long : length rs ≡ length ts
  pub ready_long : length ready ≡ length ts
  pub works_long : length ws ≡ length ts
  pub few : length ts ≤ most_jobs
  pub released : released_before (length s) rs ≡ true
  pub legal : legal_arrival (tasks_of table) (jobs_of ts rs ready ws) ≡ true
  pub short : length s ≤ longest
  pub bits : zeros_and_ones s ≡ true
  pub room_is : room ≡ length ts

pub accepted : (table : Table) (ts : List ℕ) (rs : List ℤ) (ready ws s : List ℕ) (room : ℕ) → walk_refusal table ts rs ready ws s room ≡ 0 → Accepted table ts rs ready ws s room
unfolding walk_refusal valid_jobs valid_trace
accepted table ts rs ready ws s room e =
    let a = first_none (table_refusal table) _ _ refl e in
    let b = then_none (valid_jobs (tasks_of table) ts rs ready ws (length s)) _ refusal.jobs (omega arith) a.1 in
    let d = then_none (valid_trace s) _ refusal.bad_trace (omega arith) b.1 in
    let f = then_none (eqb room (length ts)) _ refusal.room (omega arith) d.1 in
    let v = both (eqb (length rs) (length ts)) _ b.0 in
    let u = both (eqb (length ready) (length ts)) _ v.1 in
    let w = both (eqb (length ws) (length ts)) _ u.1 in
    let x = both (leb (length ts) most_jobs) _ w.1 in
    let y = both (released_before (length s) rs) _ x.1 in
    record {
      tasks = table_accepted table a.0;
      releases_long = eqb-true _ _ v.0;
      ready_long = eqb-true _ _ u.0;
      works_long = eqb-true _ _ w.0;
      few = leb-true _ _ x.0;
      released = y.0;
      legal = y.1;
      short = leb-true _ _ (both (leb (length s) longest) _ d.0).0;
      bits = (both (leb (length s) longest) _ d.0).1;
      room_is = eqb-true _ _ f.0;
    }

-- the rules at one place
released_at_lem : (end : ℕ) (rs : List ℤ) → released_before end rs ≡ true → (k : ℕ) → k < length rs → lt_z (get_or rs k (pos 0)) (pos end) ≡ true
unfolding released_before
released_at_lem end [] e k h = absurd (not-suc-le-zero h)
released_at_lem end (r ∷ rs) e zero h = (both _ _ e).0
released_at_lem end (r ∷ rs) e (suc k) h = released_at_lem end rs (both (lt_z r (pos end)) _ e).1 k (le_of_suc-le-suc h)

-- a job's task has a number below 64
pub task_few : (table : Table) (ts : List ℕ) (rs : List ℤ) (ready ws s : List ℕ) (room : ℕ) → Accepted table ts rs ready ws s room
    → (q : ℕ) → q < length (jobs_of ts rs ready ws) → (get_or (jobs_of ts rs ready ws) q no_job).task < most_tasks
unfolding tasks_of
task_few table ts rs ready ws s room a q h =
    omega (
      arith,
      (arrival_at (tasks_of table) (jobs_of ts rs ready ws) a.legal q h).numbered,
      length-take table.count table.tasks,
      a.tasks.few,
    )

-- a job's task is there, and its deadline lies behind slot 0 and fits
pub job_fine : (table : Table) (ts : List ℕ) (rs : List ℤ) (ready ws s : List ℕ) (room : ℕ) → Accepted table ts rs ready ws s room
    → (k : ℕ) → k < length ts → Timely (tasks_of table) (get_or (jobs_of ts rs ready ws) k no_job)
unfolding deadline task_of
job_fine table ts rs ready ws s room a k h =
    let ks = tasks_of table in
    let js = jobs_of ts rs ready ws in
    let l = even ts rs ready ws a.releases_long a.ready_long a.works_long in
    let good = valid_in ks js a.legal k (omega (arith, l.count)) in
    let there = (valid_job_lem ks (get_or js k no_job) good).numbered in
    let task = valid_at ks a.tasks.valid (get_or js k no_job).task there in
    let released = released_at_lem (length s) rs a.released k (omega (arith, a.releases_long)) in
    let early = rw (← (ap (λ (j : Job). j.release) (l.at k h))) at released in
    let soon = from_zero_most (length s) (D (task_of ks (get_or js k no_job))) (get_or js k no_job).release early in
    record {
      there = there;
      behind = omega (arith, due_of_latest ks a.tasks.valid (get_or js k no_job) good, span_fits _ task, task.works);
      fits = omega (arith, soon, task.within, task.bounded, a.short);
    }

-- the answer and the buffer where nothing is refused
pub answer_accepted : (table : Table) (ts : List ℕ) (rs : List ℤ) (ready ws s : List ℕ) (room : ℕ) → walk_refusal table ts rs ready ws s room ≡ 0
    → walk_answer table ts rs ready ws s room ≡ walked_to (tasks_of table) (jobs_of ts rs ready ws) s (stop (tasks_of table) (jobs_of ts rs ready ws) s)
unfolding walk_answer
answer_accepted table ts rs ready ws s room e = rw (eq-eqb _ _ e)

pub left_accepted : (table : Table) (ts : List ℕ) (rs : List ℤ) (ready ws s left : List ℕ) → walk_refusal table ts rs ready ws s (length left) ≡ 0
    → left_after table ts rs ready ws s left ≡ left_at (tasks_of table) (jobs_of ts rs ready ws) s (stop (tasks_of table) (jobs_of ts rs ready ws) s)
unfolding left_after
left_accepted table ts rs ready ws s left e = rw (eq-eqb _ _ e)
