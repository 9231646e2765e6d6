-- The latest readiness of a legal job is at slot 0 or later, so it can be reckoned with in natural numbers: the job is ready by it, its deadline
-- lies the task's span behind it, and two jobs of one task have theirs T apart, as they have their releases.
use Prim.Native.Nat.{ℕ, ◌+◌, ◌≤◌}
use mathlib.Core.Bool.{true}
use mathlib.Core.List.{List}
use mathlib.Core.Path.{◌≡◌, sym, ap, ◌∙◌}
use lib.IntN.{ℤ, pos, ◌+ℤ◌, +ℤ_assoc}
use lib.Signed.{le_z}
use native.Mathlib.Omega.{arith}
use Rattle.budget.specs.declared.task.Task.{Task}
use Rattle.budget.specs.Task.{T, D, J, span, valid_tasks}
use Rattle.budget.proofs.Valid.{both, valid_at}
use Rattle.run.specs.Job.{Job, apart, deadline, from_zero, ready_in_time, task_of, valid_job}
use Rattle.run.proofs.Arrival.{apart_of, task_of_lem, valid_job_lem}
use Rattle.run.proofs.Shifted.{FromZero, from_zero_lem, moved}

-- the latest slot in which a job may become ready: J slots after its release; a legal job's lies at slot 0 or later
unfoldable pub latest : List Task → Job → ℕ
latest ks j = from_zero (j.release +ℤ pos (J (task_of ks j)))

pub from_ready : (ks : List Task) (j : Job) → valid_job ks j ≡ true → FromZero j.ready (j.release +ℤ pos (J (task_of ks j)))
unfolding ready_in_time
from_ready ks j e = from_zero_lem _ _ (both (le_z j.release (pos j.ready)) _ (valid_job_lem ks j e).in_time).1

pub ready_by_latest : (ks : List Task) (j : Job) → valid_job ks j ≡ true → j.ready ≤ latest ks j
unfolding latest
ready_by_latest ks j e = (from_ready ks j e).from

-- further slots behind the latest one
pub on_from_latest : (ks : List Task) (j : Job) → valid_job ks j ≡ true → (n : ℕ) → j.release +ℤ pos (J (task_of ks j) + n) ≡ pos (latest ks j + n)
unfolding latest
on_from_latest ks j e n =
    sym (+ℤ_assoc j.release (pos (J (task_of ks j))) (pos n)) ∙ ap (λ (z : ℤ). z +ℤ pos n) (from_ready ks j e).is

pub due_of_latest : (ks : List Task) → valid_tasks ks ≡ true → (j : Job) → valid_job ks j ≡ true → deadline ks j ≡ latest ks j + span (task_of ks j)
unfolding deadline task_of
due_of_latest ks v j e =
    let k = valid_at ks v j.task (valid_job_lem ks j e).numbered in
    let parts : D (task_of ks j) ≡ J (task_of ks j) + span (task_of ks j) = omega (arith, k.late) in
    ap (λ (d : ℕ). from_zero (j.release +ℤ pos d)) parts ∙ ap from_zero (on_from_latest ks j e (span (task_of ks j)))

pub latest_apart : (ks : List Task) (a b : Job) → valid_job ks a ≡ true → a.task ≡ b.task → apart ks a b ≡ true
    → latest ks a + T (task_of ks a) ≤ latest ks b
unfolding latest task_of
latest_apart ks a b va same e =
    let k = task_of ks a in
    let kept : le_z (a.release +ℤ pos (T k) +ℤ pos (J k)) (b.release +ℤ pos (J k)) ≡ true
    = moved (a.release +ℤ pos (T k)) b.release (J k) ∙ apart_of ks a b e same in
    let later : a.release +ℤ pos (T k) +ℤ pos (J k) ≡ pos (latest ks a + T k)
    = +ℤ_assoc a.release (pos (T k)) (pos (J k)) ∙ ap (λ (n : ℕ). a.release +ℤ pos n) (omega arith) ∙ on_from_latest ks a va (T k) in
    (from_zero_lem (latest ks a + T k) (b.release +ℤ pos (J (task_of ks b))) (rw (← later, ← task_of_lem ks a b.task same) kept)).from
