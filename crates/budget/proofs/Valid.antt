-- What the range tests of tasks and interfaces show, as facts about numbers and back: each test is a row of comparisons joined by `&&`.
use Prim.Native.Nat.{ℕ, zero, suc, ◌-◌, ◌≤◌, ◌<◌}
use mathlib.Core.Path.{◌≡◌, refl, ap₂}
use mathlib.Core.Bool.{Bool, true, false, ◌&&◌, false≢true}
use mathlib.Core.List.{List, [], ◌∷◌}
use lib.ListN.{length, get_or}
use borrow.Author.Tests.{leb-true, le-leb}
use native.Mathlib.Nat.{not-suc-le-zero, le_of_suc-le-suc}
use native.Mathlib.Omega.{arith}
use Rattle.budget.specs.declared.interface.Interface.{Interface}
use Rattle.budget.specs.declared.task.Task.{Task}
use Rattle.budget.specs.Interface.{Π, Θ, Δ, valid_interface}
use Rattle.budget.specs.Limits.{limit}
use Rattle.budget.specs.Task.{T, C, D, J, no_task, span, valid_task, valid_tasks}

pub both : (a b : Bool) → (a && b) ≡ true → (a ≡ true) × (b ≡ true)
both true b e = (refl, e)
both false b e = absurd (false≢true e)

pub and_true : {a b : Bool} → a ≡ true → b ≡ true → (a && b) ≡ true
and_true p q = ap₂ ◌&&◌ p q

pub record ValidTask (k : Task) : Type 0 where
  pub works : 1 ≤ C k
  pub fits : C k ≤ D k
  pub within : D k ≤ T k
  pub bounded : T k ≤ limit
  pub late : J k ≤ D k - C k

pub valid_task_lem : (k : Task) → valid_task k ≡ true → ValidTask k
unfolding valid_task
valid_task_lem k e =
    let a = both _ _ e in
    let b = both _ _ a.1 in
    let d = both _ _ b.1 in
    let l = both _ _ d.1 in
    record {
      works = leb-true _ _ a.0;
      fits = leb-true _ _ b.0;
      within = leb-true _ _ d.0;
      bounded = leb-true _ _ l.0;
      late = leb-true _ _ l.1;
    }

pub task_valid : (k : Task) → ValidTask k → valid_task k ≡ true
unfolding valid_task
task_valid k v =
    and_true (le-leb _ _ v.works) (and_true (le-leb _ _ v.fits) (and_true (le-leb _ _ v.within) (and_true (le-leb _ _ v.bounded) (le-leb _ _ v.late))))

-- the span of a task is at least its work, so at least 1, and no longer than its period
pub span_fits : (k : Task) → ValidTask k → C k ≤ span k
span_fits k v = omega (arith, v.fits, v.late)

pub span_within : (k : Task) → ValidTask k → span k ≤ T k
span_within k v = omega (arith, v.within)

pub record ValidInterface (i : Interface) : Type 0 where
  pub fits : Θ i ≤ Δ i
  pub within : Δ i ≤ Π i
  pub bounded : Π i ≤ limit
  pub some : 1 ≤ Δ i

pub valid_interface_lem : (i : Interface) → valid_interface i ≡ true → ValidInterface i
unfolding valid_interface
valid_interface_lem i e =
    let a = both _ _ e in
    let b = both _ _ a.1 in
    let d = both _ _ b.1 in
    record {
      fits = leb-true _ _ a.0;
      within = leb-true _ _ b.0;
      bounded = leb-true _ _ d.0;
      some = leb-true _ _ d.1;
    }

pub interface_valid : (i : Interface) → ValidInterface i → valid_interface i ≡ true
unfolding valid_interface
interface_valid i v =
    and_true (le-leb _ _ v.fits) (and_true (le-leb _ _ v.within) (and_true (le-leb _ _ v.bounded) (le-leb _ _ v.some)))

-- a task of a table in range, by its head and its tail, and by its place
pub valid_head : (k : Task) (ks : List Task) → valid_tasks (k ∷ ks) ≡ true → ValidTask k
unfolding valid_tasks
valid_head k ks e = valid_task_lem k (both _ _ e).0

pub valid_tail : (k : Task) (ks : List Task) → valid_tasks (k ∷ ks) ≡ true → valid_tasks ks ≡ true
unfolding valid_tasks
valid_tail k ks e = (both (valid_task k) _ e).1

pub valid_at : (ks : List Task) → valid_tasks ks ≡ true → (n : ℕ) → n < length ks → ValidTask (get_or ks n no_task)
valid_at [] e n h = absurd (not-suc-le-zero h)
valid_at (k ∷ ks) e zero h = valid_head k ks e
valid_at (k ∷ ks) e (suc n) h = valid_at ks (valid_tail k ks e) n (le_of_suc-le-suc h)
