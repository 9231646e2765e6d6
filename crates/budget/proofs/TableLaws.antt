-- Tables as they are returned, zero from the count on: the tasks read back, and a task appended to such a table gives such a table.
use Prim.Native.Nat.{ℕ, suc, ◌+◌, ◌-◌, ◌≤◌, ◌<◌}
use mathlib.Core.Path.{◌≡◌, refl, sym, ◌∙◌, ap}
use mathlib.Core.List.{List, [], ◌∷◌, ◌++◌, append_assoc}
use native.Mathlib.Omega.{arith}
use lib.ListN.{length, replicate, length-append, length-take}
use lib.Seq.{set-append_seam, append_snoc, take-append_seam, drop-append_seam}
use borrow.Author.Tests.{lt-ltb}
use borrow.Rule.Slice.PartMut.{put_mid}
use Rattle.std.proofs.lemmas.List.{drop-replicate}
use Rattle.budget.specs.declared.task.Task.{Task}
use Rattle.budget.specs.declared.task.Table.{Table}
use Rattle.budget.specs.Limits.{most_tasks}
use Rattle.budget.specs.Task.{tasks_of, table_of, appended, no_task}

-- a table that is returned reads back as its tasks
pub tasks_of_table : (ks : List Task) → tasks_of (table_of ks) ≡ ks
unfolding tasks_of table_of
tasks_of_table ks = take-append_seam ks _

-- of a table known to be returned for some tasks: they are its tasks, and their number is its count
pub tasks_are : (t : Table) (ks : List Task) → t ≡ table_of ks → tasks_of t ≡ ks
tasks_are t ks e = ap tasks_of e ∙ tasks_of_table ks

pub returned : (t : Table) (ks : List Task) → t ≡ table_of ks → t ≡ table_of (tasks_of t)
returned t ks e = e ∙ sym (ap table_of (tasks_are t ks e))

pub count_is : (t : Table) (ks : List Task) → t ≡ table_of ks → t.count ≡ length ks
unfolding table_of
count_is t ks e = ap (λ (s : Table). s.count) e

-- what follows no tasks is all there is
pub after_none : (t r : Table) (ks : List Task) → t ≡ table_of [] → r ≡ table_of (tasks_of t ++ ks) → r ≡ table_of ks
after_none t r ks e f = f ∙ ap (λ (l : List Task). table_of (l ++ ks)) (tasks_are t [] e)

-- the places left are one place and those left after it
places_left : (n : ℕ) → n < most_tasks → replicate (most_tasks - n) no_task ≡ no_task ∷ replicate (most_tasks - (n + 1)) no_task
places_left n h = let e : most_tasks - n ≡ suc (most_tasks - (n + 1)) = omega arith in rw e

pub append_returned : (t : Table) (ks : List Task) (k : Task) → t ≡ table_of ks → length ks < most_tasks → appended t k ≡ table_of (ks ++ (k ∷ []))
unfolding appended table_of
append_returned t ks k e h =
    rw (e, lt-ltb _ _ h, length-append ks (k ∷ []), places_left (length ks) h, set-append_seam, append_snoc)

-- tasks copied behind those of such a table give such a table
pub extended : (t : Table) (ks new : List Task) → t ≡ table_of ks → t.count + length new ≤ most_tasks
    → record { count = t.count + length new; tasks = put_mid t.count (t.count + length new - t.count) t.tasks new } ≡ table_of (ks ++ new)
unfolding table_of
extended t ks new e h =
    let long : length ks + length new - length ks ≡ length new = omega arith in
    let rest : most_tasks - length ks - length new ≡ most_tasks - (length ks + length new) = omega arith in
    rw (e, long, take-append_seam, drop-append_seam, drop-replicate, length-append, rest, append_assoc) refl

-- a table in range has no more tasks than it has places for
pub few : (t : Table) → t.count ≤ most_tasks → length (tasks_of t) ≤ most_tasks
unfolding tasks_of
few t h = omega (arith, length-take t.count t.tasks)
