-- A task is removed: the tasks before the place and those after it copied, and their common period worked out.
use Prim.Native.Nat.{ℕ, ◌+◌, ◌-◌, ◌≤◌}
use mathlib.Core.List.{List, ◌++◌}
use mathlib.Core.Path.{◌≡◌, sym, ◌∙◌, ap}
use native.Mathlib.Numerals.{add-one}
use native.Mathlib.Omega.{arith}
use lib.ListN.{length, take, drop, length-take, length-drop}
use lib.Seq.{length-take-le}
use borrow.Author.Rules.{rules}
use Rattle.std.proofs.lemmas.List.{take_all}
use Rattle.budget.specs.declared.task.Table.{Table}
use Rattle.budget.specs.declared.task.Task.{Task}
use Rattle.budget.specs.Edit.{removed}
use Rattle.budget.specs.Limits.{most_tasks}
use Rattle.budget.specs.Task.{tasks_of, table_of}
use Rattle.budget.proofs.Edits.{given, removed_none, removed_given}
use Rattle.budget.proofs.Places.{length_mapped}
use Rattle.budget.proofs.TableLaws.{few, tasks_are, returned, count_is}
use Rattle.budget.proofs.edit.removed_at.Goals as goal
use Rattle.budget.proofs.edit.removed_at.Goals.{After-append_all-left}

-- the tasks before a place and those after it, put together; the part after it is as long as there are tasks left
joined : (t r : Table) (ks : List Task) (n k : ℕ) → k ≡ n + 1 → t ≡ table_of (take n ks) → r ≡ table_of (tasks_of t ++ take (length ks - k) (drop k ks)) → r ≡ table_of (removed ks n)
unfolding removed
joined t r ks n k h e f =
    rw (tasks_are t _ e, take_all (length ks - k) (drop k ks) (omega (arith, length-drop k ks)), h, add-one n) at f

-- the table that is left is that of the tasks that are
shorter : (c : After-append_all-left) → c.append_all-left.result ≡ table_of (removed (tasks_of c.args.component.table) c.args.place)
shorter c =
    rw (← c.tasks-tasks.ensures) (joined _ _ c.tasks-tasks.result.now c.args.place _ (omega (arith, c.if-tasks-place.false)) c.table_from-before.ensures c.append_all-left.ensures)

-- the code counts the tasks that it has, the definition the table's count: they are the same where that is in range
counted : (t : Table) (ks : List Task) → t.count ≤ most_tasks → length t.tasks ≡ most_tasks → ks ≡ tasks_of t → length ks ≡ t.count
unfolding tasks_of
counted t ks h p e = rw e (length-take-le t.count t.tasks (rw p h))

pub returns-then-tasks-place : goal.returns-then-tasks-place
returns-then-tasks-place c =
    let p : length c.args.component.table.tasks ≡ most_tasks = search (rules, length_mapped) in
    sym (removed_none _ _ (omega (arith, counted _ _ c.requires p c.tasks-tasks.ensures, c.if-tasks-place.true)))

pub table_from-before-requires : goal.table_from-before-requires
table_from-before-requires c =
    omega (arith, length-take c.args.place c.tasks-tasks.result.now, ap (λ (l : List Task). length l) c.tasks-tasks.ensures, few c.args.component.table c.requires)

pub append_all-left-requires : goal.append_all-left-requires
append_all-left-requires c =
    let ks = c.tasks-tasks.result.now in
    let n = c.args.place in
    record {
      returned = returned _ _ c.table_from-before.ensures;
      room =
          omega (
            arith,
            count_is _ _ c.table_from-before.ensures,
            length-take n ks,
            length-take {A = Task},
            length-drop {A = Task},
            ap (λ (l : List Task). length l) c.tasks-tasks.ensures,
            few c.args.component.table c.requires,
            c.if-tasks-place.false,
          );
    }

pub with_table-requires : goal.with_table-requires
with_table-requires c = record { returned = returned _ _ (shorter (goal.at.with_table-requires c).After-append_all-left); right = c.common_of-common.ensures }

pub returns : goal.returns
returns c =
    let p : length c.args.component.table.tasks ≡ most_tasks = search (rules, length_mapped) in
    rw c.with_table.ensures
    (ap (given c.args.component) (tasks_are _ _ (shorter (goal.at.returns c).After-append_all-left))
    ∙ sym (removed_given _ _ (omega (arith, counted _ _ c.requires p c.tasks-tasks.ensures, c.if-tasks-place.false))))
