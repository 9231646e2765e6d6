-- The common period of a workload, child by child: what is stored stands for the own tasks, and each task that a table takes is one common multiple more.
use Prim.Native.Nat.{ℕ}
use native.Mathlib.Omega.{arith}
use mathlib.Core.Bool.{Bool, true, false, cond}
use mathlib.Core.List.{List, [], ◌∷◌, ◌++◌, append-nil}
use mathlib.Core.Path.{◌≡◌, sym, ap, ◌∙◌}
use lib.Dec.{ltb, eqb}
use lib.ListN.{length, take, length-append, length-take}
use lib.Seq.{length-take-le, take_all, take-append-le}
use borrow.Author.Tests.{ltb-true, ltb-false, lt-ltb, le-ltb}
use Rattle.budget.specs.declared.common.Common.{Common}
use Rattle.budget.specs.declared.task.Table.{Table}
use Rattle.budget.specs.declared.task.Task.{Task}
use Rattle.budget.specs.Common.{common_of, grown}
use Rattle.budget.specs.Edit.{added}
use Rattle.budget.specs.Limits.{most_tasks}
use Rattle.budget.specs.Task.{T, tasks_of, table_of}
use Rattle.budget.proofs.CommonLaws.{common_added}
use Rattle.budget.proofs.TableLaws.{count_is}
use Rattle.record.proofs.Cases.{either}
use Rattle.tree.specs.numbers.Offer.{Offer}
use Rattle.tree.specs.Offer.{as_task}

-- what the code makes of the common period for a child's offer to a table
abbrev pub grown_with : Common → Table → Offer → Common
grown_with s t o = cond (eqb o.capacity 0) s (cond (ltb t.count most_tasks) (grown s o.period) s)

module _ (p : ℕ) (t : Table) (ks : List Task) (is : t ≡ table_of (take most_tasks ks)) (s : Common) (stored : s ≡ common_of p (take most_tasks ks)) where
  -- a task more, as long as there is a place for it
  task_grown : (k : Task) → cond (ltb t.count most_tasks) (grown s (T k)) s ≡ common_of p (take most_tasks (ks ++ (k ∷ [])))
  unfolding added
  task_grown k =
      let count = count_is t (take most_tasks ks) is in
      either (ltb (length ks) most_tasks)
      (λ e. let short = ltb-true (length ks) most_tasks e in
      let all = take_all most_tasks ks (omega arith) in
      rw (
        lt-ltb t.count most_tasks (omega (arith, count, length-take most_tasks ks)),
        stored,
        all,
        take_all most_tasks (ks ++ (k ∷ [])) (omega (arith, length-append ks (k ∷ []))),
      )
      (sym (common_added p ks k)))
      (λ e. let long = ltb-false (length ks) most_tasks e in
      rw (
        le-ltb t.count most_tasks (omega (arith, count, length-take-le most_tasks ks long)),
        take-append-le most_tasks ks (k ∷ []) long,
      )
      stored)

  -- what a child adds: nothing for capacity 0
  pub child_grown : (o : Offer) (b : Bool) → cond b s (cond (ltb t.count most_tasks) (grown s o.period) s) ≡ common_of p (take most_tasks (ks ++ cond b [] (as_task o ∷ [])))
  child_grown o true = stored ∙ ap (λ (l : List Task). common_of p (take most_tasks l)) (sym (append-nil ks))
  child_grown o false = task_grown (as_task o)

-- the own tasks of a table: all that it has places for
pub own_held : (t : Table) → length t.tasks ≡ most_tasks → take most_tasks (tasks_of t) ≡ tasks_of t
unfolding tasks_of
own_held t whole = take_all most_tasks _ (omega (arith, length-take t.count t.tasks))
