-- A task is added: the tasks copied with the new one last, and one common multiple with what is stored.
use mathlib.Core.Path.{◌≡◌, sym, ◌∙◌, ap}
use native.Mathlib.Nat.{le_of_lt}
use native.Mathlib.Omega.{arith}
use lib.ListN.{length-take}
use Rattle.budget.specs.declared.common.Common.{Common}
use Rattle.budget.specs.Common.{common_of, grown}
use Rattle.budget.specs.Component.{with_tasks}
use Rattle.budget.specs.Edit.{added}
use Rattle.budget.specs.Task.{T, tasks_of, table_of}
use Rattle.budget.proofs.CommonLaws.{common_added}
use Rattle.budget.proofs.TableLaws.{few, tasks_are, returned, append_returned}
use Rattle.budget.proofs.edit.added.Goals as goal
use Rattle.budget.proofs.edit.added.Goals.{After-append}

module _ (c : After-append) where
  longer : c.append.result ≡ table_of (added (tasks_of c.args.component.table) c.args.task)
  unfolding tasks_of added
  longer =
      let t = c.args.component.table in
      c.append.ensures
      ∙ append_returned _ (tasks_of t) _ (c.table_from-stood.ensures ∙ ap table_of c.tasks.ensures) (omega (arith, length-take t.count t.tasks, c.requires.0))

  stored : c.grow-grown.result ≡ common_of c.args.component.period.0 (tasks_of c.append.result)
  stored =
      let k = c.args.task in
      let p = c.args.component.period.0 in
      c.grow-grown.ensures
      ∙ ap (λ (s : Common). grown s (T k)) c.requires.1
      ∙ sym (common_added p _ k)
      ∙ ap (common_of p) (sym (tasks_are _ _ longer))

pub table_from-stood-requires : goal.table_from-stood-requires
table_from-stood-requires c = rw c.tasks.ensures (few _ (le_of_lt c.requires.0))

pub with_table-requires : goal.with_table-requires
with_table-requires c = record { returned = returned _ _ (longer c); right = stored c }

pub returns : goal.returns
returns c = c.with_table.ensures ∙ ap (with_tasks c.args.component) (tasks_are _ _ (longer (goal.at.returns c).After-append))
