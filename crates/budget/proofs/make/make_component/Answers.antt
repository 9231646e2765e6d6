-- A component is made as defined: the ranges first, then its tasks copied and their common period worked out.
use mathlib.Core.Path.{◌≡◌, sym, ◌∙◌, ap}
use Rattle.std.proofs.lemmas.Result.{err_from_is_err_and}
use Rattle.budget.specs.Make.{unmade}
use Rattle.budget.specs.Task.{tasks_of, table_of}
use Rattle.budget.proofs.Edits.{given, making_refused, making_given}
use Rattle.budget.proofs.Ranges.{in_range}
use Rattle.budget.proofs.Refusals.{some}
use Rattle.budget.proofs.TableLaws.{few, tasks_are, returned}
use Rattle.budget.proofs.make.make_component.Goals as goal
use Rattle.budget.proofs.make.make_component.Goals.{After-table_from-kept}

copied : (c : After-table_from-kept) → c.table_from-kept.result ≡ table_of (tasks_of c.args.table)
copied c = c.table_from-kept.ensures ∙ ap table_of c.tasks.ensures

pub returns-in_err-check_ranges : goal.returns-in_err-check_ranges
returns-in_err-check_ranges c =
    let p = err_from_is_err_and c.from_residual.result c.from_residual.ensures.1 in
    rw (p.1, p.2) (sym (making_refused _ _ _ _ _ _ c.in_err-check_ranges.ensures (some c.in_err-check_ranges.field-0.0)))

pub table_from-kept-requires : goal.table_from-kept-requires
table_from-kept-requires c = rw c.tasks.ensures (few _ (in_range _ (sym c.in_ok-check_ranges.ensures)).count)

pub with_table-requires : goal.with_table-requires
with_table-requires c = record { returned = returned _ _ (copied (goal.at.with_table-requires c).After-table_from-kept); right = c.common_of-common.ensures }

pub returns : goal.returns
returns c =
    let a = c.args in
    rw c.with_table.ensures
    (ap (given (unmade a.number a.period a.capacity a.deadline a.table)) (tasks_are _ _ (copied (goal.at.returns c).After-table_from-kept))
    ∙ sym (making_given _ _ _ _ _ (sym c.in_ok-check_ranges.ensures)))
