-- Tasks appended to a table without any are all that it has.
use mathlib.Core.List.{[]}
use native.Mathlib.Omega.{arith}
use Rattle.budget.proofs.TableLaws.{returned, count_is, after_none}
use Rattle.budget.proofs.edit.table_from.Goals as goal

pub append_all-requires : goal.append_all-requires
append_all-requires c = record { returned = returned _ [] c.no_tasks.ensures; room = omega (arith, count_is _ [] c.no_tasks.ensures, c.requires) }

pub returns : goal.returns
returns c = after_none c.no_tasks.result _ _ c.no_tasks.ensures c.append_all.ensures
