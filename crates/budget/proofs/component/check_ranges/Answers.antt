-- A component's ranges are refused as defined: what the table is refused for comes first, then the interface.
use mathlib.Core.Bool.{Bool, true, false, cond, ◌&&◌}
use mathlib.Core.Path.{◌≡◌, refl, sym, ◌∙◌, ap}
use native.Mathlib.Omega.{arith}
use lib.Dec.{ltb}
use Rattle.std.proofs.lemmas.Result.{err_from_is_err_and}
use Rattle.budget.specs.Component.{range_refusal, valid_component, interface_of}
use Rattle.budget.specs.Interface.{valid_interface, interface_refusal}
use Rattle.budget.specs.Refusal as refusal
use Rattle.budget.specs.Task.{table_refusal, tasks_of, valid_tasks}
use Rattle.budget.specs.Limits.{most_tasks}
use Rattle.budget.specs.declared.component.Component.{Component}
use Rattle.budget.proofs.Refusals.{some}
use Rattle.budget.proofs.component.check_ranges.Goals as goal

-- a table that is refused is what the component is refused for, and one that is not leaves the interface
by_table : (b i v : Bool) → (cond b refusal.tasks (cond v refusal.none refusal.range) ≡ refusal.none → ⊥) → cond b refusal.tasks (cond v refusal.none refusal.range) ≡ cond b refusal.tasks (cond (i && v) refusal.none refusal.range)
by_table true i v h = refl
by_table false i true h = absurd (h refl)
by_table false true false h = refl
by_table false false false h = refl

by_interface : (b i v : Bool) → cond b refusal.tasks (cond v refusal.none refusal.range) ≡ refusal.none → cond i refusal.none refusal.range ≡ cond b refusal.tasks (cond (i && v) refusal.none refusal.range)
by_interface true i v e = absurd (omega (arith, e))
by_interface false i false e = absurd (omega (arith, e))
by_interface false true true e = refl
by_interface false false true e = refl

refused_table : (k : Component) → (table_refusal k.table ≡ refusal.none → ⊥) → table_refusal k.table ≡ range_refusal k
unfolding range_refusal valid_component table_refusal
refused_table k h = by_table (ltb most_tasks k.table.count) (valid_interface (interface_of k)) (valid_tasks (tasks_of k.table)) h

unrefused_table : (k : Component) → table_refusal k.table ≡ refusal.none → interface_refusal (interface_of k) ≡ range_refusal k
unfolding range_refusal valid_component table_refusal interface_refusal
unrefused_table k e = by_interface (ltb most_tasks k.table.count) (valid_interface (interface_of k)) (valid_tasks (tasks_of k.table)) e

pub returns-in_err-check_table : goal.returns-in_err-check_table
returns-in_err-check_table c =
    let p = err_from_is_err_and c.from_residual.result c.from_residual.ensures.1 in
    let e = c.in_err-check_table.ensures in
    rw (p.1, p.2) (e ∙ refused_table c.args.component (λ z. some c.in_err-check_table.field-0.0 (e ∙ z)))

pub returns : goal.returns
returns c =
    c.check_interface.ensures
    ∙ ap interface_refusal c.interface_of.ensures
    ∙ unrefused_table _ (sym c.in_ok-check_table.ensures)
