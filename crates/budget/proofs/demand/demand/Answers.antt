-- Demand answers as defined: the refusal met first, or the sum over a table that is in range.
use Prim.Native.Nat.{ℕ, ◌≤◌}
use mathlib.Core.Path.{◌≡◌, sym, ap, ◌∙◌}
use Rattle.std.proofs.lemmas.Result.{err_from_is_err_and}
use Rattle.budget.specs.Demand.{demand, demand_refusal, demand_answer}
use Rattle.budget.specs.Limits.{limit}
use Rattle.budget.specs.Refusal as refusal
use Rattle.budget.specs.Task.{table_refusal, tasks_of}
use Rattle.budget.proofs.Answers.{at_instant, instant_passed, answer_refused, demand_given}
use Rattle.budget.proofs.Ranges.{table_in_range}
use Rattle.budget.proofs.Refusals.{some}
use Rattle.budget.proofs.TableLaws.{few}
use Rattle.budget.proofs.demand.demand.Goals as goal
use Rattle.budget.proofs.demand.demand.Goals.{In_ok-check_instant}

pub returns-in_err-check_instant : goal.returns-in_err-check_instant
unfolding demand_answer demand_refusal
returns-in_err-check_instant c =
    let p = err_from_is_err_and c.from_residual.result c.from_residual.ensures.1 in
    rw (p.1, p.2)
    (answer_refused _ (demand_refusal c.args.table c.args.t.0) (demand (tasks_of c.args.table) c.args.t.0)
    (c.in_err-check_instant.ensures ∙ ap (λ (n : ℕ). at_instant n c.args.t.0) c.check_table.ensures)
    (some c.in_err-check_instant.field-0.0))

-- where there is none, neither what is asked about nor the instant is refused
known : (c : In_ok-check_instant) → (table_refusal c.args.table ≡ refusal.none) × (c.args.t.0 ≤ limit)
known c =
    let p = instant_passed _ _ (sym c.in_ok-check_instant.ensures) in
    (sym c.check_table.ensures ∙ p.0, p.1)

pub units_due-requires : goal.units_due-requires
units_due-requires c =
    let k = known (goal.at.units_due-requires c).In_ok-check_instant in
    let r = table_in_range _ k.0 in
    rw c.tasks.ensures (few _ r.0, r.1, k.1)

pub returns : goal.returns
returns c =
    let k = known (goal.at.returns c).In_ok-check_instant in
    let r = table_in_range _ k.0 in
    rw (c.units_due.ensures, c.tasks.ensures) (sym (demand_given _ _ r.0 r.1 k.1))
