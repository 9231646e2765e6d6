-- Where the stored value is right, the ranges are all that a component can be refused for when it is handed in.
use lib.ListN.{length}
use mathlib.Core.Path.{sym, ◌∙◌}
use Rattle.std.proofs.lemmas.Result.{err_from_is_err_and}
use Rattle.budget.proofs.Ranges.{right_held}
use Rattle.transfer.specs.Writing.{component_bytes}
use Rattle.transfer.proofs.StoreLaws.{held_first, refused_answer, refused_bytes}
use Rattle.transfer.proofs.known.write_component.Goals as goal

pub returns-in_err-check_ranges : goal.returns-in_err-check_ranges
returns-in_err-check_ranges c =
    let a = c.args in
    let p = err_from_is_err_and c.from_residual.result c.from_residual.ensures.1 in
    let e = c.in_err-check_ranges.field-0.0 in
    let n = held_first (length a.buffer.now) a.at a.known.component e (c.in_err-check_ranges.ensures ∙ sym (right_held a.known.component c.args.known.right)) in
    record { answer = rw (p.1, p.2) (refused_answer _ a.at (component_bytes a.known.component) e n); bytes = refused_bytes _ a.buffer.now a.at (component_bytes a.known.component) e n }

pub store-requires : goal.store-requires
store-requires c = right_held c.args.known.component c.args.known.right ∙ sym c.in_ok-check_ranges.ensures
