-- Refused as a component that is handed in is; then nothing is written.
use lib.ListN.{length}
use Rattle.std.proofs.lemmas.Result.{err_from_is_err_and}
use Rattle.transfer.specs.Writing.{component_bytes}
use Rattle.transfer.proofs.StoreLaws.{held_first, refused_answer, refused_bytes}
use Rattle.transfer.proofs.write.write_component.Goals as goal

pub returns-in_err-check_held : goal.returns-in_err-check_held
returns-in_err-check_held c =
    let a = c.args in
    let p = err_from_is_err_and c.from_residual.result c.from_residual.ensures.1 in
    let e = c.in_err-check_held.field-0.0 in
    let n = held_first (length a.buffer.now) a.at a.component e c.in_err-check_held.ensures in
    record { answer = rw (p.1, p.2) (refused_answer _ a.at (component_bytes a.component) e n); bytes = refused_bytes _ a.buffer.now a.at (component_bytes a.component) e n }
