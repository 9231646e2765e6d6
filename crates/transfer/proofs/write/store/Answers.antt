-- The component's record, then the tasks behind it, are the component's bytes stored in the buffer.
use Prim.Native.Nat.{◌+◌, ◌≤◌}
use mathlib.Core.Path.{◌≡◌, sym, ap, ◌∙◌}
use native.Mathlib.Omega.{arith}
use lib.ListN.{length}
use Rattle.std.specs.Prelude.{Ok}
use Rattle.std.proofs.lemmas.Result.{err_from_is_err_and}
use Rattle.budget.proofs.Ranges.{held}
use Rattle.record.specs.Layout.{record_bytes}
use Rattle.record.specs.Writing.{room_refusal, written_in}
use Rattle.record.proofs.StoreLaws.{room_given}
use Rattle.transfer.specs.Writing.{component_bytes}
use Rattle.transfer.proofs.StoreLaws.{component_length, head_given, head_long, head_place, held_passed, refused_answer, refused_bytes, stored_answer, stored_bytes, stored_component}
use Rattle.transfer.proofs.write.store.Goals as goal
use Rattle.transfer.proofs.write.store.Goals.{In_ok-check_room}

pub component_size-requires : goal.component_size-requires
component_size-requires c = (held c.args.component c.requires).0.count

pub returns-in_err-check_room : goal.returns-in_err-check_room
returns-in_err-check_room c =
    let a = c.args in
    let p = err_from_is_err_and c.from_residual.result c.from_residual.ensures.1 in
    let e = c.in_err-check_room.field-0.0 in
    let n = c.in_err-check_room.ensures ∙ (ap (room_refusal (length a.buffer.now) a.at) c.component_size.ensures ∙ sym (held_passed (length a.buffer.now) a.at a.component c.requires)) in
    record { answer = rw (p.1, p.2) (refused_answer _ a.at (component_bytes a.component) e n); bytes = refused_bytes _ a.buffer.now a.at (component_bytes a.component) e n }

-- nothing is refused, so there is room
module _ (c : In_ok-check_room) where
  given : room_refusal (length c.args.buffer.now) c.args.at (length (component_bytes c.args.component)) ≡ 0
  given = sym (c.in_ok-check_room.ensures ∙ ap (room_refusal (length c.args.buffer.now) c.args.at) c.component_size.ensures)

  fits : c.args.at + length (component_bytes c.args.component) ≤ length c.args.buffer.now
  fits = room_given _ _ _ given

pub returns-in_err-place : goal.returns-in_err-place
unfolding record_bytes
returns-in_err-place c =
    let a = c.args in
    let e = rw c.from.ensures at c.in_err-place.ensures in
    absurd (head_given a.buffer.now a.at a.component (fits (goal.at.returns-in_err-place c).In_ok-check_room) c.in_err-place.field-0.0 e.answer)

pub write_tasks-requires : goal.write_tasks-requires
unfolding record_bytes
write_tasks-requires c =
    let a = c.args in
    let f = fits (goal.at.write_tasks-requires c).In_ok-check_room in
    let e = rw c.from.ensures at c.in_ok-place.ensures in
    let p = head_place a.buffer.now a.at a.component f (written_in (Ok c.in_ok-place.place)) e.answer in
    let n = head_long a.buffer.now a.at a.component f c.write_record.new.buffer e.bytes in
    omega (arith, p, n, f, component_length a.component)

pub returns : goal.returns
unfolding record_bytes
returns c =
    let a = c.args in
    let g = given (goal.at.returns c).In_ok-check_room in
    let f = fits (goal.at.returns c).In_ok-check_room in
    let e = rw c.from.ensures at c.in_ok-place.ensures in
    let p = head_place a.buffer.now a.at a.component f (written_in (Ok c.in_ok-place.place)) e.answer in
    record {
      answer = rw c.write_tasks.ensures.place (stored_answer a.buffer.now a.at a.component c.requires g _ (omega (arith, p, component_length a.component)));
      bytes = stored_bytes a.buffer.now a.at a.component c.requires g _ (stored_component a.buffer.now a.at a.component f c.write_record.new.buffer c.write_tasks.new.buffer e.bytes (rw p at c.write_tasks.ensures.bytes));
    }
