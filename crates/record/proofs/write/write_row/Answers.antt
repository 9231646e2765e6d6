-- Too little room leaves the buffer as it is; else the row is stored in the part from its place on.
use Prim.Native.Nat.{ℕ, ◌+◌, ◌≤◌}
use mathlib.Core.Path.{◌≡◌, refl, sym, ap, ◌∙◌}
use lib.ListN.{length}
use borrow.Author.Tests.{ne_eqb}
use Rattle.std.proofs.lemmas.Result.{err_from_is_err_and}
use Rattle.budget.proofs.Refusals.{some}
use Rattle.record.specs.Row.{row_bytes}
use Rattle.record.specs.Writing.{written, buffered}
use Rattle.record.proofs.RowLaws.{row_length_lem}
use Rattle.record.proofs.StoreLaws.{room_given, room_free, stored_part}
use Rattle.record.proofs.write.write_row.Goals as goal
use Rattle.record.proofs.write.write_row.Goals.{After-length-size, In_ok-check_room}

-- the row's length is that of its bytes
size : (c : After-length-size) → length (row_bytes c.args.row.widths c.args.values) ≡ c.length-size.result
size c = row_length_lem c.args.row.widths c.args.values ∙ sym c.length-size.ensures.length

pub returns-in_err-check_room : goal.returns-in_err-check_room
unfolding written buffered
returns-in_err-check_room c =
    let p = err_from_is_err_and c.from_residual.result c.from_residual.ensures.1 in
    rw (size (goal.at.returns-in_err-check_room c).After-length-size, ← c.in_err-check_room.ensures, ne_eqb _ _ (some c.in_err-check_room.field-0.0), p.1, p.2) (record { answer = refl; bytes = refl })

-- a buffer that was not refused has room for the row
free : (c : In_ok-check_room) → c.args.at + length (row_bytes c.args.row.widths c.args.values) ≤ length c.args.buffer.now
free c = let a = c.args in let e = c.in_ok-check_room.ensures in
    rw (row_length_lem a.row.widths a.values, ← c.length-size.ensures.length) (room_given (length a.buffer.now) a.at c.length-size.result (sym e))

pub returns : goal.returns
unfolding written buffered
returns c = let a = c.args in let bytes = row_bytes a.row.widths a.values in
    let k = size (goal.at.returns c).After-length-size in
    let h = free (goal.at.returns c).In_ok-check_room in
    rw (room_free (length a.buffer.now) a.at (length bytes) h)
    (record {
      answer = ap (λ (n : ℕ). record { refusal = 0; place = a.at + n }) (sym k);
      bytes = stored_part a.buffer.now a.at bytes c.put.new.part h c.put.ensures;
    })
