-- The loop's invariant: the tasks read so far, and those still to be read from the place reached, are all the tasks.
use Prim.Native.Nat.{◌+◌, ◌-◌}
use mathlib.Core.Path.{◌≡◌, ap}
use native.Mathlib.Omega.{arith}
use Rattle.record.specs.Record.{said}
use Rattle.transfer.proofs.ReadLaws.{no_task_none, no_task_said, taking_more, taken_short, taken}
use Rattle.transfer.proofs.RecordHere.{room_here}
use Rattle.transfer.proofs.read.read_tasks.Goals as goal

-- no record, and any other record, ends the tasks
pub returns-in_default : goal.returns-in_default
returns-in_default c = let a = c.args in let l = c.loop-read in
    taken_short a.part.now a.start l.table l.place (64 - l._read) l.invariant (omega arith) _ c.in_default.ensures (no_task_none _)

pub returns-in_default-record : goal.returns-in_default-record
returns-in_default-record c = let a = c.args in let l = c.loop-read in
    taken_short a.part.now a.start l.table l.place (64 - l._read) l.invariant (omega arith) _ c.in-Ok.ensures (no_task_said _ c.in_default-record.not-Task)

pub overflow_add-place : goal.overflow_add-place
overflow_add-place c = let a = c.args in
    let l = c.loop-read in
    let h = room_here a.part.now l.place _ c.in-Ok.ensures _ _ (ap said c.in-Task.is) c.size_of-place.ensures l.invariant.here in
    omega arith

pub loop-read-preserved : goal.loop-read-preserved
loop-read-preserved c = let a = c.args in
    let l = c.loop-read in
    let one_less : 64 - (l._read + 1) ≡ 64 - l._read - 1 = omega arith in
    rw one_less
    (taking_more a.part.now a.start l.table l.place _ _ _ _ c.in-Ok.ensures (ap said c.in-Task.is) c.size_of-place.ensures
    (64 - l._read) l.invariant (omega arith) _ c.append-table.ensures)

pub returns-after-loop-read : goal.returns-after-loop-read
returns-after-loop-read c = let a = c.args in let l = c.loop-read in
    taken a.part.now a.start l.table l.place (64 - l._read) l.invariant (omega arith)
