-- The loop's invariant: the tasks left to store, put onto the buffer as it stands, give the last buffer.
use Prim.Native.Nat.{ℕ}
use mathlib.Core.Path.{ap}
use Rattle.std.specs.Prelude.{Ok}
use Rattle.record.specs.Record.{said}
use Rattle.record.specs.Layout.{record_bytes}
use Rattle.record.specs.Writing.{written_in}
use Rattle.transfer.proofs.StoreLaws.{never_refused, storing_more, storing_room, storing_all}
use Rattle.transfer.proofs.write.write_tasks.Goals as goal

-- there is room for each task
pub returns-in_err-place : goal.returns-in_err-place
returns-in_err-place c =
    let l = c.loop-task in
    let room = rw (← c.tasks-task-items.ensures) at c.requires in
    absurd (never_refused l.buffer l.place (record_bytes (said c.task_record.result))
    (storing_room c.args.buffer.now c.args.at c.tasks-task-items.result.now l.buffer l.place l.task-index l.invariant (said c.task_record.result) c.loop-task-test.true room c.task_record.ensures)
    c.in_err-place.field-0.0 c.in_err-place.ensures.answer)

pub loop-task-preserved : goal.loop-task-preserved
loop-task-preserved c =
    let l = c.loop-task in
    let room = rw (← c.tasks-task-items.ensures) at c.requires in
    let e = c.in_ok-place.ensures in
    storing_more c.args.buffer.now c.args.at c.tasks-task-items.result.now l.buffer l.place l.task-index l.invariant c.write_record.new.buffer (written_in (Ok c.in_ok-place.place)) (said c.task_record.result) c.loop-task-test.true room c.task_record.ensures e.answer e.bytes

pub returns : goal.returns
returns c =
    let l = c.loop-task in
    let all = storing_all c.args.buffer.now c.args.at c.tasks-task-items.result.now l.buffer l.place l.task-index l.invariant c.loop-task-test.false in
    rw (← c.tasks-task-items.ensures) (record { place = ap (λ (n : ℕ). Ok n) all.0; bytes = all.1 })
