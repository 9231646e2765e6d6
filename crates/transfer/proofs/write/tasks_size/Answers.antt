-- What was summed and what is left of the tasks give the whole.
use Prim.Native.Nat.{◌+◌}
use mathlib.Core.Path.{◌≡◌, ap, ◌∙◌}
use lib.ListN.{length, drop}
use native.Mathlib.Omega.{arith}
use Rattle.record.specs.Layout.{size_of}
use Rattle.transfer.specs.Writing.{tasks_bytes}
use Rattle.transfer.proofs.StoreLaws.{table_short, next_length, no_bytes}
use Rattle.transfer.proofs.write.tasks_size.Goals as goal
use Rattle.transfer.proofs.write.tasks_size.Goals.{After-size_of-size}

-- behind the next task
more : (c : After-size_of-size) → let ks = c.tasks-task-items.result.now in
    c.loop-task.size + c.size_of-size.result + length (tasks_bytes (drop (c.loop-task.task-index + 1) ks)) ≡ length (tasks_bytes ks)
more c =
    let k = c.size_of-size.ensures ∙ ap size_of c.task_record.ensures in
    let n = next_length c.tasks-task-items.result.now c.loop-task.task-index c.loop-task-test.true in
    omega (arith, c.loop-task.invariant)

pub overflow_add-size : goal.overflow_add-size
overflow_add-size c =
    let short = rw (← c.tasks-task-items.ensures) at (table_short c.args.table c.requires) in
    omega (arith, more c, short)

pub loop-task-preserved : goal.loop-task-preserved
loop-task-preserved c = more c

pub returns : goal.returns
returns c =
    let n = ap length (no_bytes c.tasks-task-items.result.now c.loop-task.task-index c.loop-task-test.false) in
    rw (← c.tasks-task-items.ensures) (omega (arith, c.loop-task.invariant))
