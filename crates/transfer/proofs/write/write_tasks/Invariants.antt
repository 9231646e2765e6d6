-- The loop's invariant: the tasks left to store, put onto the buffer as it stands, give the last buffer.
use Rattle.transfer.proofs.StoreLaws.{Storing}
use Rattle.transfer.proofs.write.write_tasks.Given as goal

abbrev pub invariant-loop-task : goal.invariant-loop-task
invariant-loop-task l = Storing l.initial.buffer l.at l.task-items l.buffer l.place l.task-index
