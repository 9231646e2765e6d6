-- What was summed and what is left of the tasks give the whole.
use Prim.Native.Nat.{◌+◌}
use mathlib.Core.Path.{◌≡◌}
use lib.ListN.{length, drop}
use Rattle.transfer.specs.Writing.{tasks_bytes}
use Rattle.transfer.proofs.write.tasks_size.Given as goal

abbrev pub invariant-loop-task : goal.invariant-loop-task
invariant-loop-task l = l.size + length (tasks_bytes (drop l.task-index l.task-items)) ≡ length (tasks_bytes l.task-items)
