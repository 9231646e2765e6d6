-- The loop's invariant: the tasks read so far, and those still to be read from the place reached, are all the tasks.
use Prim.Native.Nat.{◌-◌}
use Rattle.transfer.proofs.ReadLaws.{Taking}
use Rattle.transfer.proofs.read.read_tasks.Given as goal

abbrev pub invariant-loop-read : goal.invariant-loop-read
invariant-loop-read l = Taking l.part l.start l.table l.place (64 - l._read)
