-- The loop's invariant: the answer from the start is the answer from here, and what was passed is noted. What is left of the sheet falls.
use Prim.Native.Nat.{◌-◌}
use lib.ListN.{length}
use Rattle.sheet.proofs.Walking.{Walking}
use Rattle.sheet.proofs.walk.walk.Given as goal

abbrev pub invariant-loop-next : goal.invariant-loop-next
invariant-loop-next l = Walking l.sheet l.edges l.components l.state

abbrev pub decreases-loop-next : goal.decreases-loop-next
decreases-loop-next l = length l.sheet - l.state.place
