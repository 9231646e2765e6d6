-- The loop's invariant: the answer from the start is the answer from here, and what is noted follows the walk. What is left of the sheet falls.
use Prim.Native.Nat.{◌-◌}
use lib.ListN.{length}
use Rattle.sheet.specs.inner.PairCourse.{entries_in}
use Rattle.sheet.proofs.PairWalking.{PairWalking}
use Rattle.sheet.proofs.pairs.pair_walk.Given as goal

abbrev pub invariant-loop-next : goal.invariant-loop-next
invariant-loop-next l = PairWalking l.sheet (entries_in l.fn.components) l.start l.components l.course

abbrev pub decreases-loop-next : goal.decreases-loop-next
decreases-loop-next l = length l.sheet - l.course.place
