-- The loop's invariant: the pairs read so far, and those still to be read from the place reached, are all the pairs.
use native.Mathlib.Omega.{arith}
use mathlib.Core.Path.{refl}
use Rattle.transfer.proofs.PairTaking.{taking_more, taken_short, taken_all}
use Rattle.transfer.proofs.RecordHere.{room_here}
use Rattle.transfer.proofs.pair.read_pairs.Goals as goal

pub overflow_add-place : goal.overflow_add-place
overflow_add-place c = let l = c.loop-count in
    let h = room_here c.args.rest.now l.place _ c.in-Some.ensures _ _ refl c.size_of-place.ensures l.invariant.here in
    omega arith

pub loop-count-preserved : goal.loop-count-preserved
loop-count-preserved c = let l = c.loop-count in
    taking_more c.args.rest.now l.pairs l.count l.place l.invariant _ _ _ c.in-Some.ensures refl c.size_of-place.ensures c.loop-count-test.true

pub returns : goal.returns
returns c = let l = c.loop-count in taken_all c.args.rest.now l.pairs l.count l.place l.invariant c.loop-count-test.false

-- what is no pair record ends them
pub returns-in_default : goal.returns-in_default
returns-in_default c = let l = c.loop-count in taken_short c.args.rest.now l.pairs l.count l.place l.invariant c.loop-count-test.true _ refl c.in_default.ensures
