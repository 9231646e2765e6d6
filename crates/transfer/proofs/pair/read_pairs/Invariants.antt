-- The loop's invariant: the pairs read so far, and those still to be read from the place reached, are all the pairs.
use Rattle.transfer.proofs.PairTaking.{PairTaking}
use Rattle.transfer.proofs.pair.read_pairs.Given as goal

abbrev pub invariant-loop-count : goal.invariant-loop-count
invariant-loop-count l = PairTaking l.rest l.pairs l.count l.place
