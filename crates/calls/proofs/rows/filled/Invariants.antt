-- What is filled is a part of what is lent, since the place of the turn that ends it is one of its places.
use denote.Param.Always.{always_mut}
use Rattle.calls.proofs.rows.filled.Given as goal

abbrev pub invariant-loop-count : goal.invariant-loop-count
invariant-loop-count g l = always_mut g.F.FnMut l.next
