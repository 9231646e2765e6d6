-- What was read, and what stands in the fields that are left, are the values of the whole row.
use Rattle.record.proofs.RowLoops.{Reading}
use Rattle.record.proofs.row.Row.values_at.Given as goal

abbrev pub invariant-loop-i : goal.invariant-loop-i
invariant-loop-i l = Reading l.fn.self.widths l.bytes l.values l.place l.i
