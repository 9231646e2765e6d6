-- Field by field: the fields left to store, put onto the part as it stands, give the last part.
use lib.ListN.{length}
use Rattle.record.proofs.RowLoops.{Storing}
use Rattle.record.proofs.row.Row.put.Given as goal

abbrev pub invariant-loop-width : goal.invariant-loop-width
invariant-loop-width l =
    (goal.iterator-loop-width).can_next l.width-iterator ×
    (goal.iterator-loop-width).is_finite l.width-iterator ×
    Storing l.initial.part l.fn.self.widths l.fn.values l.part l.place (length l.yielded)
