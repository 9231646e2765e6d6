-- From the highest byte down: the number is the field that begins at the byte read last.
use lib.ListN.{length}
use Rattle.record.proofs.FieldLoops.{Read}
use Rattle.record.proofs.field.number_in.Given as goal

abbrev pub invariant-loop-byte : goal.invariant-loop-byte
invariant-loop-byte l =
    (goal.iterator-loop-byte).can_next l.byte-iterator ×
    (goal.iterator-loop-byte).is_finite l.byte-iterator ×
    Read l.bytes l.number (length l.yielded)
