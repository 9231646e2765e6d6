-- The length of the row of the record's kind; of none, 0.
use mathlib.Core.Path.{sym, ap, ◌∙◌, refl}
use Rattle.record.specs.Row.{row_length}
use Rattle.record.specs.Layout.{row_of, size_of}
use Rattle.record.specs.Record.{said}
use Rattle.record.proofs.RecordLaws.{size_row}
use Rattle.record.proofs.write.size_of.Goals as goal

pub returns-in-Some : goal.returns-in-Some
returns-in-Some c = rw c.in-Some.is (c.length.ensures.length ∙ (ap row_length (c.row.ensures ∙ ap row_of c.kind.ensures) ∙ sym (size_row (said c.in-Some.«record»))))

pub returns-in-None : goal.returns-in-None
unfolding size_of
returns-in-None c = rw c.in-None.is refl
