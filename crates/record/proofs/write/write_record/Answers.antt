-- The row of the record's kind, with its length and kind in front, is the record's bytes; a row of no widths has none, as no record has.
use mathlib.Core.Path.{sym, ap, ◌∙◌}
use Rattle.record.specs.Layout.{row_of, record_bytes}
use Rattle.record.specs.Record.{said}
use Rattle.record.specs.Field.{encode}
use Rattle.record.proofs.RecordLaws.{record_bytes_lem}
use Rattle.record.proofs.write.write_record.Goals as goal

pub returns-in_default : goal.returns-in_default
unfolding record_bytes encode
returns-in_default c = rw c.in_default.is c.write_row.ensures

pub returns : goal.returns
returns c = let number = c.from.ensures in
    let e = record_bytes_lem (said c.in-Some.«record») c.from.result c.row-row.result.widths c.fields.result c.headed-values.result (number ∙ c.kind-kind.ensures) (c.row-row.ensures ∙ ap row_of (sym number)) c.fields.ensures c.headed-values.ensures in
    rw c.in-Some.is (rw e at c.write_row-2.ensures)
