-- A refused count leaves the buffer as it is; any other is the end record written.
use borrow.Author.Tests.{le-ltb}
use Rattle.record.specs.Layout.{record_bytes}
use Rattle.transfer.specs.Writing.{end_refusal}
use Rattle.transfer.proofs.write.write_end.Goals as goal

pub returns : goal.returns
unfolding end_refusal record_bytes
returns c = rw (le-ltb _ _ c.if-count-gt-MOST_COMPONENTS.false) c.write_record.ensures
