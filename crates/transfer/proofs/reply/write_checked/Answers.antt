-- Three numbers; one that is too large for its field is put with its low bytes.
use Rattle.record.specs.Field.{encode}
use Rattle.record.specs.Writing.{numbers_bytes}
use Rattle.transfer.specs.Reply.{checked_bytes}
use Rattle.transfer.proofs.ReplyLaws.{low_numbers}
use Rattle.transfer.proofs.reply.write_checked.Goals as goal

pub returns : goal.returns
unfolding checked_bytes numbers_bytes encode
returns c =
    let e = rw (c.from-number.ensures, c.low.ensures, c.low-2.ensures) at c.write_numbers.ensures in
    let k = c.args.checked in
    rw (low_numbers k.refusal k.place k.count) at e
