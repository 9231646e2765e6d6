-- The line's bytes are copied behind what the page holds.
use native.Mathlib.Omega.{arith}
use mathlib.Core.Path.{ap}
use lib.ListN.{length}
use Rattle.record.proofs.StoreLaws.{part_stored}
use Rattle.report.proofs.listing.put_line.Goals as goal

pub returns : goal.returns
returns c =
    let line = c.as_slice-bytes.ensures in
    let long = ap length line.bytes in
    record {
      place = omega arith;
      page = rw (c.copy_from_slice.ensures.after, ← line.bytes) (part_stored c.args.page.now c.args.at _ _ (omega arith) (omega arith));
      short = omega arith;
    }
