-- The bytes taken are the front of the number's 4.
use mathlib.Core.Path.{ap, ◌∙◌}
use native.Mathlib.Omega.{arith}
use lib.ListN.{take}
use Rattle.record.proofs.FieldLoops.{filled}
use Rattle.record.proofs.field.put_number.Goals as goal

pub returns : goal.returns
returns c = let a = c.args in
    filled a.bytes.now c.copy_from_slice.new.self _ a.number c.requires (omega arith) (c.copy_from_slice.ensures.after ∙ ap (take _) c.to_le_bytes-wide.ensures)
