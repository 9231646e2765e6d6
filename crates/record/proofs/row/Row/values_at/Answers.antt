-- What was read, and what stands in the fields that are left, are the values of the whole row.
use mathlib.Core.Path.{◌≡◌, refl, sym}
use Prim.Native.Nat.{◌+◌, ◌-◌, ◌≤◌}
use lib.ListN.{length, get_or}
use borrow.Author.Rules.{rules}
use native.Mathlib.Omega.{arith}
use Rattle.record.proofs.FieldLaws.{part_long, field_lent}
use Rattle.record.proofs.KindLaws.{narrow}
use Rattle.record.proofs.RowLoops.{none_held, reading_more, next_length}
use Rattle.record.proofs.row.Row.values_at.Goals as goal

pub loop-i-init : goal.loop-i-init
loop-i-init c = let a = c.args in
    let n : length a.self.widths ≡ 8 = search rules in
    record { todo = refl; held = none_held a.self.widths 8; long = sym n; here = omega arith }

pub number_in-requires : goal.number_in-requires
number_in-requires c = let a = c.args in let l = c.loop-i in let w = get_or a.self.widths l.i 0 in
    let n : length a.self.widths ≡ 8 = search rules in
    let e = next_length a.self.widths l.i (omega arith) in
    rw (part_long w (l.place + w - l.place) a.bytes.now l.place (omega arith) (omega (arith, l.invariant.here))) (narrow a.self.widths a.self.narrow l.i)

pub loop-i-preserved : goal.loop-i-preserved
loop-i-preserved c = let a = c.args in let l = c.loop-i in let w = get_or a.self.widths l.i 0 in
    let n : length a.self.widths ≡ 8 = search rules in
    let e = next_length a.self.widths l.i (omega arith) in
    let k : l.place + w - l.place ≡ w = omega arith in
    let h : l.place + w ≤ length a.bytes.now = omega (arith, l.invariant.here) in
    reading_more a.self.widths a.bytes.now l.values l.place l.i l.invariant c.number_in.result (omega arith)
    (field_lent w (l.place + w - l.place) a.bytes.now l.place c.number_in.result k h c.number_in.ensures.value)
    (rw (part_long w (l.place + w - l.place) a.bytes.now l.place k h) at c.number_in.ensures.fits)
