-- A row's length is the sum of its widths, of which none is above 4.
use Prim.Native.Nat.{◌≤◌}
use mathlib.Core.Path.{◌≡◌, ◌∙◌}
use lib.ListN.{length}
use borrow.Author.Rules.{rules}
use native.Mathlib.Omega.{arith}
use Rattle.std.proofs.lemmas.Iterator.{YieldsList-from_slice}
use Rattle.std.proofs.lemmas.Iterator.Consumers.{sum_from_yields_List, fits_from_yields_list}
use Rattle.record.specs.Row.{row_length}
use Rattle.record.specs.declared.row.Row.{Row}
use Rattle.record.proofs.KindLaws.{narrow}
use Rattle.record.proofs.RowLoops.{narrow_short, sum_length}
use Rattle.record.proofs.row.Row.length.Goals as goal

short : (row : Row) → length row.widths ≡ 8 → row_length row.widths ≤ 32
short row n = let s = narrow_short row.widths (narrow row.widths row.narrow) in omega arith

pub sum-requires-clause-fits : goal.sum-requires-clause-fits
sum-requires-clause-fits c = let a = c.args in let s = short a.self (search rules) in
    fits_from_yields_list _ _ (YieldsList-from_slice a.self.widths cc) (omega (arith, sum_length a.self.widths))

pub returns : goal.returns
returns c = let a = c.args in let s = short a.self (search rules) in
    let e = sum_from_yields_List _ _ c.sum.ensures.ran (YieldsList-from_slice a.self.widths cc) ∙ sum_length a.self.widths in
    record { length = e; short = omega arith }
