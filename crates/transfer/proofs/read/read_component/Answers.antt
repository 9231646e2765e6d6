-- Refused as the part is; else the component of the part located.
use Prim.Native.Nat.{◌≤◌}
use mathlib.Core.Path.{◌≡◌, ap}
use native.Mathlib.Omega.{arith}
use lib.ListN.{length}
use borrow.Author.Tests.{ne_eqb}
use Rattle.std.proofs.lemmas.Result.{err_from_is_err_and}
use Rattle.budget.proofs.Refusals.{some}
use Rattle.sheet.specs.Part.{Located, span_of, located, part_of}
use Rattle.sheet.proofs.PartLaws.{span_order, span_within}
use Rattle.transfer.specs.Reading.{reading}
use Rattle.transfer.proofs.read.read_component.Goals as goal
use Rattle.transfer.proofs.read.read_component.Goals.{In_ok-found}

-- the span is that of the definition, so it lies within the sheet
span_is : (c : In_ok-found) → c.in_ok-found.found.span ≡ span_of c.args.sheet.now c.args.place
unfolding located
span_is c = ap (λ (l : Located). l.span) c.in_ok-found.ensures

found : (c : In_ok-found) → let p = c.in_ok-found.found.span in let s = c.args.sheet.now in (p.from ≤ p.to) × (p.to ≤ length s)
found c = let a = c.args in rw (span_is c) (span_order a.sheet.now a.place, span_within a.sheet.now a.place)

pub returns-in_err-found : goal.returns-in_err-found
unfolding reading located
returns-in_err-found c =
    let p = err_from_is_err_and c.from_residual.result c.from_residual.ensures.1 in
    let checked = ap (λ (l : Located). l.checked) c.in_err-found.ensures in
    rw (p.1, p.2) (rw (← checked, ne_eqb _ _ (some c.in_err-found.field-0.0.refusal)))

pub slice_bounds-read_part-count : goal.slice_bounds-read_part-count
slice_bounds-read_part-count c = (found (goal.at.slice_bounds-read_part-count c).In_ok-found).0

pub slice_bounds-read_part-start : goal.slice_bounds-read_part-start
slice_bounds-read_part-start c = let f = found (goal.at.slice_bounds-read_part-start c).In_ok-found in omega arith

pub slice_bounds-read_part-end : goal.slice_bounds-read_part-end
slice_bounds-read_part-end c = let f = found (goal.at.slice_bounds-read_part-end c).In_ok-found in omega arith

pub returns : goal.returns
unfolding reading part_of located
returns c =
    let checked = ap (λ (l : Located). l.checked) c.in_ok-found.ensures in
    rw (← span_is (goal.at.returns c).In_ok-found, ← checked, c.read_part.ensures)
