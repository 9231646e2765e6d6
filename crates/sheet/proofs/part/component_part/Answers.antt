-- The part lies where the component was located, within the sheet.
use Prim.Native.Nat.{◌≤◌, ◌-◌}
use lib.ListN.{length, take, drop}
use mathlib.Core.Path.{◌≡◌, ap}
use Rattle.sheet.specs.declared.part.Span.{Span}
use Rattle.sheet.specs.Part.{Located, span_of, located, part_of}
use Rattle.sheet.proofs.PartLaws.{span_order, span_within}
use native.Mathlib.Omega.{arith}
use Rattle.sheet.proofs.part.component_part.Goals as goal
use Rattle.sheet.proofs.part.component_part.Goals.{In-Ok}

-- what is found of the span
spanned : (c : In-Ok) → c.in-Ok.found.span ≡ span_of c.args.sheet.now c.args.place
unfolding located
spanned c = ap (λ (l : Located). l.span) c.in-Ok.ensures

found : (c : In-Ok) → let p = c.in-Ok.found.span in (p.from ≤ p.to) × (p.to ≤ length c.args.sheet.now)
found c = let a = c.args in rw (spanned c) (span_order a.sheet.now a.place, span_within a.sheet.now a.place)

pub slice_bounds-result-count : goal.slice_bounds-result-count
slice_bounds-result-count c = (found (goal.at.slice_bounds-result-count c).In-Ok).0

pub slice_bounds-result-start : goal.slice_bounds-result-start
slice_bounds-result-start c = let f = found (goal.at.slice_bounds-result-start c).In-Ok in omega arith

pub slice_bounds-result-end : goal.slice_bounds-result-end
slice_bounds-result-end c = let f = found (goal.at.slice_bounds-result-end c).In-Ok in omega arith

pub returns-in-Ok : goal.returns-in-Ok
unfolding part_of
returns-in-Ok c = ap (λ (p : Span). take (p.to - p.from) (drop p.from c.args.sheet.now)) (spanned (goal.at.returns-in-Ok c).In-Ok)

pub returns-in-Err : goal.returns-in-Err
unfolding part_of located
returns-in-Err c = ap (λ (l : Located). take (l.span.to - l.span.from) (drop l.span.from c.args.sheet.now)) c.in-Err.ensures
