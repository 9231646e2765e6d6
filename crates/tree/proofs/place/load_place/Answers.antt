-- Refused as the sheet is, or 15; else the pairs behind its last component are read, and the workload from what is below the place is the place's.
use Prim.Native.Nat.{◌≤◌}
use native.Mathlib.Omega.{arith}
use mathlib.Core.Path.{refl}
use lib.ListN.{length, get_or}
use Rattle.std.proofs.lemmas.Result.{err_from_is_err_and}
use Rattle.budget.proofs.Refusals.{some}
use Rattle.transfer.proofs.PairReads.{count_few, from_within}
use Rattle.tree.proofs.PlaceLaws.{place_refused, place_missing, place_found, pairs_few}
use borrow.Author.Rules.{rules}
use Rattle.tree.proofs.place.load_place.Goals as goal
use Rattle.tree.proofs.place.load_place.Goals.{In_ok-found}

pub returns-in_err-found : goal.returns-in_err-found
returns-in_err-found c =
    let p = err_from_is_err_and c.from_residual.result c.from_residual.ensures.1 in
    rw (p.1, p.2) (place_refused c.args.sheet.now _ c.in_err-found.ensures c.args.place (some c.in_err-found.field-0.0.refusal))

pub returns-then-found-place : goal.returns-then-found-place
returns-then-found-place c = place_missing c.args.sheet.now _ c.in_ok-found.ensures c.args.place refl c.if-found-place.true

-- nothing is refused, so the last edge stands and lies within the sheet
module _ (c : In_ok-found) where
  last : c.in_ok-found.found.count ≤ 256
  last = count_few c.args.sheet.now _ c.in_ok-found.ensures refl

  within : let f = c.in_ok-found.found in get_or f.edges f.count 0 ≤ length c.args.sheet.now
  within = from_within c.args.sheet.now _ c.in_ok-found.ensures refl

pub offset_bounds-found-found : goal.offset_bounds-found-found
offset_bounds-found-found c = let l = last (goal.at.offset_bounds-found-found c).In_ok-found in search rules

pub bounds-found-found : goal.bounds-found-found
bounds-found-found c = let l = last (goal.at.bounds-found-found c).In_ok-found in omega arith

pub slice_bounds-read_pairs-count : goal.slice_bounds-read_pairs-count
slice_bounds-read_pairs-count c = within (goal.at.slice_bounds-read_pairs-count c).In_ok-found

pub slice_bounds-read_pairs-start : goal.slice_bounds-read_pairs-start
slice_bounds-read_pairs-start c = let b = within (goal.at.slice_bounds-read_pairs-start c).In_ok-found in omega arith

pub load_below-requires : goal.load_below-requires
load_below-requires c =
    let a = c.args in (
      rw c.as_slice.ensures (pairs_few a.sheet.now _ c.in_ok-found.ensures a.place refl _ c.read_pairs-pairs.ensures),
      omega (arith, last (goal.at.load_below-requires c).In_ok-found, c.if-found-place.false),
    )

pub returns : goal.returns
returns c =
    let a = c.args in
    place_found a.sheet.now _ c.in_ok-found.ensures a.place refl _ c.read_pairs-pairs.ensures c.if-found-place.false _ c.read_at-known.ensures _
    (rw c.as_slice.ensures at c.load_below.ensures)
