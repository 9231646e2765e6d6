-- Refused as the sheet is; else the pairs behind its last component are read, and the one at the place is answered.
use Prim.Native.Nat.{◌≤◌}
use native.Mathlib.Nat.{le_refl}
use native.Mathlib.Omega.{arith}
use mathlib.Core.Path.{refl}
use lib.ListN.{length, get_or}
use Rattle.std.proofs.lemmas.Result.{err_from_is_err_and}
use Rattle.budget.proofs.Refusals.{some}
use Rattle.transfer.specs.Pairing.{no_pair}
use Rattle.transfer.proofs.PairReads.{pair_refused, count_few, from_within, pair_missing, pair_found}
use borrow.Author.Rules.{rules}
use Rattle.transfer.proofs.pair.read_pair.Goals as goal
use Rattle.transfer.proofs.pair.read_pair.Goals.{In_ok-found}

-- nothing is refused, so the last edge stands and lies within the sheet
last : (c : In_ok-found) → c.in_ok-found.found.count ≤ 256
last c = count_few c.args.sheet.now _ c.in_ok-found.ensures refl

behind : (c : In_ok-found) → let f = c.in_ok-found.found in get_or f.edges f.count 0 ≤ length c.args.sheet.now
behind c = from_within c.args.sheet.now _ c.in_ok-found.ensures refl

pub returns-in_err-found : goal.returns-in_err-found
returns-in_err-found c =
    let p = err_from_is_err_and c.from_residual.result c.from_residual.ensures.1 in
    rw (p.1, p.2) (pair_refused c.args.sheet.now _ c.in_err-found.ensures (some c.in_err-found.field-0.0.refusal) c.args.place)

pub offset_bounds-found-found : goal.offset_bounds-found-found
offset_bounds-found-found c = let l = last (goal.at.offset_bounds-found-found c).In_ok-found in search rules

pub bounds-found-found : goal.bounds-found-found
bounds-found-found c = let l = last (goal.at.bounds-found-found c).In_ok-found in omega arith

pub slice_bounds-read_pairs-count : goal.slice_bounds-read_pairs-count
slice_bounds-read_pairs-count c = behind (goal.at.slice_bounds-read_pairs-count c).In_ok-found

pub slice_bounds-read_pairs-start : goal.slice_bounds-read_pairs-start
slice_bounds-read_pairs-start c = let b = behind (goal.at.slice_bounds-read_pairs-start c).In_ok-found in omega arith

pub returns-in-Some : goal.returns-in-Some
returns-in-Some c = let a = c.args in
    let h = rw c.as_slice.ensures at c.in-Some.ensures.lookup in
    pair_found a.sheet.now _ c.in_ok-found.ensures refl _ c.read_pairs-pairs.ensures a.place c.in-Some.pair.now h.3.0 (h.4 (le_refl a.place) no_pair)

pub returns-in-None : goal.returns-in-None
returns-in-None c = let a = c.args in
    let h = rw c.as_slice.ensures at c.in-None.ensures.lookup in
    pair_missing a.sheet.now _ c.in_ok-found.ensures refl _ c.read_pairs-pairs.ensures a.place h.3
