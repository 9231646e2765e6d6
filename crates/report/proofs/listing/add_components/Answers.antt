-- After k turns the page holds the lines of the first k components, and the row their offers.
use native.Mathlib.Omega.{arith}
use mathlib.Core.Path.{refl}
use Rattle.tree.proofs.Pass.{known_few, passing_none, turn_number, turn_outcome, turn_more}
use Rattle.report.proofs.Pages.{no_lines, one_more_line}
use Rattle.report.proofs.listing.add_components.Goals as goal

pub offset_bounds-contents-count : goal.offset_bounds-contents-count
offset_bounds-contents-count c = let few = known_few c.requires in omega arith

pub bounds-contents-count : goal.bounds-contents-count
bounds-contents-count c = let few = known_few c.requires in omega arith

pub loop-place-init : goal.loop-place-init
loop-place-init c =
    let x = c.read_pairs-pairs in
    (rw c.as_slice.ensures (passing_none c.requires x.result x.ensures refl), no_lines _ _)

pub loop-place-preserved : goal.loop-place-preserved
loop-place-preserved c =
    let known = c.requires in
    let l = c.loop-place.invariant in
    let next = c.loop-place-test.true in
    let turned = c.turn_at-placed.ensures.turned in
    (turn_more known l.0 next _ turned, one_more_line _ _ _ (turn_number known l.0 next _ turned) (turn_outcome known l.0 next _ turned) l.1 (rw c.component_line.ensures at c.put_line-at.ensures))
