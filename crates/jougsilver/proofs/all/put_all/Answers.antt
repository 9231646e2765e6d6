-- After k turns the entries of the first k components are stored, and the row has their offers.
use native.Mathlib.Nat.{le_of_lt}
use native.Mathlib.Omega.{arith}
use mathlib.Core.Path.{refl, ◌∙◌}
use lib.ListN.{length-drop}
use lib.Seq.{length-take-le}
use Rattle.jougsilver.specs.Host.{entries_to}
use Rattle.tree.proofs.Pass.{known_edge, known_few, known_small, passing_none, turn_number, turn_outcome, turn_more}
use Rattle.jougsilver.proofs.EntryLaws.{one_more_entry}
use Rattle.jougsilver.proofs.all.put_all.Goals as goal

pub offset_bounds-contents-count : goal.offset_bounds-contents-count
offset_bounds-contents-count c = let few = known_few c.requires.known in omega arith

pub bounds-contents-count : goal.bounds-contents-count
bounds-contents-count c = let few = known_few c.requires.known in omega arith

pub loop-place-init : goal.loop-place-init
unfolding entries_to
loop-place-init c =
    let x = c.read_pairs-pairs in
    (rw c.as_slice.ensures (passing_none c.requires.known x.result x.ensures refl), refl)

-- an entry has 36 bytes, and its byte is a number of 4 bytes
pub put_entry-requires : goal.put_entry-requires
put_entry-requires c =
    let l = c.loop-place in
    let next = c.loop-place-test.true in
    (length-take-le _ _ (simp length-drop (omega arith)) ∙ omega arith, known_small c.requires.known l.place (le_of_lt next))

pub loop-place-preserved : goal.loop-place-preserved
loop-place-preserved c =
    let known = c.requires.known in
    let l = c.loop-place in
    let next = c.loop-place-test.true in
    let turned = c.turn_at-placed.ensures.turned in (
      turn_more known l.invariant.0 next _ turned,
      one_more_entry _ _ l.place _ l.invariant.1 (turn_number known l.invariant.0 next _ turned) (turn_outcome known l.invariant.0 next _ turned) (known_edge known l.place (le_of_lt next)) (omega arith) (omega arith) c.put_entry.ensures,
    )
