-- A pair is refused by the first test that it fails; taken, its parent holds one more.
use mathlib.Core.Path.{refl, sym, ap, ◌∙◌}
use borrow.Author.Tests.{le-ltb}
use Rattle.std.specs.Prelude.{is_some}
use Rattle.record.specs.Layout.{size_of}
use Rattle.sheet.proofs.CourseLaws.{pair_unlike, pair_falls, pair_childless, pair_orphaned, pair_full, pair_kept}
use Rattle.sheet.proofs.pairs.take_pair.Goals as goal
use Rattle.sheet.proofs.pairs.take_pair.Goals.{then-pair-via-then-pair, then-pair-via-else-pair+then-from-course}

pub returns-then-pair : goal.returns-then-pair
returns-then-pair c es st k = let a = c.args in
    elim c.then-pair.branch [
      | then-pair-via-then-pair w ↦ pair_unlike a.components.now es a.course st k a.pair (le-ltb _ _ w.if-pair.true)
      | then-pair-via-else-pair+then-from-course w ↦ pair_falls a.components.now es a.course st k a.pair (rw w.from.ensures at w.if-from-course.true)
    ]

pub returns-then-is_none : goal.returns-then-is_none
returns-then-is_none c es st k = let a = c.args in
    pair_childless a.components.now es a.course st k a.pair (sym (ap is_some c.find.ensures) ∙ c.if-is_none.ensures)

pub returns-in_default : goal.returns-in_default
returns-in_default c es st k = let a = c.args in
    pair_orphaned a.components.now es a.course st k a.pair (ap is_some (sym c.find-2.ensures ∙ c.in_default.is))

pub returns-then-components-parent-ge-MOST : goal.returns-then-components-parent-ge-MOST
returns-then-components-parent-ge-MOST c es st k = let a = c.args in
    pair_full a.components.now es a.course st k a.pair c.in-Some.parent _ c.if-pair.false (rw c.from.ensures at c.if-from-course.false)
    (sym (ap is_some c.find.ensures) ∙ c.if-is_none.ensures) (sym c.find-2.ensures ∙ c.in-Some.is) c.if-components-parent-ge-MOST.true

pub returns : goal.returns
unfolding size_of
returns c es st k = let a = c.args in
    rw (c.size_of.ensures, c.from-2.ensures) (pair_kept a.components.now es a.course st k a.pair c.in-Some.parent _ c.if-pair.false (rw c.from.ensures at c.if-from-course.false)
    (sym (ap is_some c.find.ensures) ∙ c.if-is_none.ensures) (sym c.find-2.ensures ∙ c.in-Some.is) c.if-components-parent-ge-MOST.false _ refl refl)
