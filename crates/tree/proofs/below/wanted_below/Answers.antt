-- The loop's invariant: what the pairs behind those gone through make wanted is wanted.
use Prim.Native.Nat.{◌-◌, ◌<◌}
use native.Mathlib.Omega.{arith}
use mathlib.Core.List.{reverse}
use mathlib.Core.Path.{◌≡◌, sym, ◌∙◌}
use lib.ListN.{length, get_or}
use Rattle.std.proofs.lemmas.Iterator.Adapters.{YieldsList-from_rev_slice}
use Rattle.std.proofs.lemmas.Iterator.Consumers.{YieldsList-turn}
use Rattle.std.proofs.lemmas.List.{length_push}
use Rattle.tree.proofs.BelowLaws.{wanting_none, wanting_more, wanting_same}
use Rattle.tree.proofs.below.wanted_below.Goals as goal
use Rattle.tree.proofs.below.wanted_below.Goals.{After-holds}

-- the pair of this turn is the next from the last
turn : (c : After-holds) → let ps = c.args.pairs.now in
    let m = length c.loop-pair.yielded in
    (m < length (reverse ps)) × (c.in-Some.pair.now ≡ get_or (reverse ps) m c.in-Some.pair.now)
turn c = YieldsList-turn (YieldsList-from_rev_slice c.args.pairs.now cc) c.loop-pair.yielded _ c.loop-pair.yielded_by _ _ c.in-Some.pair c.in-Some.is c.next.ensures.steps

pub loop-pair-init : goal.loop-pair-init
loop-pair-init c = record { few = rw c.only-wanted.ensures (omega arith); below = let e : length c.args.pairs.now - 0 ≡ length c.args.pairs.now = omega arith in rw e (c.only-wanted.ensures ∙ wanting_none c.args.pairs.now c.args.number) }

pub loop-pair-preserved-then-holds : goal.loop-pair-preserved-then-holds
loop-pair-preserved-then-holds c =
    let l = c.loop-pair in
    let more = length_push l.yielded c.in-Some.pair in
    let longer = length_push l.wanted c.in-Some.pair.now.child in
    record {
      few = rw (c.push.ensures, more) (omega (arith, longer, l.invariant.few));
      below = rw (c.push.ensures, more) (wanting_more c.args.pairs.now c.args.number (length l.yielded) c.in-Some.pair.now (turn (goal.at.loop-pair-preserved-then-holds c).After-holds) l.wanted l.invariant.below (sym c.holds.ensures ∙ c.if-holds.true));
    }

pub loop-pair-preserved : goal.loop-pair-preserved
loop-pair-preserved c =
    let l = c.loop-pair in
    let more = length_push l.yielded c.in-Some.pair in
    record {
      few = rw more (omega (arith, l.invariant.few));
      below = rw more (wanting_same c.args.pairs.now c.args.number (length l.yielded) c.in-Some.pair.now (turn (goal.at.loop-pair-preserved c).After-holds) l.wanted l.invariant.below (sym c.holds.ensures ∙ c.if-holds.false));
    }
