-- `judge::scan::try_instant` meets its contract: supply by an instant is at most the instant, so it is small; where the tightest step instant stays the
-- tightest nothing changes, and what is found anew is tighter, or the first.
use Prim.Native.Nat.{◌+◌, ◌≤◌, ◌<◌}
use mathlib.Core.Path.{◌≡◌, refl, sym, ap, subst, ◌∙◌}
use mathlib.Core.Bool.{true}
use borrow.Author.Tests.{lt-ltb}
use native.Mathlib.Nat.{le_trans, le_of_eq}
use Rattle.std.specs.Prelude.{Some, is_some}
use Rattle.std.proofs.lemmas.Bool.{leb-true, leb-false}
use Rattle.budget.proofs.SupplyLaws.{supply_le_time}
use Rattle.budget.proofs.Valid.{valid_interface_lem}
use Rattle.judge.specs.declared.margin.Tight.{Tight}
use Rattle.judge.specs.inner.Scan.{Telling}
use Rattle.judge.specs.inner.Tried.{short_tried, tight_tried, tighter_of}
use Rattle.judge.proofs.TriedLaws.{short_stays, short_told, tight_moves, tight_stays}
use Rattle.judge.proofs.scan.try_instant.Goals as goal
use Rattle.judge.proofs.scan.try_instant.Goals.{Then-stays_tightest, in-Some+else-stays_tightest, in_default}

pub stays_tightest-requires-clause-here_small : goal.stays_tightest-requires-clause-here_small
stays_tightest-requires-clause-here_small c =
    let s = c.requires.triable.supplied in
    record {
      units = le_trans (le_of_eq c.units_at-units.ensures) (le_trans (supply_le_time _ (valid_interface_lem _ s.interface) c.args.step.at) s.bounded);
      demand = c.requires.triable.asked_fits;
    }

abbrev here : Then-stays_tightest → Tight
here c = record { at = c.args.step.at; units = c.units_at-units.result; demand = c.args.step.demand }

-- the tightest so far has no more margin than this instant
stays : (c : Then-stays_tightest) → c.in-Some.best.units + c.args.step.demand ≤ c.units_at-units.result + c.in-Some.best.demand
stays c = leb-true _ _ (sym c.stays_tightest.ensures ∙ c.if-stays_tightest.true)

told : (c : Then-stays_tightest) → c.in-Some.best.units < c.in-Some.best.demand → is_some c.args.found.short ≡ true
told c = subst (λ best. Telling c.args.found.short best) c.in-Some.is c.requires.tells

pub returns-then-stays_tightest-clause-short : goal.returns-then-stays_tightest-clause-short
unfolding short_tried
returns-then-stays_tightest-clause-short c =
    rw (lt-ltb _ _ c.if-demand-before.false, ← c.units_at-units.ensures) (sym (short_stays c.args.found.short c.args.step.at c.in-Some.best (here c) (told c) (stays c)))

pub returns-then-stays_tightest-clause-tight : goal.returns-then-stays_tightest-clause-tight
unfolding tight_tried
returns-then-stays_tightest-clause-tight c =
    rw (lt-ltb _ _ c.if-demand-before.false, ← c.units_at-units.ensures, c.in-Some.is) (ap Some (sym (tight_stays c.in-Some.best (here c) (stays c))))

pub returns-clause-tight : goal.returns-clause-tight
unfolding tight_tried tighter_of
returns-clause-tight c = rw (lt-ltb _ _ c.if-demand-before.false, ← c.units_at-units.ensures)
    elim c.match-found.branch [
      | in-Some+else-stays_tightest w ↦ rw w.in-Some.is (ap Some (sym (tight_moves w.in-Some.best _ (leb-false _ _ (sym w.stays_tightest.ensures ∙ w.if-stays_tightest.false)))))
      | in_default w ↦ rw w.in_default.is refl
    ]

pub returns-clause-tells : goal.returns-clause-tells
returns-clause-tells c h = rw c.sooner_short.ensures (short_told c.args.found.short c.args.step.at c.units_at-units.result c.args.step.demand h)
