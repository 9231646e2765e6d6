-- `judge::capacity::raised` meets its contract. The loop's invariant: every capacity below `low` is short, and `high` is enough or past the deadline.
use Prim.Native.Nat.{◌≤◌}
use native.Mathlib.Nat.{le_trans}
use native.Mathlib.Omega.{arith}
use Rattle.budget.specs.Limits.{limit}
use Rattle.budget.proofs.Valid.{valid_interface_lem}
use Rattle.judge.proofs.CapacityLaws.{halving_start, halving_up, capacity_valid}
use Rattle.judge.proofs.capacity.raised.Goals as goal
use Rattle.judge.proofs.capacity.raised.Goals.{Start}

-- the capacity to begin with is in range, and the deadline is small
in_range : (s : Start) → s.args.interface.capacity.0 ≤ s.args.interface.deadline.0
in_range s = (valid_interface_lem _ s.requires.interface).fits

small : (s : Start) → s.args.interface.deadline.0 ≤ limit
small s = let v = valid_interface_lem _ s.requires.interface in le_trans v.within v.bounded

pub returns-then-step-units_at : goal.returns-then-step-units_at
returns-then-step-units_at c =
    record {
      up = omega arith;
      within = in_range (goal.at.returns-then-step-units_at c).Start;
      short = λ q l h. absurd (omega (arith, l, h));
      fits = omega (arith, c.if-step-units_at.true, c.units_at.ensures);
    }

pub overflow_add-low : goal.overflow_add-low
overflow_add-low c = omega (arith, in_range (goal.at.overflow_add-low c).Start, small (goal.at.overflow_add-low c).Start)

pub overflow_add-high : goal.overflow_add-high
overflow_add-high c = omega (arith, small (goal.at.overflow_add-high c).Start)

pub loop-low-init : goal.loop-low-init
loop-low-init c =
    halving_start _ _ _ c.requires.interface _ _ _ (in_range (goal.at.loop-low-init c).Start) (omega (arith, c.if-step-units_at.false, c.units_at.ensures))

pub units_at-requires-in-loop-low : goal.units_at-requires-in-loop-low
units_at-requires-in-loop-low c =
    record {
      interface = capacity_valid _ _ _ c.requires.interface _ (omega (arith, c.loop-low-test.true, c.loop-low.invariant.within));
      bounded = c.requires.bounded;
    }

pub loop-low-preserved-then-units_at-step : goal.loop-low-preserved-then-units_at-step
loop-low-preserved-then-units_at-step c =
    let h = c.loop-low-test.true in
    halving_up _ _ _ c.requires.interface _ _ _ _ _ _ c.loop-low.invariant (omega (arith, h)) (omega (arith, h))
    (omega (arith, c.if-units_at-step.true, c.units_at-in-loop-low.ensures))
