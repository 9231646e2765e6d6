-- `judge::capacity::raised` meets its contract. The loop's invariant: every capacity below `low` is short, and `high` is enough or past the deadline.
use Prim.Native.Nat.{◌-◌}
use Rattle.judge.proofs.CapacityLaws.{Halving}
use Rattle.judge.proofs.capacity.raised.Given as goal

abbrev pub invariant-loop-low : goal.invariant-loop-low
invariant-loop-low l =
    Halving l.interface.period.0 l.interface.deadline.0 l.from l.step.at l.step.demand l.low l.high

abbrev pub decreases-loop-low : goal.decreases-loop-low
decreases-loop-low l = l.high - l.low
