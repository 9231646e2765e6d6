-- `judge::scan::scan` meets its contract. The loop's invariant: the walk is over the tasks, and what is found is the first short instant and the
-- tightest step instant before its next one, and where the tightest is short a short one is found. The measure is what is left of the instants.
use Prim.Native.Nat.{◌-◌, ◌+◌}
use Rattle.judge.specs.inner.Scan.{Telling}
use Rattle.judge.proofs.MarginLaws.{Best}
use Rattle.judge.proofs.StepLaws.{Carried}
use Rattle.judge.proofs.VerdictLaws.{Sought}
use Rattle.judge.proofs.scan.scan.Given as goal

abbrev pub invariant-loop-steps : goal.invariant-loop-steps
invariant-loop-steps l =
    Carried l.tasks l.steps × Sought l.tasks l.interface l.length.0 l.steps.at l.found.short × Best l.tasks l.interface l.length.0 l.steps.at l.found.tight
    × Telling l.found.short l.found.tight

abbrev pub decreases-loop-steps : goal.decreases-loop-steps
decreases-loop-steps l = l.length.0 + 1 - l.steps.at
