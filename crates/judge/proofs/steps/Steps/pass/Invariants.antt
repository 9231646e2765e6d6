-- `judge::steps::Steps::pass` meets its contract. The loop's invariant: the tasks gone through have passed the instant, and the sum has grown by at most the
-- limit for each.
use Prim.Native.Nat.{◌≤◌, ◌+◌, ◌*◌}
use mathlib.Core.Path.{◌≡◌}
use Rattle.budget.specs.Limits.{limit}
use Rattle.judge.specs.inner.Steps.{Passed, column}
use Rattle.judge.proofs.steps.Steps.pass.Given as goal

abbrev pub invariant-loop-i : goal.invariant-loop-i
invariant-loop-i l =
    let s = l.initial.self in
    (l.demand ≤ l.before + l.i * limit) × Passed (column s.period) (column s.work) s.due l.self.due l.i l.at l.before l.demand l.next
    × (l.self.count ≡ s.count) × (l.self.period ≡ s.period) × (l.self.work ≡ s.work)
