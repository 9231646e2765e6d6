-- `judge::steps::Steps::new` meets its contract. The loop's invariant: the numbers of the tasks gone through are written.
use Prim.Native.Nat.{ℕ, ◌<◌}
use mathlib.Core.Path.{◌≡◌}
use lib.ListN.{length, get_or}
use Rattle.budget.specs.Task.{T, C, no_task, span}
use Rattle.judge.proofs.steps.Steps.new.Given as goal

abbrev pub invariant-loop-i : goal.invariant-loop-i
invariant-loop-i l =
    (length l.period ≡ 64) × (length l.work ≡ 64) × (length l.due ≡ 64)
    × ((j : ℕ) → j < l.i → get_or l.period j 0 ≡ T (get_or l.tasks j no_task))
    × ((j : ℕ) → j < l.i → get_or l.work j 0 ≡ C (get_or l.tasks j no_task))
    × ((j : ℕ) → j < l.i → get_or l.due j 0 ≡ span (get_or l.tasks j no_task))
