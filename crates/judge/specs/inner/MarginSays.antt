-- What each answer of a margin says, by which the promises about the margin are reached: the margin is that of the tightest step instant, and
-- there is none exactly where there is no step instant.
use Rattle.std.specs.Prelude.{ℕ, suc, ◌≤◌, List, ◌≡◌}
use Rattle.budget.specs.declared.interface.Interface.{Interface}
use Rattle.budget.specs.declared.task.Task.{Task}
use Rattle.judge.specs.numbers.Margined.{Margined}
use Rattle.judge.specs.numbers.Margined as Variant
use Rattle.judge.specs.Margin.{Step, Tightest, margin_at}

abbrev pub MarginSays : List Task → Interface → ℕ → Margined → Type 0
MarginSays ks i n (Variant.Refused r) = ⊥
MarginSays ks i n (Variant.Least m t) = Tightest ks i n t.0 × (m ≡ margin_at ks i t.0)
MarginSays ks i n Variant.None = (p : ℕ) → suc p ≤ n → ¬ Step ks p
