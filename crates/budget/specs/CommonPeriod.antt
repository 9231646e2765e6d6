-- The common period L (RULES 3): the smallest number that Π and the T of every task divide.
use Rattle.std.specs.Prelude.{ℕ, zero, suc, ◌*◌, ◌/◌, ◌%◌, true, false, List, [], ◌∷◌, eqb}
use Rattle.budget.specs.declared.task.Task.{Task}
use Rattle.budget.specs.Task.{T}

-- Euclid's rule of remainders, with a bound on its steps: the second number falls at each, so one step more than it has units is enough
unfoldable pub euclid : ℕ → ℕ → ℕ → ℕ
euclid zero a b = a
euclid (suc steps) a b = elim (eqb b 0) [ true ↦ a | false ↦ euclid steps b (a % b) ]

-- the greatest common divisor
unfoldable pub common_divisor : ℕ → ℕ → ℕ
common_divisor a b = euclid (suc b) a b

-- the least common multiple of two numbers
unfoldable pub common_multiple : ℕ → ℕ → ℕ
common_multiple a b = a / common_divisor a b * b

-- the least common multiple of a number and the periods of the tasks; without tasks the number itself
unfoldable pub common_period : ℕ → List Task → ℕ
common_period p [] = p
common_period p (k ∷ ks) = common_period (common_multiple p (T k)) ks
