-- The units given in a stretch of slots.
use Rattle.std.specs.Prelude.{ℕ, zero, suc, ◌+◌}

-- the units that f gives at the n places from x on
unfoldable pub units : (ℕ → ℕ) → ℕ → ℕ → ℕ
units f x zero = 0
units f x (suc n) = units f x n + f (x + n)
