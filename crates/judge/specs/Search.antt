-- The one search that every smallest number of the judge is defined by: the first short instant, the smallest capacity (RULES 7).
use Rattle.std.specs.Prelude.{ℕ, zero, suc, Bool, true, false, cond, ltb}

-- the smallest number below n that passes the test, or n where none does
unfoldable pub smallest : (ℕ → Bool) → ℕ → ℕ
smallest test zero = zero
smallest test (suc n) =
    let k = smallest test n in
    elim (ltb k n) [ true ↦ k | false ↦ cond (test n) n (suc n) ]
