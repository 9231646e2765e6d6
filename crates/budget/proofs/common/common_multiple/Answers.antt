-- The common multiple is computed as defined: of two numbers of 32 bits even the product fits, and the divisor is 0 only where both numbers are.
use Prim.Native.Nat.{ℕ, ◌*◌, ◌/◌, ◌≤◌}
use mathlib.Core.Path.{◌≡◌, sym, ◌∙◌, ap}
use native.Mathlib.Nat.{div-le_self, mul-le-mul, mul-zero, pos_of_ne-zero}
use native.Mathlib.Omega.{arith}
use Rattle.budget.specs.CommonPeriod.{common_divisor, common_multiple}
use Rattle.budget.proofs.CommonPeriodLaws.{no_divisor}
use Rattle.budget.proofs.common.common_multiple.Goals as goal

nothing : (a b : ℕ) → common_divisor a b ≡ 0 → common_multiple a b ≡ 0
unfolding common_multiple
nothing a b e = ap (λ (n : ℕ). a / common_divisor a b * n) (no_divisor a b e) ∙ mul-zero (a / common_divisor a b)

pub returns-then-divisor-eq0 : goal.returns-then-divisor-eq0
returns-then-divisor-eq0 c = sym (nothing _ _ (sym c.common_divisor-divisor.ensures ∙ c.if-divisor-eq0.true))

pub nonzero_div-result : goal.nonzero_div-result
nonzero_div-result c = pos_of_ne-zero c.if-divisor-eq0.false

pub overflow_cast-result : goal.overflow_cast-result
overflow_cast-result c = omega (arith, div-le_self c.args.a c.common_divisor-divisor.result)

pub overflow_mul-result : goal.overflow_mul-result
overflow_mul-result c =
    let a = c.args.a in
    let b = c.args.b in
    let first : a / c.common_divisor-divisor.result ≤ 4294967295 = omega (arith, div-le_self a c.common_divisor-divisor.result) in
    let second : b ≤ 4294967295 = omega arith in
    omega (arith, mul-le-mul first second)

pub returns : goal.returns
unfolding common_multiple
returns c = rw (← c.common_divisor-divisor.ensures)
