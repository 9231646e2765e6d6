-- The common divisor is computed by Euclid's rule; the measure is the second number, which the remainder makes smaller.
use mathlib.Core.Path.{sym, ◌∙◌}
use native.Mathlib.Nat.{mod-lt, pos_of_ne-zero}
use Rattle.budget.proofs.CommonPeriodLaws.{common_divisor_end, common_divisor_step}
use Rattle.budget.proofs.common.+common_divisor.Goals as goal

pub nonzero_rem-a : goal.nonzero_rem-a
nonzero_rem-a t c = pos_of_ne-zero c.if-b-eq0.false

pub common_divisor-requires : goal.common_divisor-requires
common_divisor-requires t c =
    (rw (← c.decreases) (mod-lt c.args.a (pos_of_ne-zero c.if-b-eq0.false)), tt)

pub returns-then-b-eq0 : goal.returns-then-b-eq0
returns-then-b-eq0 t c = rw c.if-b-eq0.true (sym (common_divisor_end c.args.a))

pub returns-else-b-eq0 : goal.returns-else-b-eq0
returns-else-b-eq0 t c =
    c.common_divisor.ensures ∙ sym (common_divisor_step c.args.a c.args.b (pos_of_ne-zero c.if-b-eq0.false))
