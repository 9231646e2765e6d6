-- The common divisor is computed by Euclid's rule; the measure is the second number, which the remainder makes smaller.
use Rattle.budget.proofs.common.+common_divisor.Given as goal

abbrev pub decreases-common_divisor : goal.decreases-common_divisor
decreases-common_divisor l = l.b
