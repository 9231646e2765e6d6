-- The stand-in stores its own common period.
use mathlib.Core.Path.{sym, subst}
use Rattle.budget.specs.Component.{Right}
use Rattle.budget.proofs.CommonLaws.{refused_right}
use Rattle.transfer.proofs.read.none_read.Goals as goal

pub invariant_of-result : goal.invariant_of-result
invariant_of-result c = record { right = subst Right (sym c.refused.ensures) refused_right }
