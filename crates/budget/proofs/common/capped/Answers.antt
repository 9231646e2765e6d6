-- A length is stored as defined: the test of the code is the one of the definition.
use mathlib.Core.Path.{sym}
use Rattle.budget.proofs.CommonLaws.{capped_within, capped_above}
use Rattle.budget.proofs.common.capped.Goals as goal

pub returns-then-length : goal.returns-then-length
returns-then-length c = sym (capped_above _ c.if-length.true)

pub returns : goal.returns
returns c = sym (capped_within _ c.if-length.false)
