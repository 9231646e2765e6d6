-- Derived equality tells the two kinds apart, and compares two lengths by their numbers.
use mathlib.Core.Path.{◌≡◌, refl, ◌∙◌}
use Rattle.budget.specs.declared.common.Common.{Common}
use Rattle.budget.specs.declared.common.Common.TheVariants.{Within, Above}
use Rattle.budget.specs.Common.{same_common}
use Rattle.budget.proofs.common.same_common.Goals as goal
use Rattle.budget.proofs.common.same_common.Goals.{After-eq}

by_kind : (c : After-eq) (a b : Common) → c.args.a ≡ a → c.args.b ≡ b → c.eq.result ≡ same_common c.args.a c.args.b
unfolding same_common
by_kind c (Within x) (Within y) e f = c.eq.ensures ∙ rw (e, f)
by_kind c (Within x) Above e f = c.eq.ensures ∙ rw (e, f)
by_kind c Above (Within y) e f = c.eq.ensures ∙ rw (e, f)
by_kind c Above Above e f = c.eq.ensures ∙ rw (e, f)

pub returns : goal.returns
returns c = by_kind c c.args.a c.args.b refl refl
