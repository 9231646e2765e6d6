-- The row is searched for the number.
use mathlib.Core.List.{List}
use mathlib.Core.Path.{ap, ◌∙◌}
use Prim.Native.Nat.{ℕ}
use Rattle.tree.specs.inner.Below.{holds}
use Rattle.tree.proofs.BelowLaws.{contained}
use Rattle.tree.proofs.wanted.Wanted.holds.Goals as goal

pub returns : goal.returns
returns c = c.contains.ensures.value ∙ (contained _ c.args.number ∙ ap (λ (ms : List ℕ). holds ms c.args.number) c.self.view_is)
