-- With nothing to add, or no place for it, the table and the common period stay as they are.
use mathlib.Core.Logic.{inl, inr}
use borrow.Author.Tests.{eq-eqb, ne_eqb, le-ltb}
use Rattle.budget.specs.Task.{appended}
use Rattle.tree.proofs.workload.with_child.Goals as goal

pub returns-then-capacity-eq0 : goal.returns-then-capacity-eq0
unfolding appended
returns-then-capacity-eq0 c =
    elim c.then-capacity-eq0.either [
      | inl a ↦ rw (c.requires, eq-eqb _ _ a)
      | inr b ↦ rw (c.requires, ne_eqb _ _ b.0, le-ltb _ _ b.1)
    ]
