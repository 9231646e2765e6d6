-- By whether the component is wanted: its record says its number.
use mathlib.Core.List.{List}
use Prim.Native.Nat.{ℕ}
use mathlib.Core.Path.{◌≡◌, sym, subst, ap, ◌∙◌}
use Rattle.record.specs.declared.layout.Head.{Head}
use Rattle.record.specs.Layout.{record_of}
use Rattle.transfer.specs.ReadAt.{read_at}
use Rattle.transfer.specs.Reading.{component_from}
use Rattle.tree.specs.Offer.{offer_of}
use Rattle.tree.specs.inner.Told.{Told}
use Rattle.tree.specs.inner.Below.{holds, outcome_wanted}
use Rattle.tree.proofs.Accepted.{told}
use Rattle.tree.proofs.below.offer_at.Goals as goal
use Rattle.tree.proofs.below.offer_at.Goals.{After-holds}

-- the number that is asked about is the component's
asked : (c : After-holds) → let a = c.args in c.holds.result ≡ holds a.wanted.now (read_at a.pass.sheet.now a.pass.edges.now a.place).number
unfolding read_at
asked c =
    c.holds.ensures
    ∙ ap (λ (h : Head). holds c.args.wanted.now h.number) c.begun_by-head.ensures
    ∙ ap (λ (p : List ℕ). holds c.args.wanted.now (component_from p (record_of p)).number) c.part_at-part.ensures

pub offer_of-requires : goal.offer_of-requires
offer_of-requires c = subst Told (sym c.judge_next-outcome.ensures) (told _)

pub returns-then-holds : goal.returns-then-holds
unfolding outcome_wanted read_at
returns-then-holds c = rw (sym (asked (goal.at.returns-then-holds c).After-holds) ∙ c.if-holds.true, c.offer_of.ensures, c.judge_next-outcome.ensures, c.read_part-known.ensures, c.part_at-part.ensures)

pub returns : goal.returns
unfolding outcome_wanted offer_of read_at
returns c = rw (sym (asked (goal.at.returns c).After-holds) ∙ c.if-holds.false, c.offering.ensures, c.begun_by-head.ensures, c.part_at-part.ensures)
