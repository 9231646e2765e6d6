-- Refused at the first test that the kind's row fails, as the definition is; else the record of the row's values.
use Prim.Native.Nat.{ℕ}
use mathlib.Core.Path.{◌≡◌, sym, ap, ◌∙◌}
use mathlib.Core.List.{List}
use mathlib.Core.Bool.{false}
use lib.Dec.{eqb}
use borrow.Author.Tests.{le-ltb, lt-ltb, eq-eqb, ne_eqb}
use Rattle.record.specs.Row.{row_length, values_at}
use Rattle.record.specs.Layout.{row_of, record_with, of_kind}
use Rattle.record.specs.inner.Kinds.{kind_number}
use Rattle.record.proofs.KindLaws.{listed}
use Rattle.record.proofs.layout.of_kind.Goals as goal
use Rattle.record.proofs.layout.of_kind.Goals.{After-length-length}

-- the length of the kind's row
size : (c : After-length-length) → row_length (row_of (kind_number c.args.kind)) ≡ c.length-length.result
size c = ap row_length (sym c.row-row.ensures) ∙ sym c.length-length.ensures.length

-- which is not 0
some : (c : After-length-length) → eqb c.length-length.result 0 ≡ false
some c = ap (λ (n : ℕ). eqb n 0) (sym (size c)) ∙ listed c.args.kind

pub returns-then-size-length : goal.returns-then-size-length
unfolding of_kind
returns-then-size-length c = let s = (goal.at.returns-then-size-length c).After-length-length in
    rw (size s, some s, ne_eqb _ _ c.if-size-length.true)

pub returns-then-rest-length : goal.returns-then-rest-length
unfolding of_kind
returns-then-rest-length c = let s = (goal.at.returns-then-rest-length c).After-length-length in
    rw (size s, some s, eq-eqb _ _ c.if-size-length.false, lt-ltb _ _ c.if-rest-length.true)

pub returns : goal.returns
unfolding of_kind
returns c = let a = c.args in let s = (goal.at.returns c).After-length-length in
    let e : c.values_at.result ≡ values_at (row_of (kind_number a.kind)) a.rest.now 0 = c.values_at.ensures.values ∙ ap (λ (l : List ℕ). values_at l a.rest.now 0) c.row-row.ensures in
    rw (size s, some s, eq-eqb _ _ c.if-size-length.false, le-ltb _ _ c.if-rest-length.false) (c.record_with.ensures ∙ ap (record_with (kind_number a.kind)) e)
