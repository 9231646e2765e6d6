-- The kind's number and the length are the record's first two fields; a number that no kind has is refused as the definition refuses it.
use mathlib.Core.Path.{◌≡◌, refl, sym, ap, ◌∙◌}
use native.Mathlib.Omega.{arith}
use borrow.Author.Tests.{le-ltb}
use Rattle.std.proofs.lemmas.Result.{err_from_is_err_and}
use Rattle.record.specs.Field.{field}
use Rattle.record.specs.Layout.{record_of, of_kind}
use Rattle.record.specs.inner.Kinds.{kind_number}
use Rattle.record.proofs.FieldLaws.{field_lent}
use Rattle.record.proofs.layout.record_of.Goals as goal
use Rattle.record.proofs.layout.record_of.Goals.{After-number_in-size}

number : (c : After-number_in-size) → c.number_in-number.result ≡ field c.args.rest.now 2 2
number c = field_lent 2 2 c.args.rest.now 2 c.number_in-number.result refl (omega arith) c.number_in-number.ensures.value

size : (c : After-number_in-size) → c.number_in-size.result ≡ field c.args.rest.now 0 2
size c = field_lent 2 2 c.args.rest.now 0 c.number_in-size.result refl (omega arith) c.number_in-size.ensures.value

pub returns-in_err-kind : goal.returns-in_err-kind
unfolding record_of of_kind
returns-in_err-kind c =
    let s = (goal.at.returns-in_err-kind c).After-number_in-size in
    let p = err_from_is_err_and c.from_residual.result c.from_residual.ensures.1 in
    rw (p.1, p.2, c.in_err-kind.ensures.0, le-ltb _ _ c.if-rest-lt4.false, ← number s, c.in_err-kind.ensures.1)

pub returns-in-Task : goal.returns-in-Task
unfolding record_of
returns-in-Task c =
    let s = (goal.at.returns-in-Task c).After-number_in-size in
    let k : 2 ≡ field c.args.rest.now 2 2 = sym (ap kind_number c.in-Task.is) ∙ (c.in_ok-kind.ensures ∙ number s) in
    rw (le-ltb _ _ c.if-rest-lt4.false, ← k, ← size s) c.of_kind.ensures

pub returns-in_default : goal.returns-in_default
unfolding record_of
returns-in_default c =
    let s = (goal.at.returns-in_default c).After-number_in-size in
    rw (le-ltb _ _ c.if-rest-lt4.false, ← number s, ← size s, ← c.in_ok-kind.ensures) c.of_kind-in_default.ensures
