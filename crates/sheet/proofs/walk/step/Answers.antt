-- The record read at the walk's place is judged: what is lent is what is left from that place on.
use mathlib.Core.Path.{refl}
use Rattle.std.proofs.lemmas.Result.{err_from_is_err_and}
use Rattle.record.specs.Record.{NoRecord}
use Rattle.sheet.specs.Judging.{judged, record_refusal}
use Rattle.sheet.proofs.JudgingLaws.{judged_refused}
use Rattle.sheet.proofs.WalkLaws.{room_for, stepped}
use Rattle.sheet.proofs.walk.step.Goals as goal

pub returns-in_err-record : goal.returns-in_err-record
unfolding record_refusal
returns-in_err-record c =
    let p = err_from_is_err_and c.from_residual.result c.from_residual.ensures.1 in
    rw (p.1, p.2) (stepped judged c.args.sheet.now _ _ _ c.in_err-record.ensures (judged_refused _ (NoRecord _) _ refl))

pub judge-requires : goal.judge-requires
judge-requires c = let a = c.args in room_for a.sheet.now a.state.place _ c.requires.0 c.requires.1 c.in_ok-record.ensures

pub returns : goal.returns
returns c = stepped judged c.args.sheet.now _ _ _ c.in_ok-record.ensures c.judge.ensures
