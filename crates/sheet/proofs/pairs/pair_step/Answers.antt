-- The record read at the walk's place is judged: what is lent is what is left from that place on.
use Rattle.std.proofs.lemmas.Result.{err_from_is_err_and}
use Rattle.sheet.specs.Pairs.{pair_judged}
use Rattle.sheet.proofs.CourseLaws.{step_is}
use Rattle.sheet.proofs.WalkLaws.{room_for}
use Rattle.sheet.proofs.pairs.pair_step.Goals as goal

pub returns-in_err-record : goal.returns-in_err-record
unfolding pair_judged
returns-in_err-record c es st k =
    let p = err_from_is_err_and c.from_residual.result c.from_residual.ensures.1 in
    rw (p.1, p.2, ← step_is c.args.sheet.now _ es _ st _ k c.in_err-record.ensures)

pub judge_behind-requires : goal.judge_behind-requires
judge_behind-requires c = let a = c.args in room_for a.sheet.now a.course.place _ c.requires.0 c.requires.1 c.in_ok-record.ensures

pub returns : goal.returns
returns c es st k = rw (← step_is c.args.sheet.now _ es _ st _ k c.in_ok-record.ensures) (c.judge_behind.ensures es st k)
