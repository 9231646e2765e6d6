-- The refusals in their order; with all past, the writer is handed the reply on the component that is found.
use borrow.Author.Rules.{rules}
use mathlib.Core.Path.{◌≡◌, sym}
use lib.ListN.{length}
use Rattle.std.proofs.lemmas.Result.{err_from_is_err_and}
use Rattle.budget.proofs.Refusals.{some}
use Rattle.jougsilver.specs.Host.{host_reply}
use Rattle.tree.specs.numbers.Placed.{Placed}
use Rattle.tree.specs.Tree.{placing}
use Rattle.tree.specs.Outcome.{outcome_in}
use Rattle.sheet.proofs.Mapped.{mapped_ok, mapped_err}
use Rattle.jougsilver.proofs.AnswerLaws.{unwritten, place_refused, component_refused, room_left, reply_left, written_number}
use Rattle.jougsilver.proofs.judge_at.Goals as goal
use Rattle.jougsilver.proofs.judge_at.Goals.{In_ok-placed}

-- the place is refused
pub returns-in_err-placed : goal.returns-in_err-placed
returns-in_err-placed c =
    let a = c.args in
    let p = err_from_is_err_and c.from_residual.result c.from_residual.ensures.1 in
    let m = mapped_err _ c.judge_place.result c.map_err.result c.map_err.ensures.cases _ c.in_err-placed.was in
    let e : c.in_err-placed.field-0.0 ≡ m.0.refusal = search rules in
    let h = some m.0.refusal in
    let r = place_refused a.sheet.now a.place (length a.reply.now) a.at _ _ (rw m.1 at c.judge_place.ensures) h in
    rw (p.1, p.2, e) record { answer = r; bytes = unwritten _ _ a.reply.now a.at (host_reply a.sheet.now a.place) r h }

-- what is found there
found : (c : In_ok-placed) → Placed.Found c.in_ok-placed.placed.number (outcome_in c.in_ok-placed.placed.outcome) ≡ placing c.args.sheet.now c.args.place
found c =
    let m = mapped_ok _ c.judge_place.result c.map_err.result c.map_err.ensures.cases _ c.in_ok-placed.was in
    rw m at c.judge_place.ensures

-- the component there is refused
pub returns-in_err-fields : goal.returns-in_err-fields
returns-in_err-fields c =
    let a = c.args in
    let p = err_from_is_err_and c.from_residual-in_err-fields.result c.from_residual-in_err-fields.ensures.1 in
    let h = some c.in_err-fields.field-0.0 in
    let r = component_refused a.sheet.now a.place (length a.reply.now) a.at _ _ (found (goal.at.returns-in_err-fields c).In_ok-placed) _ c.in_err-fields.ensures.refusal h in
    rw (p.1, p.2) record { answer = r; bytes = unwritten _ _ a.reply.now a.at (host_reply a.sheet.now a.place) r h }

pub returns : goal.returns
returns c =
    let a = c.args in
    let f = found (goal.at.returns c).In_ok-placed in
    let left = room_left a.sheet.now a.place (length a.reply.now) a.at _ _ f (sym c.in_ok-fields.ensures.refusal) in
    rw left record { answer = written_number _ _ _ _ c.write_reply.ensures.answer; bytes = rw (← reply_left a.sheet.now a.place (length a.reply.now) a.at _ _ f, ← c.in_ok-fields.ensures.reply) c.write_reply.ensures.bytes }
