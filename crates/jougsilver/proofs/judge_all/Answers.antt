-- The sheet's refusal, then that of the room; with both past, what the sheet was answered is put, and the entries behind it.
use Prim.Native.Nat.{◌+◌, ◌*◌, ◌≤◌}
use borrow.Author.Rules.{rules}
use native.Mathlib.Omega.{arith}
use mathlib.Core.Path.{◌≡◌, refl, sym, ◌∙◌}
use lib.ListN.{length, length-drop}
use Rattle.std.specs.Prelude.{Ok, Err}
use Rattle.std.proofs.lemmas.Result.{err_from_is_err_and}
use Rattle.budget.proofs.Refusals.{some}
use Rattle.sheet.specs.Answered.{checked_in, contents_in}
use Rattle.jougsilver.specs.Host.{all_reply, entries_to}
use Rattle.record.proofs.StoreLaws.{lent, room_given, stored_back}
use Rattle.sheet.specs.Check.{check}
use Rattle.sheet.specs.Contents.{contents_of}
use Rattle.sheet.proofs.Mapped.{mapped_ok, mapped_err}
use Rattle.tree.specs.inner.Known.{Known}
use Rattle.tree.proofs.Pass.{checked_is, known, known_few}
use Rattle.jougsilver.proofs.AllLaws.{all_put, entries_fit, entries_place, room_next, sheet_first}
use Rattle.jougsilver.proofs.AnswerLaws.{unwritten}
use Rattle.jougsilver.proofs.judge_all.Goals as goal
use Rattle.jougsilver.proofs.judge_all.Goals.{In_ok-contents, In_ok-check_room, After-write_checked}

-- the sheet is refused
pub returns-in_err-contents : goal.returns-in_err-contents
returns-in_err-contents c =
    let a = c.args in
    let p = err_from_is_err_and c.from_residual.result c.from_residual.ensures.1 in
    let m = mapped_err _ c.contents_of.result c.map_err.result c.map_err.ensures.cases _ c.in_err-contents.was in
    let e : c.in_err-contents.field-0.0 ≡ m.0.refusal = search rules in
    let h = some m.0.refusal in
    let r = sheet_first a.sheet.now (checked_in (Err m.0)) (checked_is _ (contents_in (Err m.0)) (rw m.1 at c.contents_of.ensures)) (length a.reply.now) a.at h in
    rw (p.1, p.2, e) record { answer = r; bytes = unwritten _ _ a.reply.now a.at (all_reply a.sheet.now) r h }

-- it is taken
found : (c : In_ok-contents) → contents_in (Ok c.in_ok-contents.contents) ≡ contents_of c.args.sheet.now
found c =
    let m = mapped_ok _ c.contents_of.result c.map_err.result c.map_err.ensures.cases _ c.in_ok-contents.was in
    rw m at c.contents_of.ensures

answered : (c : In_ok-contents) → checked_in (Ok c.in_ok-contents.contents.count) ≡ check c.args.sheet.now
answered c = checked_is _ (contents_in (Ok c.in_ok-contents.contents)) (found c)

taken : (c : In_ok-contents) → Known c.args.sheet.now c.in_ok-contents.contents.edges c.in_ok-contents.contents.count
taken c = known _ (contents_in (Ok c.in_ok-contents.contents)) (found c) refl

pub overflow_mul-count : goal.overflow_mul-count
overflow_mul-count c = let few = known_few (taken (goal.at.overflow_mul-count c).In_ok-contents) in omega arith

pub overflow_add-count : goal.overflow_add-count
overflow_add-count c = let few = known_few (taken (goal.at.overflow_add-count c).In_ok-contents) in omega arith

-- the room is refused
pub returns-in_err-check_room : goal.returns-in_err-check_room
returns-in_err-check_room c =
    let a = c.args in
    let p = err_from_is_err_and c.from_residual-in_err-check_room.result c.from_residual-in_err-check_room.ensures.1 in
    let h = some c.in_err-check_room.field-0.0 in
    let next = room_next a.sheet.now _ (answered (goal.at.returns-in_err-check_room c).In_ok-contents) (length a.reply.now) a.at refl in
    let r = c.in_err-check_room.ensures ∙ sym next in
    rw (p.1, p.2) record { answer = r; bytes = unwritten _ _ a.reply.now a.at (all_reply a.sheet.now) r h }

-- there is room for all of it
fits : (c : In_ok-check_room) → c.args.at + (12 + 36 * c.in_ok-contents.contents.count) ≤ length c.args.reply.now
fits c = room_given _ _ _ (sym c.in_ok-check_room.ensures)

pub overflow_add-at : goal.overflow_add-at
overflow_add-at c = entries_place _ _ _ (fits (goal.at.overflow_add-at c).In_ok-check_room) (search rules)

-- and for the entries behind what the sheet was answered
rest : (c : After-write_checked) → checked_in (Ok c.in_ok-contents.contents.count) ≡ check c.args.sheet.now → c.args.at + (12 + 36 * c.in_ok-contents.contents.count) ≤ length c.args.reply.now
    → c.args.at + 12 + 36 * c.in_ok-contents.contents.count ≤ length c.write_checked.new.buffer
rest c is room = entries_fit c.args.sheet.now _ is c.args.reply.now c.args.at room c.write_checked.ensures.bytes

pub slice_bounds-put_all-count : goal.slice_bounds-put_all-count
slice_bounds-put_all-count c =
    let at = goal.at.slice_bounds-put_all-count c in omega (arith, rest at.After-write_checked (answered at.In_ok-contents) (fits at.In_ok-check_room))

pub slice_bounds-put_all-start : goal.slice_bounds-put_all-start
slice_bounds-put_all-start c =
    let at = goal.at.slice_bounds-put_all-start c in omega (arith, rest at.After-write_checked (answered at.In_ok-contents) (fits at.In_ok-check_room))

pub put_all-requires : goal.put_all-requires
put_all-requires c =
    let at = goal.at.put_all-requires c in
    let room = rest at.After-write_checked (answered at.In_ok-contents) (fits at.In_ok-check_room) in
    record { known = taken at.In_ok-contents; room = simp (lent, length-drop) (omega arith) }

pub returns : goal.returns
returns c =
    let a = c.args in
    let at = goal.at.returns c in
    let is = answered at.In_ok-contents in
    let room = fits at.In_ok-check_room in
    let n = c.in_ok-contents.contents.count in
    record {
      answer = c.in_ok-check_room.ensures ∙ sym (room_next a.sheet.now _ is (length a.reply.now) a.at refl);
      bytes =
          all_put a.sheet.now _ is a.reply.now a.at room c.write_checked.ensures.bytes refl
          (stored_back _ _ (entries_to a.sheet.now n) _ (omega (arith, rest at.After-write_checked is room)) c.put_all.ensures);
    }
