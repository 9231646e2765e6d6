-- The loop's invariant: the answer from the start is the answer from here, and what was passed is noted. What is left of the sheet falls.
use mathlib.Core.Path.{◌≡◌, sym, ap, ◌∙◌}
use native.Mathlib.Omega.{arith}
use borrow.Author.Rules.{rules}
use Rattle.std.specs.Prelude.{Some, Ok}
use Rattle.std.proofs.lemmas.Result.{err_from_is_err_and}
use Rattle.sheet.specs.Answered.{state_in, step_in}
use Rattle.sheet.specs.Judging.{judged}
use Rattle.sheet.specs.Walk.{step}
use Rattle.sheet.proofs.Mapped.{mapped_ok, mapped_err}
use Rattle.sheet.proofs.Walking.{begun, unopened, again, counted, falls, over, refused_here}
use Rattle.sheet.proofs.walk.walk.Goals as goal
use Rattle.sheet.proofs.walk.walk.Goals.{In-Some}

pub returns-in_err-state : goal.returns-in_err-state
returns-in_err-state c =
    let p = err_from_is_err_and c.from_residual.result c.from_residual.ensures.1 in
    rw (p.1, p.2) (unopened c.args.sheet.now _ c.in_err-state.ensures)

pub loop-next-init : goal.loop-next-init
loop-next-init c = begun c.args.sheet.now c.in_ok-state.state c.in_ok-state.ensures

pub returns-in_err-next : goal.returns-in_err-next
returns-in_err-next c =
    let l = c.loop-next in
    let p = err_from_is_err_and c.from_residual-in_err-next.result c.from_residual-in_err-next.ensures.1 in
    let m = mapped_err _ c.step.result c.map_err.result c.map_err.ensures.cases _ c.in_err-next.was in
    let e : c.in_err-next.field-0.0 ≡ record { refusal = m.0; place = l.state.place } = search rules in
    rw (p.1, p.2, e) (refused_here _ l.edges l.components l.state l.invariant m.0 (rw m.1 at c.step.ensures))

-- the step that goes on
next : (c : In-Some) → step_in c.loop-next.state (Ok (Some c.in-Some.next)) ≡ step judged c.args.sheet.now (state_in c.loop-next.state)
next c =
    let m = mapped_ok _ c.step.result c.map_err.result c.map_err.ensures.cases _ c.in_ok-next.was in
    sym (ap (step_in c.loop-next.state) (m ∙ ap Ok c.in-Some.is)) ∙ c.step.ensures

pub offset_bounds-edges-next : goal.offset_bounds-edges-next
offset_bounds-edges-next c = let l = c.loop-next in let h = counted _ l.edges l.components l.state l.invariant c.in-Some.next (next c) in omega arith

pub bounds-edges-next : goal.bounds-edges-next
bounds-edges-next c = let l = c.loop-next in let h = counted _ l.edges l.components l.state l.invariant c.in-Some.next (next c) in omega arith

pub offset_bounds-components-next : goal.offset_bounds-components-next
offset_bounds-components-next c = let l = c.loop-next in let h = counted _ l.edges l.components l.state l.invariant c.in-Some.next (next c) in omega arith

pub bounds-components-next : goal.bounds-components-next
bounds-components-next c = let l = c.loop-next in let h = counted _ l.edges l.components l.state l.invariant c.in-Some.next (next c) in omega arith

pub loop-next-smaller : goal.loop-next-smaller
loop-next-smaller c = let l = c.loop-next in falls _ l.edges l.components l.state l.invariant c.in-Some.next (next c)

pub loop-next-preserved : goal.loop-next-preserved
loop-next-preserved c = let l = c.loop-next in again _ l.edges l.components l.state l.invariant c.in-Some.next (next c)

pub returns : goal.returns
returns c =
    let l = c.loop-next in
    let m = mapped_ok _ c.step.result c.map_err.result c.map_err.ensures.cases _ c.in_ok-next.was in
    over _ l.edges l.components l.state l.invariant (sym (ap (step_in l.state) (m ∙ ap Ok c.in_default.is)) ∙ c.step.ensures)
