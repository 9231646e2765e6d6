-- `judge::steps::Steps::pass` meets its contract. The loop's invariant: the tasks gone through have passed the instant, and the sum has grown by at most the
-- limit for each.
use Prim.Native.Nat.{ℕ, ◌+◌, ◌<◌, min}
use mathlib.Core.Path.{◌≡◌, refl, ◌∙◌, ap, subst}
use mathlib.Core.List.{List}
use native.Mathlib.Nat.{le_antisymm}
use native.Mathlib.Omega.{arith}
use lib.ListN.{length, get_or, set}
use Rattle.judge.specs.declared.steps.Steps.{Steps}
use Rattle.judge.specs.inner.Steps.{Passed, column}
use Rattle.judge.proofs.StepLoops.{passed_none, passed_due, passed_later}
use Rattle.judge.proofs.steps.Steps.pass.Goals as goal
use Rattle.judge.proofs.steps.Steps.pass.Goals.{then-due-at, else-due-at}

pub loop-i-init : goal.loop-i-init
loop-i-init c = (omega arith, passed_none _ _ _ _ _, refl, refl, refl)

pub loop-i-preserved : goal.loop-i-preserved
loop-i-preserved c =
    let p = c.loop-i.invariant.1 in
    let h = c.loop-i-test.true in
    let i = c.loop-i.i in
    let dues = c.loop-i.self.due in
    let place : i < length dues = omega (arith, h, p.long, c.requires.long, c.requires.few) in
    let least = c.min-next.ensures in
    let period = ap (λ (xs : List ℕ). get_or xs i 0) c.loop-i.invariant.3 in
    let work = ap (λ (xs : List ℕ). get_or xs i 0) c.loop-i.invariant.4 in (
      elim c.if-due-at.branch [
        | then-due-at w ↦ omega (arith, w.demand-is, work, (c.requires.tasks_fit i h).1)
        | else-due-at w ↦ omega (arith, w.demand-is)
      ],
      elim c.if-due-at.branch [
        | then-due-at w ↦
            let later = w.due-is ∙ ap (λ (x : ℕ). get_or dues i 0 + x) period in
            passed_due _ _ _ _ _ _ _ _ _ _ _ _ _ p place w.if-due-at.true
            (ap (λ (s : Steps). s.due) w.self-is ∙ ap (λ (x : ℕ). set dues i (get_or dues i 0 + x)) period)
            (w.demand-is ∙ ap (λ (x : ℕ). c.loop-i.demand + x) work)
            (least ∙ ap (λ (x : ℕ). min c.loop-i.next x) later) later
        | else-due-at w ↦ passed_later _ _ _ _ _ _ _ _ _ _ _ _ _ p w.if-due-at.false (ap (λ (s : Steps). s.due) w.self-is) w.demand-is w.due-is
            (least ∙ ap (λ (x : ℕ). min c.loop-i.next x) w.due-is)
      ],
      elim c.if-due-at.branch [
        | then-due-at w ↦ ap (λ (s : Steps). s.count) w.self-is ∙ c.loop-i.invariant.2
        | else-due-at w ↦ ap (λ (s : Steps). s.count) w.self-is ∙ c.loop-i.invariant.2
      ],
      elim c.if-due-at.branch [
        | then-due-at w ↦ ap (λ (s : Steps). s.period) w.self-is ∙ c.loop-i.invariant.3
        | else-due-at w ↦ ap (λ (s : Steps). s.period) w.self-is ∙ c.loop-i.invariant.3
      ],
      elim c.if-due-at.branch [
        | then-due-at w ↦ ap (λ (s : Steps). s.work) w.self-is ∙ c.loop-i.invariant.4
        | else-due-at w ↦ ap (λ (s : Steps). s.work) w.self-is ∙ c.loop-i.invariant.4
      ],
    )

pub returns : goal.returns
returns c =
    let s = c.args.self.now in
    let v = c.loop-i.invariant in
    let all : c.loop-i.i ≡ s.count = le_antisymm c.loop-i.auto.i-end c.loop-i-test.false in
    record {
      count = v.2;
      period = v.3;
      work = v.4;
      passed = subst (λ (n : ℕ). Passed (column s.period) (column s.work) s.due c.loop-i.self.due n s.at s.demand c.loop-i.demand c.loop-i.next) all v.1;
      tells = refl;
    }
