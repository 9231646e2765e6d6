-- `judge::capacity::least_capacity` meets its contract. The loop's invariant: the walk is over the component's tasks, the capacity fits at every instant
-- before its next one, and every smaller capacity is short. The measure is what is left of the instants.
use Prim.Native.Nat.{ℕ, suc, ◌≤◌}
use mathlib.Core.Path.{◌≡◌, sym, ap, subst}
use mathlib.Core.List.{List}
use native.Mathlib.Omega.{arith}
use Rattle.std.specs.Prelude.{None}
use Rattle.budget.specs.declared.interface.Interface.{Interface}
use Rattle.budget.specs.declared.task.Task.{Task}
use Rattle.budget.specs.Limits.{limit}
use Rattle.budget.specs.Task.{tasks_of}
use Rattle.judge.specs.declared.steps.Step.{Step}
use Rattle.judge.specs.inner.Raise.{Enough, Raised}
use Rattle.judge.specs.inner.Steps.{Begun}
use Rattle.judge.proofs.CapacityLaws.{Found, found_start, found_end, found_none, found_on, some_found, none_found}
use Rattle.judge.proofs.StepLaws.{Moved, carried_start, carried_steppable, moved}
use Rattle.judge.proofs.Whole.{few, in_range_at, scannable}
use Rattle.judge.proofs.capacity.least_capacity.Goals as goal
use Rattle.judge.proofs.capacity.least_capacity.Goals.{After-pass-step}

in_limit : (a : After-pass-step) → a.instants.steps.at ≤ limit
in_limit a = omega (arith, a.if-judgeable-steps.false, (scannable _ _ a.args.judgeable.whole 0 (omega arith)).bounded)

-- the step taken in this turn
on : (a : After-pass-step) → Moved (tasks_of a.args.judgeable.component.table) a.instants.invariant.0.before a.pass-step.new.self a.pass-step.result
on a = moved _ (scannable _ _ a.args.judgeable.whole 0 (omega arith)).tasks _ a.instants.invariant.0 (in_limit a) _ _ a.pass-step.ensures

-- what is found before this turn's instant
before : (a : After-pass-step)
    → Found (tasks_of a.args.judgeable.component.table) a.args.judgeable.component.period.0 a.args.judgeable.component.deadline.0 a.args.judgeable.length.0 (suc a.instants.invariant.0.before) a.instants.capacity.0
before a =
    let k = a.args.judgeable.component in
    subst (λ (at : ℕ). Found (tasks_of k.table) k.period.0 k.deadline.0 a.args.judgeable.length.0 at a.instants.capacity.0) a.instants.invariant.0.is a.instants.invariant.1

-- what holds of an interface and a step holds of equal ones
same : (P : Interface → Step → Type 0) {i j : Interface} {s t : Step} → i ≡ j → s ≡ t → P i s → P j t
same P {j = j} {s = s} e f x = subst (λ (y : Step). P j y) f (subst (λ (y : Interface). P y s) e x)

pub new-steps-requires : goal.new-steps-requires
new-steps-requires c = rw c.tasks.ensures (few _ c.args.judgeable.whole.passes)

pub instants-init : goal.instants-init
instants-init c =
    let s = scannable _ _ c.args.judgeable.whole 0 (omega arith) in (
      carried_start _ s.tasks _ (subst (λ (ks : List Task). Begun ks c.new-steps.result) c.tasks.ensures c.new-steps.ensures),
      subst (λ (at : ℕ). Found (tasks_of c.args.judgeable.component.table) c.args.judgeable.component.period.0 c.args.judgeable.component.deadline.0 c.args.judgeable.length.0 at 0)
          (sym c.new-steps.ensures.at) (found_start _ _ _ _),
    )

pub pass-step-requires : goal.pass-step-requires
pass-step-requires c =
    let s = scannable _ _ c.args.judgeable.whole 0 (omega arith) in
    carried_steppable _ s.tasks _ c.instants.invariant.0 s.few (omega (arith, c.if-judgeable-steps.false, s.bounded))

pub raised-requires : goal.raised-requires
raised-requires c =
    let a = (goal.at.raised-requires c).After-pass-step in
    record {
      interface = rw c.interface_at.ensures (in_range_at _ c.args.judgeable.whole.passes _ c.instants.invariant.1.within);
      bounded = omega (arith, in_limit a, c.instants.invariant.0.is, ap (λ (s : Step). s.at) (on a).tells);
    }

pub instants-smaller : goal.instants-smaller
instants-smaller c =
    omega (arith, c.if-judgeable-steps.false, c.instants.invariant.0.is, (on (goal.at.instants-smaller c).After-pass-step).later)

pub instants-preserved : goal.instants-preserved
instants-preserved c =
    let a = (goal.at.instants-preserved c).After-pass-step in
    let m = on a in
    let h : suc c.instants.invariant.0.before ≤ c.args.judgeable.length.0 = omega (arith, c.if-judgeable-steps.false, c.instants.invariant.0.is) in
    let valid = in_range_at _ c.args.judgeable.whole.passes _ c.instants.invariant.1.within in
    let enough = same (λ i s. Enough i s.at s.demand c.in-Some.enough.0) c.interface_at.ensures m.tells c.in-Some.ensures in
    (m.carried, found_on _ _ _ _ _ _ (before a) (omega arith) h _ valid _ enough _ m.still)

pub returns-then-judgeable-steps : goal.returns-then-judgeable-steps
returns-then-judgeable-steps c =
    some_found _ _ c.args.judgeable.whole.is _ (found_end _ _ _ _ _ _ c.instants.invariant.1 c.if-judgeable-steps.true) c.instants.invariant.1.within

pub returns-in_default : goal.returns-in_default
returns-in_default c =
    let a = (goal.at.returns-in_default c).After-pass-step in
    let m = on a in
    let h : suc c.instants.invariant.0.before ≤ c.args.judgeable.length.0 = omega (arith, c.if-judgeable-steps.false, c.instants.invariant.0.is) in
    let short = same (λ i s. Raised i s.at s.demand None) c.interface_at.ensures m.tells c.in_default.ensures in
    none_found _ _ c.args.judgeable.whole.is _ (found_none _ _ _ _ _ _ (before a) (omega arith) h short) (omega arith)
