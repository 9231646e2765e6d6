-- `judge::scan::scan` meets its contract. The loop's invariant: the walk is over the tasks, and what is found is the first short instant and the
-- tightest step instant before its next one, and where the tightest is short a short one is found. The measure is what is left of the instants.
use Prim.Native.Nat.{ℕ, suc, ◌≤◌}
use mathlib.Core.Path.{sym, ◌∙◌, ap, subst}
use native.Mathlib.Omega.{arith}
use Rattle.std.specs.Prelude.{None}
use Rattle.budget.specs.Limits.{limit}
use Rattle.budget.proofs.Valid.{valid_interface_lem}
use Rattle.judge.specs.declared.steps.Step.{Step}
use Rattle.judge.specs.inner.Tried.{short_tried, tight_tried}
use Rattle.judge.proofs.MarginLaws.{Best, best_start, best_next, best_small, demand_small}
use Rattle.judge.proofs.StepLaws.{Moved, carried_start, carried_steppable, moved}
use Rattle.judge.proofs.VerdictLaws.{Sought, fits_start, sought_next, sought_end}
use Rattle.judge.proofs.scan.scan.Goals as goal
use Rattle.judge.proofs.scan.scan.Goals.{After-pass-step}

in_limit : (a : After-pass-step) → a.loop-steps.steps.at ≤ limit
in_limit a = omega (arith, a.loop-steps-test.true, a.requires.bounded)

-- the step taken in this turn
on : (a : After-pass-step) → Moved a.args.tasks.now a.loop-steps.invariant.0.before a.pass-step.new.self a.pass-step.result
on a = moved _ a.requires.tasks _ a.loop-steps.invariant.0 (in_limit a) _ _ a.pass-step.ensures

pub loop-steps-init : goal.loop-steps-init
loop-steps-init c =
    let pre = c.requires in (
      carried_start _ pre.tasks _ c.new-steps.ensures,
      subst (λ (at : ℕ). Sought c.args.tasks.now c.args.interface c.args.length.0 at None) (sym c.new-steps.ensures.at) (fits_start _ _),
      subst (λ (at : ℕ). Best c.args.tasks.now c.args.interface c.args.length.0 at None) (sym c.new-steps.ensures.at) (best_start _ _ _),
      record {},
    )

pub pass-step-requires : goal.pass-step-requires
pass-step-requires c =
    carried_steppable _ c.requires.tasks _ c.loop-steps.invariant.0 c.requires.few (omega (arith, c.loop-steps-test.true, c.requires.bounded))

pub try_instant-found-requires : goal.try_instant-found-requires
try_instant-found-requires c =
    let a = (goal.at.try_instant-found-requires c).After-pass-step in
    let pre = c.requires in
    let is = (on a).tells in
    let h : suc c.loop-steps.invariant.0.before ≤ limit = omega (arith, in_limit a, c.loop-steps.invariant.0.is) in
    record {
      tells = c.loop-steps.invariant.3;
      triable = record {
        supplied = record { interface = pre.interface; bounded = omega (arith, h, ap (λ (s : Step). s.at) is) };
        asked_fits = omega (arith, demand_small _ c.args.interface pre.tasks pre.few _ h, ap (λ (s : Step). s.demand) is);
        best_fits = best_small _ _ pre.tasks (valid_interface_lem _ pre.interface) pre.few _ _ _ pre.bounded c.loop-steps.invariant.2;
      };
    }

pub loop-steps-smaller : goal.loop-steps-smaller
loop-steps-smaller c =
    omega (arith, c.loop-steps-test.true, c.loop-steps.invariant.0.is, (on (goal.at.loop-steps-smaller c).After-pass-step).later)

pub loop-steps-preserved : goal.loop-steps-preserved
loop-steps-preserved c =
    let m = on (goal.at.loop-steps-preserved c).After-pass-step in
    let k = c.loop-steps.invariant in
    let i = c.args.interface in
    let h : suc k.0.before ≤ c.args.length.0 = omega (arith, c.loop-steps-test.true, k.0.is) in
    let short = c.try_instant-found.ensures.short ∙ ap (λ (s : Step). short_tried c.loop-steps.found.short i s) m.tells in
    let tight = c.try_instant-found.ensures.tight ∙ ap (λ (s : Step). tight_tried c.loop-steps.found.tight i s) m.tells in (
      m.carried,
      sought_next _ _ c.requires.tasks (valid_interface_lem _ c.requires.interface) _ _ _ h m.still _ _ short
          (subst (λ (at : ℕ). Sought c.args.tasks.now i c.args.length.0 at c.loop-steps.found.short) k.0.is k.1),
      best_next _ _ _ _ _ _ _ h m.later (subst (λ (at : ℕ). Best c.args.tasks.now i c.args.length.0 at c.loop-steps.found.tight) k.0.is k.2) m.still tight,
      c.try_instant-found.ensures.tells,
    )

pub returns-clause-short : goal.returns-clause-short
returns-clause-short c = sought_end _ _ _ _ _ c.loop-steps-test.false c.loop-steps.invariant.1

pub returns-clause-tight : goal.returns-clause-tight
returns-clause-tight c = let b = c.loop-steps.invariant.2 in b.tight _ b.reached c.loop-steps-test.false
