-- What the answer on a component's common period shows: the refusal that every answer about the component gives, or L and numbers in their ranges.
use Prim.Native.Nat.{ℕ, ◌≤◌}
use mathlib.Core.Path.{◌≡◌, sym, ◌∙◌, ap, subst}
use mathlib.Core.Bool.{true, cond}
use lib.Dec.{eqb}
use borrow.Author.Tests.{eq-eqb, ne_eqb}
use lib.ListN.{length, length-take}
use native.Mathlib.Omega.{arith}
use Rattle.budget.specs.Answered.{CommonPeriod}
use Rattle.budget.specs.declared.component.Capacity.{Capacity}
use Rattle.budget.specs.declared.component.Capacity.TheVariants.{Stated}
use Rattle.budget.specs.declared.component.Component.{Component}
use Rattle.budget.specs.declared.quantity.Units.{Units}
use Rattle.budget.specs.Component.{units_of, interface_of, interface_at, common_period_of, component_refusal, common_period_answer}
use Rattle.budget.specs.Interface.{valid_interface}
use Rattle.budget.specs.Limits.{most_tasks}
use Rattle.budget.specs.Refusal as refusal
use Rattle.budget.specs.Task.{tasks_of}
use Rattle.budget.proofs.Ranges.{unrefused}
use Rattle.budget.proofs.Valid.{valid_interface_lem}
use Rattle.judge.proofs.CapacityLaws.{capacity_valid}
use Rattle.judge.specs.inner.Scan.{Scannable}
use Rattle.judge.specs.inner.Whole.{Whole}

module _ (c : Component) where
  -- a component that is not refused has every capacity up to its deadline in range
  pub in_range_at : component_refusal c ≡ refusal.none → (q : ℕ) → q ≤ c.deadline.0 → valid_interface (interface_at c q) ≡ true
  unfolding interface_of
  in_range_at e q h = capacity_valid c.period.0 c.deadline.0 (units_of c.capacity) (unrefused c e).0.interface q h

  -- and its stated capacity is one of them
  pub stated_fits : component_refusal c ≡ refusal.none → (u : Units) → c.capacity ≡ Stated u → u.0 ≤ c.deadline.0
  unfolding interface_of
  stated_fits e u is = subst (λ (a : Capacity). units_of a ≤ c.deadline.0) is (valid_interface_lem (interface_of c) (unrefused c e).0.interface).fits

  pub few : component_refusal c ≡ refusal.none → length (tasks_of c.table) ≤ most_tasks
  unfolding tasks_of
  few e = omega (arith, length-take c.table.count c.table.tasks, (unrefused c e).0.count)

  pub scannable : (n : ℕ) → Whole c n → (q : ℕ) → q ≤ c.deadline.0 → Scannable (tasks_of c.table) (interface_at c q) n
  scannable n w q h =
      let v = unrefused c w.passes in
      record { few = few w.passes; tasks = v.0.tasks; interface = in_range_at w.passes q h; bounded = omega (arith, v.1, w.is) }

  module _ (r : CommonPeriod) (is : r ≡ common_period_answer c) where
    pub refused : component_refusal c ≡ r.refusal
    unfolding common_period_answer
    refused = sym (ap (λ (x : CommonPeriod). x.refusal) is)

    length_is : r.refusal ≡ refusal.none → r.length.0 ≡ common_period_of c
    unfolding common_period_answer
    length_is e = ap (λ (x : CommonPeriod). x.length.0) is ∙ rw (eq-eqb (component_refusal c) refusal.none (refused ∙ e))

    pub whole : r.refusal ≡ refusal.none → Whole c r.length.0
    whole e = record { passes = refused ∙ e; is = length_is e }

-- an answer about a component is its refusal, or what follows where it is not refused
pub answer_refused : {A : Type 0} (n m : ℕ) (x : A) (f : ℕ → A) → n ≡ m → (m ≡ refusal.none → ⊥) → cond (eqb n refusal.none) x (f n) ≡ f m
answer_refused n m x f e h = rw (e, ne_eqb m 0 h)

pub answer_given : {A : Type 0} (n : ℕ) (x y : A) → n ≡ refusal.none → cond (eqb n refusal.none) x y ≡ x
answer_given n x y e = rw (eq-eqb n 0 e)
