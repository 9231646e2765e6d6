-- What an accepting verdict says of a component, by the laws of the judge: its capacity, stated or found, is in range and is enough.
use Prim.Native.Nat.{ℕ}
use mathlib.Core.Bool.{true}
use mathlib.Core.List.{List}
use mathlib.Core.Path.{◌≡◌, refl, sym, ap, subst, ◌∙◌}
use native.Mathlib.Omega.{arith}
use lib.Dec.{eqb}
use borrow.Author.Tests.{eqb-false, eqb-true}
use Rattle.budget.specs.declared.component.Capacity.{Capacity}
use Rattle.budget.specs.declared.component.Capacity.TheVariants.{Asked, Stated}
use Rattle.budget.specs.declared.component.Component.{Component}
use Rattle.budget.specs.declared.interface.Interface.{Interface}
use Rattle.budget.specs.declared.quantity.Units.{Units}
use Rattle.budget.specs.declared.task.Task.{Task}
use Rattle.budget.specs.Component.{component_refusal, interface_at}
use Rattle.budget.specs.Interface.{valid_interface}
use Rattle.budget.specs.Refusal as refusal
use Rattle.budget.specs.Task.{tasks_of, valid_tasks}
use Rattle.budget.proofs.Ranges.{unrefused}
use Rattle.judge.specs.numbers.Judged.{Answered}
use Rattle.judge.specs.declared.answer.Verdict.TheVariants as Verdict
use Rattle.judge.specs.Judged.{verdict_answer}
use Rattle.judge.specs.Verdict.{Accepted}
use Rattle.judge.proofs.Whole.{in_range_at, stated_fits}
use Rattle.promises.specs.Demand3.{Promise}
use Rattle.promises.proofs.Demand3.{demand_3}
use Rattle.promises.proofs.Judging.{refused_alike, verdict_exactly}
use Rattle.record.proofs.Cases.{either}

-- tasks and an interface in range, and no instant short
pub record Fit (ks : List Task) (i : Interface) : Type 0 where
  pub tasks : valid_tasks ks ≡ true
  pub interface : valid_interface i ≡ true
  pub accepted : Accepted ks i

module _ (c : Component) (q : Units) (v : verdict_answer c ≡ Answered q Verdict.Accepted) where
  fit_at : component_refusal c ≡ refusal.none → (k : Capacity) → c.capacity ≡ k → Promise c k (Answered q Verdict.Accepted)
      → Fit (tasks_of c.table) (interface_at c q.0)
  fit_at e (Stated u) is h =
      let same : u ≡ q = sym h.0 in
      let answered : verdict_answer c ≡ Answered u Verdict.Accepted = v ∙ ap (λ (x : Units). Answered x Verdict.Accepted) h.0 in
      subst (λ (x : Units). Fit (tasks_of c.table) (interface_at c x.0)) same
      (record {
        tasks = (unrefused c e).0.tasks;
        interface = in_range_at c e u.0 (stated_fits c e u is);
        accepted = (verdict_exactly c e u is).accepted.0 answered;
      })
  fit_at e Asked is h =
      let smallest = h.0 in
      record { tasks = (unrefused c e).0.tasks; interface = in_range_at c e q.0 smallest.within; accepted = smallest.accepted }

  pub fit : Fit (tasks_of c.table) (interface_at c q.0)
  fit =
      either (eqb (component_refusal c) refusal.none)
      (λ b. let e = eqb-true (component_refusal c) refusal.none b in
      fit_at e c.capacity refl (subst (Promise c c.capacity) v (demand_3 c e).0))
      (λ b. let r = (refused_alike c (eqb-false (component_refusal c) refusal.none b)).0 in
      absurd (let z : ◌≡◌ {A = ℕ} 0 1 = cc (sym r ∙ v) in omega arith))
