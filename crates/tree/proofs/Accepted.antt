-- What the judge answers of a component: it is refused with its own refusal, and a capacity that it is accepted with lies within its deadline.
use Prim.Native.Nat.{ℕ, ◌≤◌}
use native.Mathlib.Omega.{arith}
use mathlib.Core.Bool.{true}
use mathlib.Core.Path.{◌≡◌, refl, sym, subst}
use lib.Dec.{leb, eqb}
use borrow.Author.Tests.{leb-true, eqb-true, eqb-false}
use Rattle.budget.specs.declared.component.Capacity.{Capacity}
use Rattle.budget.specs.declared.component.Capacity.TheVariants.{Stated, Asked}
use Rattle.budget.specs.declared.component.Component.{Component}
use Rattle.budget.specs.declared.quantity.Units.{Units}
use Rattle.budget.specs.Component.{component_refusal, interface_of, units_of}
use Rattle.budget.specs.Interface.{valid_interface}
use Rattle.budget.specs.Limits.{limit}
use Rattle.budget.specs.Refusal as refusal
use Rattle.budget.proofs.Ranges.{unrefused}
use Rattle.budget.proofs.Valid.{valid_interface_lem}
use Rattle.judge.specs.numbers.Judged.{Judged}
use Rattle.judge.specs.numbers.Judged.{Refused, Answered}
use Rattle.judge.specs.declared.answer.Verdict.{Verdict}
use Rattle.judge.specs.Capacity.{capacity_of}
use Rattle.judge.specs.Judged.{judged_at, verdict_answer}
use Rattle.record.proofs.Cases.{cases, either}
use Rattle.tree.specs.numbers.Load.{Load}
use Rattle.tree.specs.inner.Told.{Told, ToldBy}
use Rattle.tree.specs.Outcome.{outcome_of}

answer_not : (u : Units) (v : Verdict) (n : ℕ) → Answered u v ≡ Refused n → ⊥
answer_not u v n e = let z : ◌≡◌ {A = ℕ} 0 1 = cc in omega arith

judged_not : (c : Component) (q : Capacity) (n : ℕ) → judged_at c q ≡ Refused n → ⊥
unfolding judged_at
judged_not c (Stated u) n = answer_not _ _ n
judged_not c Asked n = cases (λ (x : Judged). x ≡ Refused n → ⊥) (leb (capacity_of c) c.deadline.0) (λ p. answer_not _ _ n) (λ p. answer_not _ _ n)

-- the judge refuses a component with the component's own refusal
pub refused_number : (c : Component) (n : ℕ) → verdict_answer c ≡ Refused n → (component_refusal c ≡ n) × (component_refusal c ≡ refusal.none → ⊥)
unfolding verdict_answer
refused_number c n =
    cases (λ (x : Judged). x ≡ Refused n → (component_refusal c ≡ n) × (component_refusal c ≡ refusal.none → ⊥))
    (eqb (component_refusal c) refusal.none)
    (λ p e. absurd (judged_not c c.capacity n e))
    (λ p e. (cc, eqb-false (component_refusal c) 0 p))

none_accepted : (u q : Units) → Answered u Verdict.None ≡ Answered q Verdict.Accepted → ⊥
none_accepted u q e = let z : ◌≡◌ {A = ℕ} 0 1 = cc in omega arith

same_units : (u q : Units) (v : Verdict) → Answered u v ≡ Answered q Verdict.Accepted → u.0 ≡ q.0
same_units u q v e = cc

-- an accepted capacity lies within the deadline, stated or found
judged_within : (c : Component) (a : Capacity) → units_of a ≤ c.deadline.0 → (q : Units) → judged_at c a ≡ Answered q Verdict.Accepted → q.0 ≤ c.deadline.0
unfolding judged_at
judged_within c (Stated u) h q = λ e. subst (λ (n : ℕ). n ≤ c.deadline.0) (same_units u q _ e) h
judged_within c Asked h q =
    cases (λ (x : Judged). x ≡ Answered q Verdict.Accepted → q.0 ≤ c.deadline.0) (leb (capacity_of c) c.deadline.0)
    (λ p e. subst (λ (n : ℕ). n ≤ c.deadline.0) (same_units _ q _ e) (leb-true _ _ p))
    (λ p e. absurd (none_accepted _ q e))

pub accepted_within : (c : Component) → valid_interface (interface_of c) ≡ true → (q : Units) → verdict_answer c ≡ Answered q Verdict.Accepted → q.0 ≤ c.deadline.0
unfolding verdict_answer interface_of
accepted_within c v q =
    cases (λ (x : Judged). x ≡ Answered q Verdict.Accepted → q.0 ≤ c.deadline.0) (eqb (component_refusal c) refusal.none)
    (λ p e. judged_within c c.capacity (valid_interface_lem _ v).fits q e)
    (λ p e. absurd (answer_not q Verdict.Accepted (component_refusal c) (sym e)))

-- so no capacity stands in place of one that is withheld
accepted_small : (c : Component) (q : Units) → verdict_answer c ≡ Answered q Verdict.Accepted → q.0 ≤ limit
unfolding verdict_answer interface_of
accepted_small c q e =
    either (eqb (component_refusal c) refusal.none)
    (λ p. let r = (unrefused c (eqb-true (component_refusal c) refusal.none p)).0.interface in
    let v = valid_interface_lem _ r in
    omega (arith, accepted_within c r q e, v.within, v.bounded))
    (λ p. absurd (answer_not q Verdict.Accepted (component_refusal c) (sym (rw p at e))))

told_by : (c : Component) (j : Judged) → verdict_answer c ≡ j → ToldBy j
told_by c (Refused n) e = tt
told_by c (Answered q Verdict.Accepted) e = omega (arith, accepted_small c q e)
told_by c (Answered q (Verdict.Short t)) e = tt
told_by c (Answered q Verdict.None) e = tt

pub told : (l : Load) → Told (outcome_of l)
unfolding outcome_of
told l = cases Told l.waiting (λ p. tt) (λ p. told_by l.component (verdict_answer l.component) refl)
