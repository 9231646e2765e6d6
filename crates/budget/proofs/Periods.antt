-- What the common period's operation answers: at a refusal nothing but that, and of a component in its ranges whose stored value is right what that value
-- says, since it is L or the mark.
use Prim.Native.Nat.{ℕ, ◌≤◌}
use mathlib.Core.Bool.{Bool, true, false, cond}
use mathlib.Core.Path.{◌≡◌, refl, ◌∙◌, ap}
use native.Mathlib.Nat.{le_trans}
use lib.Dec.{eqb, leb}
use borrow.Author.Tests.{ne_eqb, leb-true, leb-false}
use Rattle.budget.specs.declared.component.Component.{Component}
use Rattle.budget.specs.Common.{capped}
use Rattle.budget.specs.Component.{Right, component_refusal, common_period_answer, common_period_of, interface_of}
use Rattle.budget.specs.Limits.{limit}
use Rattle.budget.specs.Refusal as refusal
use Rattle.budget.specs.inner.Stored.{stored_answer}
use Rattle.budget.proofs.CommonLaws.{capped_within, capped_above, common_is}
use Rattle.budget.proofs.Ranges.{InRange, refused_period}
use Rattle.budget.proofs.Valid.{valid_interface_lem}

-- the answer at a refusal that is known
answered : (k : Component) (n : ℕ) → component_refusal k ≡ n → record { refusal = n; length = record { 0 = cond (eqb n refusal.none) (common_period_of k) 0 } } ≡ common_period_answer k
unfolding common_period_answer
answered k n e = rw e

pub refused_answer : (k : Component) (n : ℕ) → component_refusal k ≡ n → (n ≡ refusal.none → ⊥) → record { refusal = n; length = record { 0 = 0 } } ≡ common_period_answer k
refused_answer k n e h = rw (← answered k n e, ne_eqb n refusal.none h)

-- of a component in its ranges the period is positive
pub period_positive : (k : Component) → InRange k → 1 ≤ k.period.0
unfolding interface_of
period_positive k v = let i = valid_interface_lem (interface_of k) v.interface in le_trans i.some i.within

-- and what is right to store is L, or the mark
pub right_is : (k : Component) → InRange k → Right k → k.common ≡ capped (common_period_of k)
unfolding common_period_of
right_is k v r = r ∙ common_is _ _ (period_positive k v) v.tasks

pub stored_answer_lem : (k : Component) → InRange k → Right k → stored_answer k.common ≡ common_period_answer k
unfolding stored_answer
stored_answer_lem k v r = by (leb (common_period_of k) limit) refl
  where
    by : (b : Bool) → leb (common_period_of k) limit ≡ b → stored_answer k.common ≡ common_period_answer k
    by true e = ap stored_answer (right_is k v r ∙ capped_within _ (leb-true _ _ e)) ∙ answered k refusal.none (refused_period k v r ∙ rw e)
    by false e = ap stored_answer (right_is k v r ∙ capped_above _ (leb-false _ _ e)) ∙ answered k refusal.long (refused_period k v r ∙ rw e)
