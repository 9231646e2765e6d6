-- The reply on a component that is answered none has nothing but its number and code: only an asked capacity is answered none, and then there is no margin.
use Prim.Native.Nat.{ℕ}
use mathlib.Core.Bool.{Bool, true, false, cond}
use mathlib.Core.Path.{◌≡◌, refl}
use native.Mathlib.Omega.{arith}
use lib.Dec.{leb, eqb}
use Rattle.budget.specs.declared.component.Capacity.{Capacity}
use Rattle.budget.specs.declared.component.Capacity.TheVariants.{Stated, Asked}
use Rattle.budget.specs.declared.component.Component.{Component}
use Rattle.budget.specs.declared.quantity.Time.{Time}
use Rattle.budget.specs.declared.quantity.Units.{Units}
use Rattle.budget.specs.Component.{interface_at, common_period_of, component_refusal}
use Rattle.budget.specs.Task.{tasks_of}
use Rattle.judge.specs.numbers.Judged.{Answered}
use Rattle.judge.specs.numbers.Margined.{Margined}
use Rattle.judge.specs.numbers.Margined as NoMargin
use Rattle.judge.specs.declared.answer.Verdict.TheVariants as Variant
use Rattle.judge.specs.Answer.{answer_at}
use Rattle.judge.specs.Capacity.{capacity_of}
use Rattle.judge.specs.Judged.{code_of, judged_at, verdict_answer}
use Rattle.judge.specs.Margin.{margin_on, margined_at, margin_answer}
use Rattle.judge.specs.Verdict.{accepts, first_short, verdict_on}
use Rattle.jougsilver.specs.Answer.{verdict_in, judged_reply, bare_reply, NoneIsZero}

stated_never : (b : Bool) (t : Time) → code_of (cond b Variant.Accepted (Variant.Short t)) ≡ 2 → ⊥
stated_never true t e = omega (arith, e)
stated_never false t e = omega (arith, e)

asked_none : (b : Bool) (u : Units) (m : Margined) (n : ℕ) → code_of (verdict_in (cond b (Answered u Variant.Accepted) (Answered (record { 0 = 0 }) Variant.None))) ≡ 2
    → judged_reply n (record { verdict = cond b (Answered u Variant.Accepted) (Answered (record { 0 = 0 }) Variant.None); margin = cond b m NoMargin.None }) ≡ bare_reply n 2
unfolding judged_reply
asked_none true u m n e = absurd (omega (arith, e))
asked_none false u m n e = refl

at_none : (c : Component) (k : Capacity) (n : ℕ) → code_of (verdict_in (answer_at c k).verdict) ≡ 2 → judged_reply n (answer_at c k) ≡ bare_reply n 2
unfolding judged_at margined_at verdict_on
at_none c (Stated u) n e =
    let i = interface_at c u.0 in
    absurd (stated_never (accepts (tasks_of c.table) i (common_period_of c)) (record { 0 = first_short (tasks_of c.table) i (common_period_of c) }) e)
at_none c Asked n e =
    asked_none (leb (capacity_of c) c.deadline.0) (record { 0 = capacity_of c }) (margin_on (tasks_of c.table) (interface_at c (capacity_of c)) (common_period_of c)) n e

taken : {A : Type 0} (n : ℕ) (x y : A) → n ≡ 0 → cond (eqb n 0) x y ≡ x
taken n x y e = rw e

pub none_is_zero : NoneIsZero
unfolding verdict_answer margin_answer
none_is_zero c r e =
    rw (taken (component_refusal c) _ _ r, taken (component_refusal c) _ _ r)
    (at_none c c.capacity c.number (rw (taken (component_refusal c) _ _ r) at e))
