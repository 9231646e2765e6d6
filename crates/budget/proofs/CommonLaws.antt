-- Laws of the stored common period: it grows task by task along a table, the test of it passes nothing but the right value, what the operations return
-- is right, and of numbers in their ranges it is L, or the mark where L is above the limit, as a multiple above it never falls back.
use Prim.Native.Nat.{ℕ, ◌≤◌, ◌<◌}
use mathlib.Core.Path.{◌≡◌, refl, sym, ◌∙◌, ap}
use mathlib.Core.Bool.{Bool, true, false, false≢true}
use mathlib.Core.List.{List, [], ◌∷◌, ◌++◌}
use native.Mathlib.Nat.{lt_of_lt_of_le}
use lib.Dec.{leb}
use borrow.Author.Tests.{leb-true, leb-false, le-leb, lt-leb, eqb-true, eq-eqb}
use Rattle.budget.specs.declared.common.Common.{Common}
use Rattle.budget.specs.declared.common.Common.TheVariants.{Within, Above}
use Rattle.budget.specs.declared.component.Component.{Component}
use Rattle.budget.specs.declared.task.Task.{Task}
use Rattle.budget.specs.Common.{capped, grown, grown_by, common_of, same_common}
use Rattle.budget.specs.CommonPeriod.{common_multiple, common_period}
use Rattle.budget.specs.Component.{Right, is_right, refused, with_tasks}
use Rattle.budget.specs.Edit.{added}
use Rattle.budget.specs.Limits.{limit}
use Rattle.budget.specs.Task.{T, valid_tasks}
use Rattle.budget.proofs.CommonPeriodLaws.{common_grows, first_positive}
use Rattle.budget.proofs.TableLaws.{tasks_of_table}
use Rattle.budget.proofs.Valid.{valid_tail}

-- ---- tasks one after the other

pub grown_by_lem : (s : Common) (ks js : List Task) → grown_by s (ks ++ js) ≡ grown_by (grown_by s ks) js
unfolding grown_by
grown_by_lem s [] js = refl
grown_by_lem s (k ∷ ks) js = grown_by_lem (grown s (T k)) ks js

-- a task added is one common multiple more
pub common_added : (p : ℕ) (ks : List Task) (k : Task) → common_of p (added ks k) ≡ grown (common_of p ks) (T k)
unfolding common_of added grown_by
common_added p ks k = grown_by_lem (capped p) ks (k ∷ [])

-- ---- the test

same_common_lem : (a b : Common) → same_common a b ≡ true → a ≡ b
unfolding same_common
same_common_lem (Within a) (Within b) e = ap (λ (n : ℕ). Within (record { 0 = n })) (eqb-true a.0 b.0 e)
same_common_lem (Within a) Above e = absurd (false≢true e)
same_common_lem Above (Within b) e = absurd (false≢true e)
same_common_lem Above Above e = refl

common_same : (a : Common) → same_common a a ≡ true
unfolding same_common
common_same (Within a) = eq-eqb a.0 a.0 refl
common_same Above = refl

pub right : (c : Component) → is_right c ≡ true → Right c
unfolding is_right
right c e = same_common_lem _ _ e

pub is_right_lem : (c : Component) → Right c → is_right c ≡ true
unfolding is_right
is_right_lem c e = rw e (common_same _)

-- ---- what is returned

pub with_tasks_right : (c : Component) (ks : List Task) → Right (with_tasks c ks)
unfolding with_tasks
with_tasks_right c ks = ap (common_of c.period.0) (sym (tasks_of_table ks))

pub refused_right : Right refused
unfolding refused common_of grown_by capped
refused_right = ap (grown_by (capped 1)) (sym (tasks_of_table []))

-- ---- what it says

pub capped_within : (l : ℕ) → l ≤ limit → capped l ≡ Within (record { 0 = l })
unfolding capped
capped_within l h = rw (le-leb l limit h)

pub capped_above : (l : ℕ) → limit < l → capped l ≡ Above
unfolding capped
capped_above l h = rw (lt-leb l limit h)

stays_above : (ks : List Task) → grown_by Above ks ≡ Above
unfolding grown_by grown
stays_above [] = refl
stays_above (k ∷ ks) = stays_above ks

-- a period within the limit is grown, one above it stays above, as the common period does
pub common_is : (p : ℕ) (ks : List Task) → 1 ≤ p → valid_tasks ks ≡ true → common_of p ks ≡ capped (common_period p ks)
unfolding common_of grown_by grown common_period
common_is p [] h e = refl
common_is p (k ∷ ks) h e = by (leb p limit) refl (common_is (common_multiple p (T k)) ks (first_positive p k ks h e) (valid_tail k ks e))
  where
    by : (b : Bool) → leb p limit ≡ b → grown_by (capped (common_multiple p (T k))) ks ≡ capped (common_period (common_multiple p (T k)) ks)
        → grown_by (grown (capped p) (T k)) ks ≡ capped (common_period (common_multiple p (T k)) ks)
    by true l next = rw (capped_within p (leb-true p limit l)) next
    by false l next =
        rw (capped_above p (leb-false p limit l))
        (stays_above ks ∙ sym (capped_above _ (lt_of_lt_of_le (leb-false p limit l) (common_grows p (k ∷ ks) h e))))
