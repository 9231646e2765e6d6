-- What a component that is not refused is known to be, and how the refusals of its ranges, of its stored value and of its common period make up its
-- refusal.
use Prim.Native.Nat.{ℕ, ◌≤◌}
use mathlib.Core.Path.{◌≡◌, refl, ◌∙◌}
use mathlib.Core.Bool.{Bool, true, false, cond}
use native.Mathlib.Omega.{arith}
use lib.Dec.{leb, ltb}
use borrow.Author.Tests.{ltb-false, le-ltb, leb-true}
use Rattle.budget.specs.declared.component.Component.{Component}
use Rattle.budget.specs.declared.task.Table.{Table}
use Rattle.budget.specs.Component.{Right, interface_of, is_right, valid_component, range_refusal, held_refusal, component_refusal, common_period_of}
use Rattle.budget.specs.Interface.{valid_interface}
use Rattle.budget.specs.Limits.{limit, most_tasks}
use Rattle.budget.specs.Refusal as refusal
use Rattle.budget.specs.Task.{table_refusal, tasks_of, valid_tasks}
use Rattle.budget.proofs.CommonLaws.{right, is_right_lem}
use Rattle.budget.proofs.Valid.{both}

-- every number of the component is in its range
pub record InRange (k : Component) : Type 0 where
  pub count : k.table.count ≤ most_tasks
  pub interface : valid_interface (interface_of k) ≡ true
  pub tasks : valid_tasks (tasks_of k.table) ≡ true

-- the tests of the ranges, by their outcomes; `over` stands for a table of too many tasks, or of too many for one more
abbrev pub ranges : Bool → Bool → ℕ
ranges over valid = cond over refusal.tasks (cond valid refusal.none refusal.range)

abbrev pub holds : Bool → Bool → Bool → ℕ → ℕ
holds over valid kept n = cond over refusal.tasks (cond valid (cond kept n refusal.common) refusal.range)

pub ranges_passed : (over valid : Bool) → ranges over valid ≡ refusal.none → (over ≡ false) × (valid ≡ true)
ranges_passed true valid e = absurd (omega (arith, e))
ranges_passed false true e = (refl, refl)
ranges_passed false false e = absurd (omega (arith, e))

-- whatever is asked after them, failed ranges decide
pub ranges_failed : (over valid : Bool) (n : ℕ) → (ranges over valid ≡ refusal.none → ⊥) → cond over refusal.tasks (cond valid n refusal.range) ≡ ranges over valid
ranges_failed true valid n h = refl
ranges_failed false true n h = absurd (h refl)
ranges_failed false false n h = refl

-- what is asked after the stored value is answered where all before it have passed, and what they are refused for decides else
pub asked_passed : (over valid kept : Bool) (n : ℕ) → holds over valid kept n ≡ refusal.none → (ranges over valid ≡ refusal.none) × (kept ≡ true) × (n ≡ refusal.none)
asked_passed true valid kept n e = absurd (omega (arith, e))
asked_passed false true true n e = (refl, refl, e)
asked_passed false true false n e = absurd (omega (arith, e))
asked_passed false false kept n e = absurd (omega (arith, e))

held_failed : (over valid kept : Bool) (n : ℕ) → (holds over valid kept refusal.none ≡ refusal.none → ⊥) → holds over valid kept n ≡ holds over valid kept refusal.none
held_failed true valid kept n h = refl
held_failed false true true n h = absurd (h refl)
held_failed false true false n h = refl
held_failed false false kept n h = refl

limit_passed : (b : Bool) → cond b refusal.none refusal.long ≡ refusal.none → b ≡ true
limit_passed true e = refl
limit_passed false e = absurd (omega (arith, e))

-- a table is not refused exactly where its count and its tasks are in range
pub table_in_range : (t : Table) → table_refusal t ≡ refusal.none → (t.count ≤ most_tasks) × (valid_tasks (tasks_of t) ≡ true)
unfolding table_refusal
table_in_range t e =
    let p = ranges_passed (ltb most_tasks t.count) (valid_tasks (tasks_of t)) e in
    (ltb-false _ _ p.0, p.1)

pub table_range_in : (t : Table) → t.count ≤ most_tasks → valid_tasks (tasks_of t) ≡ true → table_refusal t ≡ refusal.none
unfolding table_refusal
table_range_in t h e = rw (le-ltb _ _ h, e)

-- the ranges are not refused exactly where they hold
pub in_range : (k : Component) → range_refusal k ≡ refusal.none → InRange k
unfolding range_refusal valid_component
in_range k e =
    let p = ranges_passed (ltb most_tasks k.table.count) (valid_component k) e in
    let v = both (valid_interface (interface_of k)) _ p.1 in
    record { count = ltb-false _ _ p.0; interface = v.0; tasks = v.1 }

-- what the ranges are refused for a component is refused for, whatever is asked of it after them
pub refused_first : (k : Component) (n : ℕ) → (range_refusal k ≡ refusal.none → ⊥) → cond (ltb most_tasks k.table.count) refusal.tasks (cond (valid_component k) n refusal.range) ≡ range_refusal k
unfolding range_refusal
refused_first k n h = ranges_failed (ltb most_tasks k.table.count) (valid_component k) n h

pub asked_next : (k : Component) (n : ℕ) → InRange k → cond (ltb most_tasks k.table.count) refusal.tasks (cond (valid_component k) n refusal.range) ≡ n
unfolding valid_component
asked_next k n v = rw (le-ltb _ _ v.count, v.interface, v.tasks)

pub range_in : (k : Component) → InRange k → range_refusal k ≡ refusal.none
unfolding range_refusal
range_in k v = asked_next k refusal.none v

-- ---- the stored value is asked next
module _ (k : Component) where
  pub held_range : (range_refusal k ≡ refusal.none → ⊥) → held_refusal k ≡ range_refusal k
  unfolding held_refusal
  held_range h = refused_first k _ h

  -- where the stored value is right, the ranges are all there is
  pub right_held : Right k → held_refusal k ≡ range_refusal k
  unfolding held_refusal range_refusal
  right_held r = rw (is_right_lem k r)

  pub held_next : InRange k → held_refusal k ≡ cond (is_right k) refusal.none refusal.common
  unfolding held_refusal
  held_next v = asked_next k _ v

  -- a component that passes is in its ranges and stores what is right, and conversely
  pub held : held_refusal k ≡ refusal.none → InRange k × Right k
  unfolding held_refusal range_refusal
  held e =
      let p = asked_passed (ltb most_tasks k.table.count) (valid_component k) (is_right k) refusal.none e in
      (in_range k p.0, right k p.1)

  pub held_in : InRange k → Right k → held_refusal k ≡ refusal.none
  held_in v r = rw (held_next v, is_right_lem k r)

  -- what it is refused for is refused first, whatever is asked after it
  pub held_first : (n : ℕ) → (held_refusal k ≡ refusal.none → ⊥) → cond (ltb most_tasks k.table.count) refusal.tasks (cond (valid_component k) (cond (is_right k) n refusal.common) refusal.range) ≡ held_refusal k
  unfolding held_refusal
  held_first n h = held_failed (ltb most_tasks k.table.count) (valid_component k) (is_right k) n h

-- ---- and then the common period
module _ (k : Component) where
  pub refused_held : (held_refusal k ≡ refusal.none → ⊥) → component_refusal k ≡ held_refusal k
  unfolding component_refusal
  refused_held h = held_first k _ h

  pub refused_range : (range_refusal k ≡ refusal.none → ⊥) → component_refusal k ≡ range_refusal k
  unfolding component_refusal
  refused_range h = refused_first k _ h

  pub refused_period : InRange k → Right k → component_refusal k ≡ cond (leb (common_period_of k) limit) refusal.none refusal.long
  unfolding component_refusal
  refused_period v r = asked_next k _ v ∙ rw (is_right_lem k r)

  -- a component that is not refused is in its ranges, and its common period is within the limit
  pub unrefused : component_refusal k ≡ refusal.none → InRange k × (common_period_of k ≤ limit)
  unfolding range_refusal component_refusal
  unrefused e =
      let p = asked_passed (ltb most_tasks k.table.count) (valid_component k) (is_right k) _ e in
      (in_range k p.0, leb-true _ _ (limit_passed _ p.2))
