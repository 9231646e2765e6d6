-- What the judge stands on, by the laws of the common period, of demand and supply and of the edits; the stored value, since it is L or the mark.
use Prim.Native.Nat.{ℕ, ◌≤◌}
use mathlib.Core.Bool.{Bool, true, false}
use mathlib.Core.List.{List}
use mathlib.Core.Path.{◌≡◌, refl, sym, ◌∙◌}
use borrow.Author.Tests.{eq-eqb, leb-false, leb-true}
use lib.Dec.{leb}
use native.Mathlib.Nat.{le_antisymm, le_of_dvd, le_of_lt, lt_of_lt_of_le}
use native.Mathlib.Omega.{arith}
use Rattle.budget.specs.declared.common.Common.{Common}
use Rattle.budget.specs.declared.common.Common.TheVariants.{Within, Above}
use Rattle.budget.specs.declared.component.Component.{Component}
use Rattle.budget.specs.declared.interface.Interface.{Interface}
use Rattle.budget.specs.declared.task.Task.{Task}
use Rattle.budget.specs.Common.{capped}
use Rattle.budget.specs.CommonPeriod.{common_period}
use Rattle.budget.specs.Component.{Same, common_period_answer, common_period_of, held_refusal, interface_of, is_right, valid_component}
use Rattle.budget.specs.Edit.{edited}
use Rattle.budget.specs.Interface.{Π, valid_interface}
use Rattle.budget.specs.Limits.{limit}
use Rattle.budget.specs.Task.{tasks_of, valid_tasks}
use Rattle.budget.proofs.CommonLaws.{capped_above, capped_within, common_is}
use Rattle.budget.proofs.CommonPeriodLaws.{common_divides_at, common_divides_first, common_least, common_positive}
use Rattle.budget.proofs.DemandLaws.{demand_mono, demand_shift}
use Rattle.budget.proofs.EditLaws as EditLaws
use Rattle.budget.proofs.Periods.{period_positive, right_is}
use Rattle.budget.proofs.Ranges.{InRange, in_range, unrefused}
use Rattle.budget.proofs.SupplyLaws.{supply_mono}
use Rattle.budget.proofs.Valid.{valid_interface_lem}
use Rattle.judge.proofs.SameAnswers.{same_answers_judged}
use Rattle.promises.specs.Ground.{AddThenRemove, CommonPeriodLeast, DemandNeverFalls, DemandRepeats, LeastCommonMultiple, SameAnswers, StoredAlone, StoredMeans, StoredSays, SupplyNeverFalls}

period_some : (i : Interface) → valid_interface i ≡ true → 1 ≤ Π i
period_some i e = let v = valid_interface_lem i e in omega (arith, v.some, v.within)

least_multiple : (p : ℕ) (ks : List Task) → 1 ≤ p → valid_tasks ks ≡ true → LeastCommonMultiple p ks (common_period p ks)
least_multiple p ks some tasks =
    record {
      positive = common_positive p ks some tasks;
      multiple = record { period = common_divides_first p ks some tasks; tasks = common_divides_at p ks some tasks };
      least = λ m h x. le_of_dvd h (common_least p ks some tasks m x.period x.tasks);
      divides = λ m x. common_least p ks some tasks m x.period x.tasks;
    }

-- L of a component in its ranges
least_of : (c : Component) → InRange c → LeastCommonMultiple c.period.0 (tasks_of c.table) (common_period_of c)
unfolding common_period_of
least_of c v = least_multiple c.period.0 (tasks_of c.table) (period_positive c v) v.tasks

pub common_period_least : CommonPeriodLeast
unfolding common_period_answer
common_period_least c e = rw (eq-eqb _ _ e) (least_of c (unrefused c e).0)

module _ (p : ℕ) (ks : List Task) (l : ℕ) (x : LeastCommonMultiple p ks l) where
  -- the least common multiple as it is stored says what it has to
  capped_says : StoredSays p ks (capped l)
  capped_says = by (leb l limit) refl
    where
      by : (b : Bool) → leb l limit ≡ b → StoredSays p ks (capped l)
      by true e = rw (capped_within l (leb-true l limit e)) (x, leb-true l limit e)
      by false e = rw (capped_above l (leb-false l limit e)) (λ m h y. lt_of_lt_of_le (leb-false l limit e) (x.least m h y))

  -- and what says it is that, as each of two least common multiples is at most the other
  says_capped : (s : Common) → StoredSays p ks s → s ≡ capped l
  says_capped (Within k) y =
      let same : l ≡ k.0 = le_antisymm (x.least k.0 y.0.positive y.0.multiple) (y.0.least l x.positive x.multiple) in
      rw same (sym (capped_within k.0 y.1))
  says_capped Above y = sym (capped_above l (y l x.positive x.multiple))

pub stored_means : StoredMeans
stored_means c e right =
    let v = in_range c e in
    rw (right_is c v right) (capped_says c.period.0 (tasks_of c.table) (common_period_of c) (least_of c v))

pub stored_alone : StoredAlone
unfolding common_period_of
stored_alone c e s y =
    let v = in_range c e in
    says_capped c.period.0 (tasks_of c.table) (common_period_of c) (least_of c v) s y
    ∙ sym (common_is c.period.0 (tasks_of c.table) (period_positive c v) v.tasks)

pub demand_repeats : DemandRepeats
demand_repeats ks i tasks interface =
    demand_shift ks tasks (common_period (Π i) ks) (common_divides_at (Π i) ks (period_some i interface) tasks)

pub demand_never_falls : DemandNeverFalls
demand_never_falls = demand_mono

pub supply_never_falls : SupplyNeverFalls
supply_never_falls i e = supply_mono i (valid_interface_lem i e)

pub add_then_remove : AddThenRemove
unfolding edited
add_then_remove c k whole taken =
    let a = EditLaws.addable c k taken in
    (EditLaws.add_then_remove c k whole taken, EditLaws.returned_same c whole (le_of_lt a.room) a.common)

same_held : (a b : Component) → Same a b → held_refusal a ≡ held_refusal b
unfolding held_refusal valid_component is_right interface_of
same_held a b s = rw (s.tasks, s.count, s.period, s.capacity, s.deadline, s.common)

pub same_answers : SameAnswers
same_answers a b s =
    let budget = EditLaws.same_answers a b s in
    let judge = same_answers_judged a b s in
    record {
      held = same_held a b s;
      common_period = budget.common_period;
      demand = budget.demand;
      adding = budget.adding;
      removing = budget.removing;
      verdict = judge.verdict;
      margin = judge.margin;
      capacity = judge.capacity;
    }
