-- The answer of one call: refused in both parts or in none; at a capacity, read from what one scan finds; and for an asked capacity, that at the one found, since
-- the search answers one that is accepted.
use Prim.Native.Nat.{ℕ, ◌≤◌, ◌<◌, suc-le-suc}
use mathlib.Core.Path.{◌≡◌, refl, sym, ◌∙◌, ap, ap₂}
use mathlib.Core.Bool.{Bool, true, false, cond}
use mathlib.Core.List.{List}
use lib.Dec.{leb, eqb}
use borrow.Author.Tests.{le-leb, lt-leb, leb-true, leb-false, eq-eqb, ne_eqb}
use native.Mathlib.Omega.{arith}
use Rattle.std.specs.Prelude.{Option, Some, None, Ok}
use Rattle.std.proofs.lemmas.Option.{cond_some, none-some}
use Rattle.budget.specs.declared.component.Capacity.{Capacity}
use Rattle.budget.specs.declared.component.Capacity.TheVariants.{Stated, Asked}
use Rattle.budget.specs.declared.component.Component.{Component}
use Rattle.budget.specs.declared.interface.Interface.{Interface}
use Rattle.budget.specs.declared.quantity.Time.{Time}
use Rattle.budget.specs.declared.quantity.Units.{Units}
use Rattle.budget.specs.declared.task.Task.{Task}
use Rattle.budget.specs.Component.{interface_at, common_period_of, component_refusal}
use Rattle.budget.specs.Demand.{demand}
use Rattle.budget.specs.Refusal as refusal
use Rattle.budget.specs.Supply.{supply}
use Rattle.budget.specs.Task.{tasks_of}
use Rattle.judge.specs.declared.answer.Margin.{Margin}
use Rattle.judge.specs.declared.answer.Verdict.{Verdict}
use Rattle.judge.specs.declared.margin.Tight.{Tight}
use Rattle.judge.specs.numbers.Answer.{Answer}
use Rattle.judge.specs.numbers.Judged as Judged
use Rattle.judge.specs.numbers.Margined.{Margined}
use Rattle.judge.specs.numbers.Smallest as Smallest
use Rattle.judge.specs.Answer.{answer_at, judge_answer, judgement_in}
use Rattle.judge.specs.Capacity.{smallest_capacity, smallest_in, capacity_answer, capacity_of}
use Rattle.judge.specs.Judged.{judged_at, verdict_answer}
use Rattle.judge.specs.Margin.{margin_at, margin_in, margin_on, margined_at, margin_answer, tight_instant}
use Rattle.judge.specs.Verdict.{accepts, first_short, verdict_on}
use Rattle.judge.specs.inner.Tried.{margin_from, short_on, tight_on, verdict_from}
use Rattle.judge.specs.inner.Whole.{capacity_found}
use Rattle.judge.proofs.SearchLaws.{smallest_is}

-- what a scan finds is all that the verdict and the margin need
module _ (ks : List Task) (i : Interface) (n : ℕ) where
  verdict_read : verdict_from (short_on ks i n) ≡ verdict_on ks i n
  unfolding verdict_from short_on verdict_on
  verdict_read = pick (accepts ks i n)
    where
      pick : (b : Bool) → verdict_from (cond b None (Some (record { 0 = first_short ks i n }))) ≡ cond b Verdict.Accepted (Verdict.Short (record { 0 = first_short ks i n }))
      pick true = refl
      pick false = refl

  margin_read : margin_in (margin_from (tight_on ks i n)) ≡ margin_on ks i n
  unfolding margin_from tight_on margin_on
  margin_read = pick (tight_instant ks i n) (eqb (tight_instant ks i n) 0)
    where
      pick : (t : ℕ) (b : Bool) → margin_in (margin_from (cond b None (Some (record { at = t; units = supply i t; demand = demand ks t }))))
          ≡ cond b Margined.None (Margined.Least (margin_at ks i t) (record { 0 = t }))
      pick t true = refl
      pick t false = refl

module _ (k : Component) where
  pub refused_answer : (n : ℕ) → component_refusal k ≡ n → (n ≡ refusal.none → ⊥) → record { verdict = Judged.Refused n; margin = Margined.Refused n } ≡ judge_answer k
  unfolding verdict_answer margin_answer
  refused_answer n e h = rw (e, ne_eqb n 0 h) refl

  at_own_capacity : component_refusal k ≡ refusal.none → answer_at k k.capacity ≡ judge_answer k
  unfolding verdict_answer margin_answer
  at_own_capacity e = rw (eq-eqb (component_refusal k) 0 e) refl

  pub given_answer : (a : Capacity) (r : Answer) → component_refusal k ≡ refusal.none → k.capacity ≡ a → r ≡ answer_at k a → r ≡ judge_answer k
  given_answer a r e is f = f ∙ ap (answer_at k) (sym is) ∙ at_own_capacity e

  pub scanned_answer : (u : Units) (n : ℕ) (short : Option Time) (best : Option Tight) (v : Verdict) (m : Option Margin) → n ≡ common_period_of k
      → short ≡ short_on (tasks_of k.table) (interface_at k u.0) n
      → best ≡ tight_on (tasks_of k.table) (interface_at k u.0) n
      → v ≡ verdict_from short → m ≡ margin_from best → judgement_in (record { capacity = u; verdict = v; margin = m }) ≡ answer_at k (Stated u)
  unfolding judged_at margined_at
  scanned_answer u n short best v m whole first tight e f =
      let ks = tasks_of k.table in
      let i = interface_at k u.0 in
      ap₂ (λ (x : Verdict) (y : Margined). record { verdict = Judged.Answered u x; margin = y })
      (e ∙ ap verdict_from first ∙ verdict_read ks i n ∙ ap (λ (l : ℕ). verdict_on ks i l) whole)
      (ap margin_in (f ∙ ap margin_from tight) ∙ margin_read ks i n ∙ ap (λ (l : ℕ). margin_on ks i l) whole)

  -- a capacity that the search answers is accepted
  found_accepts : capacity_of k ≤ k.deadline.0 → accepts (tasks_of k.table) (interface_at k (capacity_of k)) (common_period_of k) ≡ true
  unfolding capacity_of smallest_capacity
  found_accepts h = (smallest_is _ _).passes (suc-le-suc h)

  found_verdict : capacity_of k ≤ k.deadline.0 → verdict_on (tasks_of k.table) (interface_at k (capacity_of k)) (common_period_of k) ≡ Verdict.Accepted
  unfolding verdict_on
  found_verdict h = rw (found_accepts h) refl

  -- what the search finds: the smallest capacity, which is in range, or none, and then it is above the deadline
  pub found_is : (u : Units) → Some u ≡ capacity_found k → (capacity_of k ≡ u.0) × (u.0 ≤ k.deadline.0)
  unfolding capacity_found
  found_is u e =
      let w = cond_some (leb (capacity_of k) k.deadline.0) (record { 0 = capacity_of k }) u (sym e) in
      let is : capacity_of k ≡ u.0 = ap (λ (x : Units). x.0) w.1 in
      (is, omega (arith, is, leb-true _ _ w.0))

  none_is : None ≡ capacity_found k → k.deadline.0 < capacity_of k
  unfolding capacity_found
  none_is = pick (leb (capacity_of k) k.deadline.0) refl
    where
      pick : (b : Bool) → leb (capacity_of k) k.deadline.0 ≡ b → ◌≡◌ {A = Option Units} None (cond b (Some (record { 0 = capacity_of k })) None) → k.deadline.0 < capacity_of k
      pick true f e = absurd (none-some _ e)
      pick false f e = leb-false _ _ f

  pub found_answer : (u : Units) → Some u ≡ capacity_found k → answer_at k (Stated u) ≡ answer_at k Asked
  unfolding judged_at margined_at
  found_answer u e =
      let is = (found_is u e).0 in
      let g : capacity_of k ≤ k.deadline.0 = omega (arith, is, (found_is u e).1) in
      rw (← is, le-leb (capacity_of k) k.deadline.0 g, found_verdict g) refl

  pub none_answer : None ≡ capacity_found k → judgement_in (record { capacity = record { 0 = 0 }; verdict = Verdict.None; margin = None }) ≡ answer_at k Asked
  unfolding judged_at margined_at
  none_answer e = rw (lt-leb (capacity_of k) k.deadline.0 (none_is e)) refl

  -- the search's answer: refused, or what it finds
  pub refused_capacity : (n : ℕ) → component_refusal k ≡ n → (n ≡ refusal.none → ⊥) → Smallest.Refused n ≡ capacity_answer k
  unfolding capacity_answer
  refused_capacity n e h = rw (e, ne_eqb n 0 h) refl

  pub given_capacity : (r : Option Units) → component_refusal k ≡ refusal.none → r ≡ capacity_found k → smallest_in (Ok r) ≡ capacity_answer k
  unfolding capacity_answer capacity_found
  given_capacity r e is =
      rw (is, eq-eqb (component_refusal k) 0 e) (pick (leb (capacity_of k) k.deadline.0) (record { 0 = capacity_of k }))
    where
      pick : (b : Bool) (u : Units) → smallest_in (Ok (cond b (Some u) None)) ≡ cond b (Smallest.Found u) Smallest.None
      pick true u = refl
      pick false u = refl
