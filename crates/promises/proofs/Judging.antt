-- What the judge answers, by its laws of verdict and margin. An unrefused component is answered with the verdict and the margin at one
-- capacity, stated or found, or with none; each law says which verdict and which margin are right there, and that no other is.
use Prim.Native.Nat.{ℕ, suc, ◌+◌, ◌≤◌}
use mathlib.Core.Bool.{Bool, cond, false, not, true}
use mathlib.Core.List.{List, [], ◌∷◌}
use mathlib.Core.Logic.{◌⊎◌, ◌↔◌, inl, inr, ⊎_elim}
use mathlib.Core.Path.{◌≡◌, refl, sym, ap, subst, ◌∙◌}
use lib.Dec.{leb}
use lib.IntN.{ℤ}
use borrow.Author.Tests.{leb-true}
use native.Mathlib.Omega.{arith}
use Rattle.budget.specs.declared.component.Capacity.{Capacity}
use Rattle.budget.specs.declared.component.Capacity.TheVariants.{Asked, Stated}
use Rattle.budget.specs.declared.component.Component.{Component}
use Rattle.budget.specs.declared.interface.Interface.{Interface}
use Rattle.budget.specs.declared.quantity.Time.{Time}
use Rattle.budget.specs.declared.quantity.Units.{Units}
use Rattle.budget.specs.declared.task.Task.{Task}
use Rattle.budget.specs.CommonPeriod.{common_period}
use Rattle.budget.specs.Component.{common_period_of, component_refusal, interface_at, interface_of, units_of}
use Rattle.budget.specs.Demand.{demand}
use Rattle.budget.specs.Interface.{Π}
use Rattle.budget.specs.Refusal as refusal
use Rattle.budget.specs.Supply.{supply}
use Rattle.budget.specs.Task.{tasks_of, valid_tasks}
use Rattle.budget.proofs.Ranges.{unrefused}
use Rattle.budget.proofs.Valid.{ValidInterface, valid_interface_lem}
use Rattle.judge.specs.numbers.Judged.{Answered, Refused}
use Rattle.judge.specs.numbers.Margined.{Margined}
use Rattle.judge.specs.numbers.Margined as Margin
use Rattle.judge.specs.numbers.Smallest as Search
use Rattle.judge.specs.declared.answer.Verdict.TheVariants as Variant
use Rattle.judge.specs.declared.answer.Verdict.{Verdict}
use Rattle.judge.specs.Capacity.{capacity_answer, capacity_of}
use Rattle.judge.specs.Judged.{judged_at, verdict_answer}
use Rattle.judge.specs.Margin.{Step, margin_answer, margin_of, margin_on, margined_at}
use Rattle.judge.specs.Signed.{is_negative}
use Rattle.judge.specs.Verdict.{Judgement, accepts, first_short, verdict_on}
use Rattle.judge.specs.inner.MarginSays.{MarginSays}
use Rattle.judge.proofs.MarginRight.{margin_later, margin_negative, margin_right, no_tasks_no_margin, one_margin, tasks_have_margin}
use Rattle.judge.proofs.VerdictLaws.{one_verdict, short_within, verdict_right}
use Rattle.judge.proofs.Whole.{answer_given, answer_refused, in_range_at, stated_fits}
use Rattle.promises.specs.Judging.{AnsweredNone, AnsweredShort, ExactMargin, MarginExact, MarginNegative, NegativeExactlyShort, NoLaterSmaller, OneCall, OneVerdict, RefusedAlike, VerdictExact}
use Rattle.promises.proofs.Capacity.{least_accepted}

-- the verdict and the margin at the capacity q are what is answered
record JudgedAt (c : Component) (q : Units) : Type 0 where
  tasks : valid_tasks (tasks_of c.table) ≡ true
  interface : ValidInterface (interface_at c q.0)
  verdict : verdict_answer c ≡ Answered q (verdict_on (tasks_of c.table) (interface_at c q.0) (common_period_of c))
  margin : margin_answer c ≡ margin_on (tasks_of c.table) (interface_at c q.0) (common_period_of c)

-- the judge's answer is one of these two
abbrev Outcome : Component → Type 0
Outcome c = ((q : Units) × JudgedAt c q) ⊎ (AnsweredNone c × (margin_answer c ≡ Margin.None))

module _ (c : Component) (e : component_refusal c ≡ refusal.none) where
  at_stated : (u : Units) → c.capacity ≡ Stated u → JudgedAt c u
  unfolding verdict_answer margin_answer judged_at margined_at
  at_stated u is =
      record {
        tasks = (unrefused c e).0.tasks;
        interface = valid_interface_lem _ (in_range_at c e u.0 (stated_fits c e u is));
        verdict = answer_given _ _ _ e ∙ ap (judged_at c) is;
        margin = answer_given _ _ _ e ∙ ap (margined_at c) is;
      }

  -- the capacity found is accepted, so that is its verdict
  at_found : c.capacity ≡ Asked → leb (capacity_of c) c.deadline.0 ≡ true → JudgedAt c (record { 0 = capacity_of c })
  unfolding verdict_answer margin_answer judged_at margined_at capacity_of common_period_of interface_of
  at_found is found =
      let v = (unrefused c e).0 in
      let h : capacity_of c ≤ c.deadline.0 = leb-true _ _ found in
      let i = interface_at c (capacity_of c) in
      let valid = valid_interface_lem _ (in_range_at c e (capacity_of c) h) in
      let accepted = least_accepted (tasks_of c.table) v.tasks c.period.0 c.deadline.0 (units_of c.capacity) v.interface h in
      let same = one_verdict (tasks_of c.table) i Variant.Accepted _ accepted (verdict_right (tasks_of c.table) v.tasks i valid) in
      record {
        tasks = v.tasks;
        interface = valid;
        verdict = answer_given _ _ _ e ∙ ap (judged_at c) is ∙ rw found (ap (Answered (record { 0 = capacity_of c })) same);
        margin = answer_given _ _ _ e ∙ ap (margined_at c) is ∙ rw found;
      }

  at_none : c.capacity ≡ Asked → leb (capacity_of c) c.deadline.0 ≡ false → AnsweredNone c × (margin_answer c ≡ Margin.None)
  unfolding verdict_answer margin_answer judged_at margined_at
  at_none is none = (answer_given _ _ _ e ∙ ap (judged_at c) is ∙ rw none, answer_given _ _ _ e ∙ ap (margined_at c) is ∙ rw none)

  outcome : Outcome c
  outcome = by_capacity c.capacity refl
    where
      by_search : (b : Bool) → c.capacity ≡ Asked → leb (capacity_of c) c.deadline.0 ≡ b → Outcome c
      by_search true is found = inl (record { 0 = capacity_of c }, at_found is found)
      by_search false is none = inr (at_none is none)

      by_capacity : (k : Capacity) → c.capacity ≡ k → Outcome c
      by_capacity (Stated u) is = inl (u, at_stated u is)
      by_capacity Asked is = by_search _ is refl

-- what is answered at that capacity
module _ (c : Component) (q : Units) (j : JudgedAt c q) where
  abbrev ks : List Task
  ks = tasks_of c.table

  abbrev i : Interface
  i = interface_at c q.0

  abbrev L : ℕ
  L = common_period_of c

  right : Judgement ks i (verdict_on ks i L)
  unfolding common_period_of
  right = verdict_right ks j.tasks i j.interface

  verdict_is : (r : Units) (v : Verdict) → verdict_answer c ≡ Answered r v → (q ≡ r) × (verdict_on ks i L ≡ v)
  verdict_is r v h =
      let same : Answered q (verdict_on ks i L) ≡ Answered r v = sym j.verdict ∙ h in
      (cc, cc)

  -- a verdict is answered exactly where it is right
  verdict_exact : (v : Verdict) → (verdict_answer c ≡ Answered q v) ↔ Judgement ks i v
  verdict_exact v = (
    λ h. subst (Judgement ks i) (verdict_is q v h).1 right,
    λ h. j.verdict ∙ ap (Answered q) (one_verdict ks i _ v right h),
  )

  short_bound : (t : Time) → verdict_answer c ≡ Answered q (Variant.Short t) → t.0 ≤ L
  unfolding common_period_of
  short_bound t h = short_within ks j.tasks i j.interface t.0 ((verdict_exact (Variant.Short t)).0 h)

  -- and so is a margin
  margin_exact_at : (m : Margined) → (margin_answer c ≡ m) ↔ MarginSays ks i L m
  margin_exact_at m = (
    λ h. subst (MarginSays ks i L) (sym j.margin ∙ h) (margin_right ks i L),
    λ h. j.margin ∙ one_margin ks i L _ m (margin_right ks i L) h,
  )

  negative : is_negative (margin_of (margin_answer c)) ≡ not (accepts ks i L)
  unfolding common_period_of
  negative = ap (λ (m : Margined). is_negative (margin_of m)) j.margin ∙ margin_negative ks j.tasks i j.interface

  later : verdict_answer c ≡ Answered q Variant.Accepted → (m : ℤ) (t : Time) → margin_answer c ≡ Margin.Least m t
      → (p : ℕ) → Step ks p → supply i t.0 + demand ks (suc p) ≤ supply i (suc p) + demand ks t.0
  unfolding common_period_of
  later a m t h = margin_later ks j.tasks i j.interface ((verdict_exact Variant.Accepted).0 a) t.0 ((margin_exact_at (Margin.Least m t)).0 h).0

pub verdict_exactly : VerdictExact
verdict_exactly c e u is =
    let j = at_stated c e u is in
    record {
      accepted = verdict_exact c u j Variant.Accepted;
      short = λ t. verdict_exact c u j (Variant.Short t);
      within = short_bound c u j;
      nothing_else = either (verdict_on (tasks_of c.table) (interface_at c u.0) (common_period_of c)) j.verdict (right c u j);
    }
  where
    either : (v : Verdict) → verdict_answer c ≡ Answered u v → Judgement (tasks_of c.table) (interface_at c u.0) v
        → (verdict_answer c ≡ Answered u Variant.Accepted) ⊎ ((t : Time) × (verdict_answer c ≡ Answered u (Variant.Short t)))
    either Variant.Accepted h r = inl h
    either (Variant.Short t) h r = inr (t, h)
    either Variant.None h r = absurd r

pub one_verdict_only : OneVerdict
one_verdict_only = one_verdict

-- a component has a margin exactly where it has tasks
tasks_none : (ks : List Task) → valid_tasks ks ≡ true → (i : Interface) → ValidInterface i → (margin_on ks i (common_period (Π i) ks) ≡ Margin.None) ↔ (ks ≡ [])
tasks_none [] v i w = (λ h. refl, λ h. no_tasks_no_margin i _)
tasks_none (k ∷ ks) v i w = (λ h. absurd (tasks_have_margin k ks v i w h), λ h. absurd (let z : ◌≡◌ {A = ℕ} 0 1 = cc in omega arith))

module _ (c : Component) where
  some_margin : (m : Margined) → margin_answer c ≡ m → (q : Units) → JudgedAt c q → (margin_answer c ≡ Margin.None) ⊎ ((m : ℤ) × (t : Time) × (margin_answer c ≡ Margin.Least m t))
  some_margin (Margin.Refused n) h q j = absurd ((margin_exact_at c q j (Margin.Refused n)).0 h)
  some_margin (Margin.Least m t) h q j = inr (m, t, h)
  some_margin Margin.None h q j = inl h

  exact_at : (q : Units) → JudgedAt c q → ExactMargin c
  unfolding common_period_of
  exact_at q j =
      record {
        least = λ r at m t.
            subst (λ (x : Units). (margin_answer c ≡ Margin.Least m t) ↔ MarginSays (tasks_of c.table) (interface_at c x.0) (common_period_of c) (Margin.Least m t))
            (verdict_is c q j r at.verdict at.answered).0 (margin_exact_at c q j (Margin.Least m t));
        none = (λ h. inl (empty.0 (sym j.margin ∙ h)), by_none);
        nothing_else = some_margin _ refl q j;
      }
    where
      empty : (margin_on (tasks_of c.table) (interface_at c q.0) (common_period_of c) ≡ Margin.None) ↔ (tasks_of c.table ≡ [])
      empty = tasks_none (tasks_of c.table) j.tasks (interface_at c q.0) j.interface

      never_none : AnsweredNone c → ⊥
      never_none h = subst (Judgement (tasks_of c.table) (interface_at c q.0)) (verdict_is c q j _ _ h).1 (right c q j)

      by_none : (tasks_of c.table ≡ []) ⊎ AnsweredNone c → margin_answer c ≡ Margin.None
      by_none (inl h) = j.margin ∙ empty.1 h
      by_none (inr h) = absurd (never_none h)

  exact_none : AnsweredNone c → margin_answer c ≡ Margin.None → ExactMargin c
  exact_none none h =
      record {
        least = λ r at m t.
            let same : at.verdict ≡ Variant.None = cc at.answered in
            absurd (at.some same);
        none = (λ k. inr none, λ k. h);
        nothing_else = inl h;
      }

pub margin_exactly : MarginExact
margin_exactly c e = ⊎_elim (λ j. exact_at c j.0 j.1) (λ h. exact_none c h.0 h.1) (outcome c e)

module _ (c : Component) where
  -- the verdict and the margin's sign both go by whether L accepts
  short_by : (q : Units) (b : Bool) (t : Time) → verdict_answer c ≡ Answered q (cond b Variant.Accepted (Variant.Short t)) → not b ≡ true → AnsweredShort c
  short_by q true t h n = absurd (let z : ◌≡◌ {A = ℕ} 0 1 = cc in omega arith)
  short_by q false t h n = (q, t, h)

  test_by : (b : Bool) (t u : Time) → cond b Variant.Accepted (Variant.Short t) ≡ Variant.Short u → not b ≡ true
  test_by true t u h = absurd (let z : ◌≡◌ {A = ℕ} 0 1 = cc in omega arith)
  test_by false t u h = refl

  least_by : (m : Margined) → margin_answer c ≡ m → is_negative (margin_of m) ≡ true → MarginNegative c
  least_by (Margin.Refused n) h s = absurd (let z : ◌≡◌ {A = ℕ} 0 1 = cc in omega arith)
  least_by (Margin.Least m t) h s = (m, t, h, s)
  least_by Margin.None h s = absurd (let z : ◌≡◌ {A = ℕ} 0 1 = cc in omega arith)

  sign_at : (q : Units) → JudgedAt c q → MarginNegative c ↔ AnsweredShort c
  unfolding verdict_on
  sign_at q j =
      let sign = negative c q j in
      let test = accepts (tasks_of c.table) (interface_at c q.0) (common_period_of c) in
      let first : Time = record { 0 = first_short (tasks_of c.table) (interface_at c q.0) (common_period_of c) } in (
        λ n. short_by q test first j.verdict (sym sign ∙ ap (λ (m : Margined). is_negative (margin_of m)) n.2 ∙ n.3),
        λ s. least_by _ refl (sign ∙ test_by test first s.1 (verdict_is c q j s.0 _ s.2).1),
      )

  sign_none : AnsweredNone c → margin_answer c ≡ Margin.None → MarginNegative c ↔ AnsweredShort c
  sign_none none h = (
    λ n. absurd (let z : ◌≡◌ {A = ℕ} 0 1 = cc n.2 in omega arith),
    λ s. absurd (let z : ◌≡◌ {A = ℕ} 0 1 = cc s.2 in omega arith),
  )

pub negative_exactly_short : NegativeExactlyShort
negative_exactly_short c e = ⊎_elim (λ j. sign_at c j.0 j.1) (λ h. sign_none c h.0 h.1) (outcome c e)

pub no_later_smaller : NoLaterSmaller
no_later_smaller c e q a m t h =
    ⊎_elim
    (λ j. later c q (subst (JudgedAt c) (verdict_is c j.0 j.1 q _ a).0 j.1) a m t h)
    (λ none. absurd (let z : ◌≡◌ {A = ℕ} 0 1 = cc in omega arith))
    (outcome c e)

pub one_call : OneCall
one_call c a = (λ e. rw e (refl, refl), λ h. rw (← h.0, ← h.1))

pub refused_alike : RefusedAlike
unfolding verdict_answer margin_answer capacity_answer
refused_alike c h =
    let n = component_refusal c in
    (answer_refused n n _ Refused refl h, answer_refused n n _ Margin.Refused refl h, answer_refused n n _ Search.Refused refl h)
