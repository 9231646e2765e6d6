-- What the margin promises: it is the least over the step instants up to L with its first instant, and no other answer is; it is negative exactly where the
-- verdict is short, since the first short instant is a step instant; and for an accepted component no step instant past L has a smaller one.
use Prim.Native.Nat.{ℕ, zero, suc, ◌+◌, ◌-◌, ◌≤◌, ◌<◌}
use mathlib.Core.Path.{◌≡◌, refl, sym, ◌∙◌, ap, ap₂, subst}
use mathlib.Core.Logic.{◌⊎◌, inl, inr}
use mathlib.Core.Bool.{Bool, true, false, not, cond}
use mathlib.Core.List.{List, [], ◌∷◌}
use lib.Dec.{ltb, eqb}
use lib.IntN.{ℤ, pos, negsuc, sub_ℕ}
use borrow.Author.Tests.{lt-ltb, le-ltb, eq-eqb, ne_eqb}
use native.Mathlib.Decide.{dec_le}
use native.Mathlib.Nat.{le_antisymm, lt_of_not-le, le_of_dvd, mul-le-mul}
use native.Mathlib.Omega.{arith}
use Rattle.budget.specs.declared.interface.Interface.{Interface}
use Rattle.budget.specs.declared.task.Task.{Task}
use Rattle.budget.specs.CommonPeriod.{common_period}
use Rattle.budget.specs.Demand.{demand, jobs_by}
use Rattle.budget.specs.Interface.{Π}
use Rattle.budget.specs.Supply.{supply}
use Rattle.budget.specs.Task.{T, span, valid_tasks}
use Rattle.budget.proofs.CommonPeriodLaws.{common_positive, common_divides_at}
use Rattle.budget.proofs.DemandLaws.{demand_zero, demand_shift, jobs_fixed, jobs_mono}
use Rattle.budget.proofs.SupplyLaws.{supply_mono, supply_add}
use Rattle.budget.proofs.Valid.{ValidInterface, span_fits, span_within, valid_head}
use Rattle.judge.specs.numbers.Margined.{Margined}
use Rattle.judge.specs.numbers.Margined as Variant
use Rattle.judge.specs.Margin.{Step, Tightest, tight_instant, margin_at, margin_on, margin_of}
use Rattle.judge.specs.Signed.{is_negative}
use Rattle.judge.specs.Verdict.{Accepted, ShortAt, accepts}
use Rattle.judge.specs.inner.MarginSays.{MarginSays}
use Rattle.judge.proofs.Instants.{no_smaller}
use Rattle.judge.proofs.MarginLaws.{tight_known}
use Rattle.judge.proofs.VerdictLaws.{accepts_fits, short_refuses}

module _ (ks : List Task) (i : Interface) where
  -- the answer worked out is right
  right : (n t : ℕ) → ((t ≡ 0) × ((p : ℕ) → suc p ≤ n → ¬ Step ks p)) ⊎ Tightest ks i n t
      → MarginSays ks i n (cond (eqb t 0) Variant.None (Variant.Least (margin_at ks i t) (record { 0 = t })))
  right n t (inl k) = rw (eq-eqb t 0 k.0) k.1
  right n t (inr h) = rw (ne_eqb t 0 (λ e. absurd (omega (arith, h.is)))) (h, refl)

  pub margin_right : (n : ℕ) → MarginSays ks i n (margin_on ks i n)
  unfolding margin_on
  margin_right n = right n (tight_instant ks i n) (tight_known ks i n)

  -- and no other is
  not_before : (n t u : ℕ) → Tightest ks i n t → Tightest ks i n u → t < u → ⊥
  not_before n t u a b h =
      let first = b.first a.before (omega (arith, a.is)) a.step in
      let least = a.least b.before (omega (arith, b.is, b.within)) b.step in
      let t-is = a.is in
      let u-is = b.is in
      omega (arith, ap (λ (x : ℕ). supply i x) t-is, ap (λ (x : ℕ). demand ks x) t-is, ap (λ (x : ℕ). supply i x) u-is, ap (λ (x : ℕ). demand ks x) u-is, first, least)

  same_instant : (n t u : ℕ) → Tightest ks i n t → Tightest ks i n u → t ≡ u
  same_instant n t u a b = split (dec_le t u) (dec_le u t)
    where
      split : Dec (t ≤ u) → Dec (u ≤ t) → t ≡ u
      split (yes l) (yes g) = le_antisymm l g
      split (yes l) (no g) = absurd (not_before n t u a b (lt_of_not-le g))
      split (no l) g = absurd (not_before n u t b a (lt_of_not-le l))

  not_both : (n t : ℕ) → Tightest ks i n t → ((p : ℕ) → suc p ≤ n → ¬ Step ks p) → ⊥
  not_both n t a nothing = nothing a.before (omega (arith, a.is, a.within)) a.step

  pub one_margin : (n : ℕ) (a b : Margined) → MarginSays ks i n a → MarginSays ks i n b → a ≡ b
  one_margin n (Variant.Refused r) b p q = absurd p
  one_margin n (Variant.Least m t) (Variant.Refused r) p q = absurd q
  one_margin n (Variant.Least m t) (Variant.Least l u) p q =
      let e = same_instant n t.0 u.0 p.0 q.0 in
      ap₂ (λ (x : ℤ) (y : ℕ). Variant.Least x (record { 0 = y })) (p.1 ∙ ap (λ (x : ℕ). margin_at ks i x) e ∙ sym q.1) e
  one_margin n (Variant.Least m t) Variant.None p q = absurd (not_both n t.0 p.0 q)
  one_margin n Variant.None (Variant.Refused r) p q = absurd q
  one_margin n Variant.None (Variant.Least m t) p q = absurd (not_both n t.0 q.0 p)
  one_margin n Variant.None Variant.None p q = refl

-- the sign of a difference is the test of its two numbers
negative_test : (a b : ℕ) → is_negative (sub_ℕ a b) ≡ ltb a b
negative_test a b = pick (ltb a b)
  where
    pick : (t : Bool) → is_negative (cond t (negsuc (b - suc a)) (pos (a - b))) ≡ t
    pick true = refl
    pick false = refl

module _ (ks : List Task) (v : valid_tasks ks ≡ true) (i : Interface) (w : ValidInterface i) where
  -- supply never falls, so demand rises at the first short instant
  short_step : (p : ℕ) → ShortAt ks i (suc p) → Step ks p
  short_step zero s = omega (arith, s.short, demand_zero ks v)
  short_step (suc p) s = omega (arith, s.short, s.first (suc p) (omega arith) (omega arith), supply_mono i w (suc p) (suc (suc p)) (omega arith))

  -- a margin is below 0 where the component is short, and nowhere else; without a margin the number is 0 and the component is accepted
  pub margin_negative : is_negative (margin_of (margin_on ks i (common_period (Π i) ks))) ≡ not (accepts ks i (common_period (Π i) ks))
  margin_negative = split (accepts ks i (common_period (Π i) ks)) refl (margin_on ks i (common_period (Π i) ks)) (margin_right ks i (common_period (Π i) ks))
    where
      negative_of : (m : ℤ) (t : ℕ) (b : Bool) → m ≡ margin_at ks i t → ltb (supply i t) (demand ks t) ≡ b → is_negative m ≡ b
      negative_of m t b e f = ap is_negative e ∙ negative_test (supply i t) (demand ks t) ∙ f

      tight_short : (t s : ℕ) → Tightest ks i (common_period (Π i) ks) t → s ≤ common_period (Π i) ks → ShortAt ks i s → supply i t < demand ks t
      tight_short t zero a h r = absurd (omega (arith, r.some))
      tight_short t (suc s) a h r = omega (arith, a.least s h (short_step s r), r.short)

      no_short : (s : ℕ) → ((p : ℕ) → suc p ≤ common_period (Π i) ks → ¬ Step ks p) → s ≤ common_period (Π i) ks → ShortAt ks i s → ⊥
      no_short zero nothing h r = omega (arith, r.some)
      no_short (suc s) nothing h r = nothing s h (short_step s r)

      split : (b : Bool) → accepts ks i (common_period (Π i) ks) ≡ b → (r : Margined) → MarginSays ks i (common_period (Π i) ks) r → is_negative (margin_of r) ≡ not b
      split b e (Variant.Refused n) p = absurd p
      split true e (Variant.Least m t) p =
          negative_of m t.0 false p.1 (le-ltb _ _ (accepts_fits ks i _ e t.0 (omega (arith, p.0.is)) (omega (arith, p.0.within))))
      split false e (Variant.Least m t) p =
          let s = short_refuses ks i _ e in
          negative_of m t.0 true p.1 (lt-ltb _ _ (tight_short t.0 _ p.0 s.0 s.1))
      split true e Variant.None p = refl
      split false e Variant.None p = let s = short_refuses ks i _ e in absurd (no_short _ p s.0 s.1)

  -- an accepted component has no smaller margin at any step instant past L
  pub margin_later : Accepted ks i → (t : ℕ) → Tightest ks i (common_period (Π i) ks) t → (p : ℕ) → Step ks p → supply i t + demand ks (suc p) ≤ supply i (suc p) + demand ks t
  unfolding Accepted
  margin_later fits t a =
      no_smaller (demand ks) (supply i) (common_period (Π i) ks) l_some
      (demand_shift ks v (common_period (Π i) ks) (common_divides_at (Π i) ks period_some v))
      (supply_add i w) (fits (common_period (Π i) ks) l_some) (supply i t) (demand ks t) a.least
    where
      period_some : 1 ≤ Π i
      period_some = omega (arith, w.some, w.within)

      l_some : 1 ≤ common_period (Π i) ks
      l_some = common_positive (Π i) ks period_some v

-- a component has a margin exactly where it has tasks
demand_none : (t : ℕ) → demand [] t ≡ 0
unfolding demand
demand_none t = refl

pub no_tasks_no_margin : (i : Interface) (n : ℕ) → margin_on [] i n ≡ Variant.None
no_tasks_no_margin i n = one_margin [] i n (margin_on [] i n) Variant.None (margin_right [] i n) (λ p h s. omega (arith, s, demand_none p, demand_none (suc p)))

still_none : (ks : List Task) → valid_tasks ks ≡ true → (n : ℕ) → ((p : ℕ) → suc p ≤ n → ¬ Step ks p) → demand ks n ≡ 0
still_none ks v zero nothing = demand_zero ks v
still_none ks v (suc n) nothing =
    let before = still_none ks v n (λ p h. nothing p (omega arith)) in
    let still : ¬ Step ks n = nothing n (omega arith) in
    omega arith

module _ (k : Task) (ks : List Task) (v : valid_tasks (k ∷ ks) ≡ true) (i : Interface) (w : ValidInterface i) where
  demand_some : 1 ≤ demand (k ∷ ks) (common_period (Π i) (k ∷ ks))
  unfolding demand
  demand_some =
      let t = valid_head k ks v in
      let period_some : 1 ≤ Π i = omega (arith, w.some, w.within) in
      let first : jobs_by k (span k) ≡ 1 = jobs_fixed k t (span k) 1 (omega arith) (omega (arith, t.works, span_fits k t, span_within k t)) in
      let within : T k ≤ common_period (Π i) (k ∷ ks) = le_of_dvd (common_positive (Π i) (k ∷ ks) period_some v) (common_divides_at (Π i) (k ∷ ks) period_some v 0 (omega arith)) in
      let job : 1 ≤ jobs_by k (common_period (Π i) (k ∷ ks)) = omega (arith, first, jobs_mono k t (span k) (common_period (Π i) (k ∷ ks)) (omega (arith, span_within k t))) in
      omega (arith, mul-le-mul job t.works)

  pub tasks_have_margin : (margin_on (k ∷ ks) i (common_period (Π i) (k ∷ ks)) ≡ Variant.None) → ⊥
  tasks_have_margin e =
      let nothing = subst (λ (r : Margined). MarginSays (k ∷ ks) i (common_period (Π i) (k ∷ ks)) r) e (margin_right (k ∷ ks) i (common_period (Π i) (k ∷ ks))) in
      omega (arith, demand_some, still_none (k ∷ ks) v (common_period (Π i) (k ∷ ks)) nothing)
