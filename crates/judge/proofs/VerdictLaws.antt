-- The first short instant: what a scan has shown of the instants passed, what it has found in the end, and why the instants up to L decide.
use Prim.Native.Nat.{ℕ, zero, suc, ◌≤◌, ◌<◌, suc-le-suc}
use mathlib.Core.Path.{◌≡◌, refl, sym, ap, subst}
use mathlib.Core.Bool.{Bool, true, false, cond}
use mathlib.Core.List.{List}
use lib.Dec.{ltb}
use borrow.Author.Tests.{lt-ltb, le-ltb, ltb-true, ltb-false}
use native.Mathlib.Decide.{dec_le}
use native.Mathlib.Nat.{le_trans, le_of_eq, le_antisymm, not-le_of_lt, lt_of_not-le, le_of_suc-le-suc}
use native.Mathlib.Omega.{arith}
use Rattle.std.specs.Prelude.{Option, Some, None}
use Rattle.std.specs.Option.{option_or}
use Rattle.budget.specs.declared.interface.Interface.{Interface}
use Rattle.budget.specs.declared.quantity.Time.{Time}
use Rattle.budget.specs.declared.task.Task.{Task}
use Rattle.budget.specs.CommonPeriod.{common_period}
use Rattle.budget.specs.Demand.{demand}
use Rattle.budget.specs.Interface.{Π}
use Rattle.budget.specs.Supply.{supply}
use Rattle.budget.specs.Task.{valid_tasks}
use Rattle.budget.proofs.CommonPeriodLaws.{common_positive, common_divides_at}
use Rattle.budget.proofs.DemandLaws.{demand_zero, demand_shift}
use Rattle.budget.proofs.SupplyLaws.{supply_mono, supply_add}
use Rattle.budget.proofs.Valid.{ValidInterface}
use Rattle.judge.specs.declared.answer.Verdict.{Verdict}
use Rattle.judge.specs.declared.answer.Verdict.TheVariants as Variant
use Rattle.judge.specs.Verdict.{Accepted, ShortAt, Judgement, is_short, first_short, accepts, verdict_on}
use Rattle.judge.specs.inner.Tried.{short_on, short_tried, sooner_short}
use Rattle.judge.proofs.Instants.{enough}
use Rattle.judge.proofs.SearchLaws.{smallest_is, smallest_only}
use Rattle.judge.proofs.StepLaws.{step_after}

-- every instant from 1 and before n fits
abbrev pub FitsBefore : List Task → Interface → ℕ → Type 0
FitsBefore ks i n = (u : ℕ) → 1 ≤ u → u < n → demand ks u ≤ supply i u

module _ (ks : List Task) (i : Interface) where
  pub fits_start : FitsBefore ks i 1
  fits_start u l h = absurd (omega arith)

  -- demand stands still up to the next instant and supply never falls
  pub fits_on : ValidInterface i → (at next : ℕ) → FitsBefore ks i at → demand ks at ≤ supply i at
      → ((u : ℕ) → at ≤ u → u < next → demand ks u ≡ demand ks at) → FitsBefore ks i next
  fits_on v at next before here still u l h = split (dec_le at u)
    where
      split : Dec (at ≤ u) → demand ks u ≤ supply i u
      split (yes g) = le_trans (le_of_eq (still u g h)) (le_trans here (supply_mono i v at u g))
      split (no g) = before u l (omega arith)

  -- the instants up to n have been passed, or a short one is met
  pub first_short_none : (n at : ℕ) → FitsBefore ks i at → n < at → first_short ks i n ≡ suc n
  unfolding first_short is_short
  first_short_none n at before h =
      ap suc
      (smallest_only _ n n
      (record { within = omega arith; before = λ j l. le-ltb _ _ (before (suc j) (omega arith) (omega arith)); passes = λ l. absurd (omega (arith, l)) }))

  pub first_short_here : (n at : ℕ) → 1 ≤ at → at ≤ n → FitsBefore ks i at → supply i at < demand ks at → first_short ks i n ≡ at
  unfolding first_short is_short
  first_short_here n zero some h before short = absurd (omega (arith, some))
  first_short_here n (suc t) some h before short =
      ap suc
      (smallest_only _ n t
      (record { within = omega arith; before = λ j l. le-ltb _ _ (before (suc j) (omega arith) (omega arith)); passes = λ l. lt-ltb _ _ short }))

  -- what a scan up to n has shown before `at`: every instant fits, or the first short one is found
  abbrev pub Sought : ℕ → ℕ → Option Time → Type 0
  Sought n at None = FitsBefore ks i at
  Sought n at (Some t) = (t.0 ≤ n) × (first_short ks i n ≡ t.0)

  pub sought_end : (n at : ℕ) (short : Option Time) → n < at → Sought n at short → short ≡ short_on ks i n
  unfolding short_on accepts
  sought_end n at None h fits = rw (first_short_none n at fits h, lt-ltb n (suc n) (omega arith)) refl
  sought_end n at (Some t) h s = rw (s.1, le-ltb n t.0 s.0) refl

  module _ (v : valid_tasks ks ≡ true) (w : ValidInterface i) where
    -- an instant at which demand stands still fits as the one before it does
    fits_still : (p : ℕ) → FitsBefore ks i (suc p) → demand ks (suc p) ≤ demand ks p → demand ks (suc p) ≤ supply i (suc p)
    fits_still zero before h = omega (arith, demand_zero ks v)
    fits_still (suc p) before h = omega (arith, before (suc p) (omega arith) (omega arith), supply_mono i w (suc p) (suc (suc p)) (omega arith))

    -- one instant more
    module _ (n p next : ℕ) (h : suc p ≤ n) (still : (u : ℕ) → suc p ≤ u → u < next → demand ks u ≡ demand ks (suc p)) where
      sought_on : (a b : Bool) → ltb (demand ks p) (demand ks (suc p)) ≡ a → ltb (supply i (suc p)) (demand ks (suc p)) ≡ b
          → (short : Option Time) → Sought n (suc p) short
          → Sought n next (cond a (cond b (option_or short (Some (record { 0 = suc p }))) short) short)
      sought_on false b e f None fits = fits_on w (suc p) next fits (fits_still p fits (ltb-false _ _ e)) still
      sought_on true false e f None fits = fits_on w (suc p) next fits (ltb-false _ _ f) still
      sought_on true true e f None fits = (h, first_short_here n (suc p) (omega arith) h fits (ltb-true _ _ f))
      sought_on false b e f (Some t) s = s
      sought_on true false e f (Some t) s = s
      sought_on true true e f (Some t) s = s

      pub sought_next : (short r : Option Time) → r ≡ short_tried short i (step_after ks p) → Sought n (suc p) short → Sought n next r
      unfolding short_tried sooner_short
      sought_next short r e s =
          subst (λ (x : Option Time). Sought n next x) (sym e)
          (sought_on (ltb (demand ks p) (demand ks (suc p))) (ltb (supply i (suc p)) (demand ks (suc p))) refl refl short s)

  -- the first short instant up to n, if there is one, is short and the first
  first_short_within : (n : ℕ) → 1 ≤ first_short ks i n
  unfolding first_short
  first_short_within n = omega arith

  first_short_before : (n : ℕ) → FitsBefore ks i (first_short ks i n)
  unfolding first_short is_short
  first_short_before n zero l h = absurd (omega (arith, l))
  first_short_before n (suc u) l h = ltb-false _ _ ((smallest_is _ n).before u (le_of_suc-le-suc h))

  first_short_short : (n : ℕ) → first_short ks i n ≤ n → supply i (first_short ks i n) < demand ks (first_short ks i n)
  unfolding first_short is_short
  first_short_short n h = ltb-true _ _ ((smallest_is _ n).passes h)

  pub accepts_fits : (n : ℕ) → accepts ks i n ≡ true → FitsBefore ks i (suc n)
  unfolding accepts
  accepts_fits n e u l h = first_short_before n u l (omega (arith, ltb-true n (first_short ks i n) e))

  pub fits_accepts : (n : ℕ) → FitsBefore ks i (suc n) → accepts ks i n ≡ true
  unfolding accepts
  fits_accepts n fits = rw (first_short_none n (suc n) fits (omega arith)) (lt-ltb n (suc n) (omega arith))

  pub short_refuses : (n : ℕ) → accepts ks i n ≡ false → (first_short ks i n ≤ n) × ShortAt ks i (first_short ks i n)
  unfolding accepts
  short_refuses n e =
      let h = ltb-false n (first_short ks i n) e in
      (h, record { some = first_short_within n; short = first_short_short n h; first = first_short_before n })

  -- at most one verdict holds
  not_both : (t : ℕ) → Accepted ks i → ShortAt ks i t → ⊥
  unfolding Accepted
  not_both t a s = not-le_of_lt s.short (a t s.some)

  same_instant : (t u : ℕ) → ShortAt ks i t → ShortAt ks i u → t ≡ u
  same_instant t u s r = split (dec_le t u) (dec_le u t)
    where
      split : Dec (t ≤ u) → Dec (u ≤ t) → t ≡ u
      split (yes a) (yes b) = le_antisymm a b
      split (yes a) (no b) = absurd (not-le_of_lt s.short (r.first t s.some (lt_of_not-le b)))
      split (no a) b = absurd (not-le_of_lt r.short (s.first u r.some (lt_of_not-le a)))

  pub one_verdict : (a b : Verdict) → Judgement ks i a → Judgement ks i b → a ≡ b
  one_verdict Variant.Accepted Variant.Accepted p q = refl
  one_verdict Variant.Accepted (Variant.Short t) p q = absurd (not_both t.0 p q)
  one_verdict Variant.Accepted Variant.None p q = absurd q
  one_verdict (Variant.Short t) Variant.Accepted p q = absurd (not_both t.0 q p)
  one_verdict (Variant.Short t) (Variant.Short u) p q = ap (λ (n : ℕ). Variant.Short (record { 0 = n })) (same_instant t.0 u.0 p q)
  one_verdict (Variant.Short t) Variant.None p q = absurd q
  one_verdict Variant.None b p q = absurd p

-- for a component's tasks on an interface within the limits, L decides
module _ (ks : List Task) (v : valid_tasks ks ≡ true) (i : Interface) (w : ValidInterface i) where
  period_some : 1 ≤ Π i
  period_some = omega (arith, w.some, w.within)

  -- fitting up to L is fitting at every instant, with no limit
  pub accepted_unlimited : ((t : ℕ) → 1 ≤ t → t ≤ common_period (Π i) ks → demand ks t ≤ supply i t) → Accepted ks i
  unfolding Accepted
  accepted_unlimited =
      enough (demand ks) (supply i) (common_period (Π i) ks) (common_positive (Π i) ks period_some v)
      (demand_shift ks v (common_period (Π i) ks) (common_divides_at (Π i) ks period_some v))
      (supply_add i w)

  pub accepts_accepted : accepts ks i (common_period (Π i) ks) ≡ true → Accepted ks i
  accepts_accepted e = accepted_unlimited (λ t l h. accepts_fits ks i (common_period (Π i) ks) e t l (suc-le-suc h))

  -- the verdict worked out up to L is the right one
  pub verdict_right : Judgement ks i (verdict_on ks i (common_period (Π i) ks))
  unfolding verdict_on
  verdict_right = pick (accepts ks i (common_period (Π i) ks)) refl
    where
      pick : (b : Bool) → accepts ks i (common_period (Π i) ks) ≡ b → Judgement ks i (cond b Variant.Accepted (Variant.Short (record { 0 = first_short ks i (common_period (Π i) ks) })))
      pick true e = accepts_accepted e
      pick false e = (short_refuses ks i (common_period (Π i) ks) e).1

  -- the first short instant lies within L
  pub short_within : (t : ℕ) → ShortAt ks i t → t ≤ common_period (Π i) ks
  short_within t s = pick (accepts ks i (common_period (Π i) ks)) refl
    where
      pick : (b : Bool) → accepts ks i (common_period (Π i) ks) ≡ b → t ≤ common_period (Π i) ks
      pick true e = absurd (not_both ks i t (accepts_accepted e) s)
      pick false e =
          let r = short_refuses ks i (common_period (Π i) ks) e in
          le_trans (le_of_eq (same_instant ks i t _ s r.1)) r.0
