-- The tightest step instant: what trying one instant more does, that nothing changes between step instants, and that what is found is the tightest.
use Prim.Native.Nat.{ℕ, zero, suc, ◌+◌, ◌*◌, ◌≤◌, ◌<◌}
use mathlib.Core.Path.{◌≡◌, refl, sym, ◌∙◌, ap, subst}
use mathlib.Core.Logic.{◌⊎◌, inl, inr, ⊎_elim}
use mathlib.Core.Bool.{Bool, true, false, cond}
use mathlib.Core.List.{List}
use lib.Dec.{ltb, eqb}
use lib.ListN.{length}
use borrow.Author.Tests.{le-ltb, ne_eqb, ltb-true, ltb-false, eqb-true, eqb-false}
use native.Mathlib.Decide.{dec_le}
use native.Mathlib.Nat.{not-suc-le-zero, le_of_eq, le_of_lt, le_of_suc-le-suc, le_trans, mul-le-mul, eq-or-lt_of_le, not-le_of_lt}
use native.Mathlib.Omega.{arith}
use Rattle.std.specs.Prelude.{Option, Some, None}
use Rattle.budget.specs.declared.interface.Interface.{Interface}
use Rattle.budget.specs.declared.task.Task.{Task}
use Rattle.budget.specs.Demand.{demand}
use Rattle.budget.specs.Limits.{limit, most_tasks}
use Rattle.budget.specs.Supply.{supply}
use Rattle.budget.specs.Task.{valid_tasks}
use Rattle.budget.proofs.DemandLaws.{demand_bound}
use Rattle.budget.proofs.SupplyLaws.{supply_le_time}
use Rattle.budget.proofs.Valid.{ValidInterface, valid_interface_lem}
use Rattle.judge.specs.declared.margin.Tight.{Tight}
use Rattle.judge.specs.Margin.{Step, Tightest, tight_at, tried, tight_instant}
use Rattle.judge.specs.inner.Scan.{Scannable, SmallBest}
use Rattle.judge.specs.inner.Tried.{tight_on, tight_tried, tighter_of}
use Rattle.judge.proofs.StepLaws.{step_after}

-- what the walk has shown before `at`: the tightest of all instants up to any from the last one passed on
pub record Best (ks : List Task) (i : Interface) (n at : ℕ) (best : Option Tight) : Type 0 where
  pub last : ℕ
  pub reached : last ≤ n
  pub passed : last < at
  pub tight : (u : ℕ) → last ≤ u → u < at → best ≡ tight_on ks i u

-- one number more
up_to : (p n : ℕ) → suc p ≤ suc n → (p ≡ n) ⊎ (suc p ≤ n)
up_to p n l = eq-or-lt_of_le (le_of_suc-le-suc l)

module _ (ks : List Task) (i : Interface) where
  -- a step instant with its supply and demand, and the same where instant 0 stands for none
  abbrev seen : ℕ → Tight
  seen t = record { at = t; units = supply i t; demand = demand ks t }

  abbrev seen_if : ℕ → Option Tight
  seen_if t = cond (eqb t 0) None (Some (seen t))

  -- trying one instant more finds the tightest step instant up to it
  more : (p m : ℕ) (a b c : Bool) → eqb m 0 ≡ b → ltb (supply i (suc p) + demand ks m) (supply i m + demand ks (suc p)) ≡ c
      → cond a (Some (tighter_of (cond b None (Some (seen m))) (seen (suc p)))) (cond b None (Some (seen m)))
      ≡ seen_if (cond a (cond b (tight_at ks i (suc p)) (cond c (tight_at ks i (suc p)) (tight_at ks i m))) (tight_at ks i m)).at
  unfolding tighter_of tight_at
  more p m false b c f g = rw f
  more p m true true c f g = rw (ne_eqb (suc p) 0 (λ e. absurd (omega arith)))
  more p m true false true f g = rw (g, ne_eqb (suc p) 0 (λ e. absurd (omega arith)))
  more p m true false false f g = rw (g, f)

  tight_more : (p : ℕ) → tight_tried (tight_on ks i p) i (step_after ks p) ≡ tight_on ks i (suc p)
  unfolding tight_tried tight_on tight_instant tried tight_at
  tight_more p =
      more p (tight_instant ks i p) (ltb (demand ks p) (demand ks (suc p))) (eqb (tight_instant ks i p) 0)
      (ltb (supply i (suc p) + demand ks (tight_instant ks i p)) (supply i (tight_instant ks i p) + demand ks (suc p)))
      refl
      refl

  -- an instant at which demand stands still changes nothing
  not_step : (m t before asked : ℕ) → asked ≤ before → (tried (tight_at ks i m) i t before asked).at ≡ m
  unfolding tried tight_at
  not_step m t before asked h = simp (le-ltb before asked h)

  tight_still : (p : ℕ) → demand ks (suc p) ≡ demand ks p → tight_instant ks i (suc p) ≡ tight_instant ks i p
  unfolding tight_instant
  tight_still p e = not_step (tight_instant ks i p) (suc p) (demand ks p) (demand ks (suc p)) (le_of_eq e)

  tight_until : (at next : ℕ) → ((u : ℕ) → at ≤ u → u < next → demand ks u ≡ demand ks at) → (u : ℕ) → at ≤ u → u < next → tight_instant ks i u ≡ tight_instant ks i at
  tight_until at next still zero l h =
      let e : zero ≡ at = omega arith in
      ap (λ (n : ℕ). tight_instant ks i n) e
  tight_until at next still (suc u) l h = split (dec_le at u) (λ g. tight_until at next still u g (omega arith))
    where
      split : Dec (at ≤ u) → (at ≤ u → tight_instant ks i u ≡ tight_instant ks i at) → tight_instant ks i (suc u) ≡ tight_instant ks i at
      split (yes g) earlier = tight_still u (still (suc u) l h ∙ sym (still u g (omega arith))) ∙ earlier g
      split (no g) earlier =
          let e : suc u ≡ at = omega arith in
          ap (λ (n : ℕ). tight_instant ks i n) e

  none : None ≡ tight_on ks i 0
  unfolding tight_on tight_instant
  none = refl

  pub best_start : (n : ℕ) → Best ks i n 1 None
  best_start n =
      record {
        last = 0;
        reached = omega arith;
        passed = omega arith;
        tight = λ u l h.
            let e : u ≡ 0 = omega arith in
            none ∙ ap (λ (m : ℕ). tight_on ks i m) (sym e);
      }

  tight_on_still : (at u : ℕ) → tight_instant ks i u ≡ tight_instant ks i at → tight_on ks i u ≡ tight_on ks i at
  unfolding tight_on
  tight_on_still at u e = ap (λ (t : ℕ). seen_if t) e

  -- one instant tried by a walk
  pub best_next : (n p next : ℕ) (best r : Option Tight) → suc p ≤ n → suc p < next → Best ks i n (suc p) best
      → ((u : ℕ) → suc p ≤ u → u < next → demand ks u ≡ demand ks (suc p)) → r ≡ tight_tried best i (step_after ks p) → Best ks i n next r
  best_next n p next best r h later b still e =
      record {
        last = suc p;
        reached = h;
        passed = later;
        tight = λ u l g.
            e
            ∙ ap (λ (x : Option Tight). tight_tried x i (step_after ks p)) (b.tight p (omega (arith, b.passed)) (omega arith))
            ∙ tight_more p
            ∙ sym (tight_on_still (suc p) u (tight_until (suc p) next still u l g));
      }

  -- what is known of the instants up to n: there is no step instant, or t is the tightest
  abbrev pub Known : ℕ → ℕ → Type 0
  Known n t = ((t ≡ 0) × ((p : ℕ) → suc p ≤ n → ¬ Step ks p)) ⊎ Tightest ks i n t

  -- one instant more: it becomes the tightest where every step instant before it is less tight, and changes nothing where it is no tighter
  newest : (n : ℕ) → Step ks n → ((p : ℕ) → suc p ≤ n → Step ks p → supply i (suc n) + demand ks (suc p) < supply i (suc p) + demand ks (suc n)) → Tightest ks i (suc n) (suc n)
  newest n s tighter =
      record {
        before = n;
        is = refl;
        step = s;
        within = omega arith;
        least = λ p l r.
            ⊎_elim
            (λ e. subst (λ (x : ℕ). supply i (suc n) + demand ks (suc x) ≤ supply i (suc x) + demand ks (suc n)) (sym e) (omega arith))
            (λ g. le_of_lt (tighter p g r))
            (up_to p n l);
        first = λ p l r. tighter p (le_of_suc-le-suc l) r;
      }

  older : (n m : ℕ) → Tightest ks i n m → (Step ks n → supply i m + demand ks (suc n) ≤ supply i (suc n) + demand ks m) → Tightest ks i (suc n) m
  older n m t looser =
      record {
        before = t.before;
        is = t.is;
        step = t.step;
        within = omega (arith, t.within);
        least = λ p l.
            ⊎_elim
            (λ e. subst (λ (x : ℕ). Step ks x → supply i m + demand ks (suc x) ≤ supply i (suc x) + demand ks m) (sym e) looser)
            (λ g. t.least p g)
            (up_to p n l);
        first = t.first;
      }

  -- no step instant
  still_known : (n m : ℕ) → ¬ Step ks n → Known n m → Known (suc n) m
  still_known n m h (inl k) = inl (k.0, λ p l. ⊎_elim (λ e. subst (λ (x : ℕ). ¬ Step ks x) (sym e) h) (λ g. k.1 p g) (up_to p n l))
  still_known n m h (inr t) = inr (older n m t (λ s. absurd (h s)))

  known_more : (n m : ℕ) → Known n m → (a b c : Bool) → ltb (demand ks n) (demand ks (suc n)) ≡ a → eqb m 0 ≡ b
      → ltb (supply i (suc n) + demand ks m) (supply i m + demand ks (suc n)) ≡ c
      → Known (suc n) (cond a (cond b (tight_at ks i (suc n)) (cond c (tight_at ks i (suc n)) (tight_at ks i m))) (tight_at ks i m)).at
  unfolding tight_at
  known_more n m k false b c e f g = still_known n m (λ s. not-le_of_lt s (ltb-false _ _ e)) k
  known_more n m (inl k) true true c e f g = inr (newest n (ltb-true _ _ e) (λ p l s. absurd (k.1 p l s)))
  known_more n m (inr t) true true c e f g = absurd (omega (arith, eqb-true m 0 f, t.is))
  known_more n m (inl k) true false c e f g = absurd (eqb-false m 0 f k.0)
  known_more n m (inr t) true false true e f g = inr (newest n (ltb-true _ _ e) (λ p l s. omega (arith, t.least p l s, ltb-true (supply i (suc n) + demand ks m) (supply i m + demand ks (suc n)) g)))
  known_more n m (inr t) true false false e f g = inr (older n m t (λ s. ltb-false _ _ g))

  pub tight_known : (n : ℕ) → Known n (tight_instant ks i n)
  unfolding tight_instant tried tight_at
  tight_known zero = inl (refl, λ p l. absurd (not-suc-le-zero l))
  tight_known (suc n) =
      known_more n (tight_instant ks i n) (tight_known n) (ltb (demand ks n) (demand ks (suc n))) (eqb (tight_instant ks i n) 0)
      (ltb (supply i (suc n) + demand ks (tight_instant ks i n)) (supply i (tight_instant ks i n) + demand ks (suc n)))
      refl
      refl
      refl

  pub tight_within : (n : ℕ) → tight_instant ks i n ≤ n
  tight_within n = ⊎_elim (λ k. omega (arith, k.0)) (λ t. t.within) (tight_known n)

  -- demand and supply of an instant up to the limit are small, so those of the tightest so far are
  pub demand_small : valid_tasks ks ≡ true → length ks ≤ most_tasks → (t : ℕ) → t ≤ limit → demand ks t ≤ most_tasks * (2 * limit)
  demand_small v few t h = le_trans (demand_bound ks v t) (mul-le-mul {m₂ = 2 * limit} few (omega arith))

  small_at : valid_tasks ks ≡ true → ValidInterface i → length ks ≤ most_tasks → (t : ℕ) → t ≤ limit → (b : Bool) → SmallBest (cond b None (Some (seen t)))
  small_at v w few t h true = tt
  small_at v w few t h false = record { units = le_trans (supply_le_time i w t) h; demand = demand_small v few t h }

  tight_on_small : valid_tasks ks ≡ true → ValidInterface i → length ks ≤ most_tasks → (n : ℕ) → n ≤ limit → SmallBest (tight_on ks i n)
  unfolding tight_on
  tight_on_small v w few n h = small_at v w few (tight_instant ks i n) (le_trans (tight_within n) h) _

  pub best_small : valid_tasks ks ≡ true → ValidInterface i → length ks ≤ most_tasks → (n at : ℕ) (best : Option Tight) → n ≤ limit → Best ks i n at best → SmallBest best
  best_small v w few n at best h b =
      subst SmallBest (sym (b.tight b.last (omega arith) b.passed)) (tight_on_small v w few b.last (omega (arith, b.reached)))

-- and so are those of the tightest instant of a scan
pub tight_small : (ks : List Task) (i : Interface) (n : ℕ) (best : Option Tight) → Scannable ks i n → best ≡ tight_on ks i n → SmallBest best
tight_small ks i n best s is = subst SmallBest (sym is) (tight_on_small ks i s.tasks (valid_interface_lem i s.interface) s.few n s.bounded)
