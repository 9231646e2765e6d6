-- The smallest capacity: a larger one supplies no less, so one walk over the instants raises it to what each asks for.
use Prim.Native.Nat.{ℕ, suc, ◌+◌, ◌≤◌, ◌<◌, suc-le-suc}
use mathlib.Core.Path.{◌≡◌, refl, sym, ◌∙◌, ap}
use mathlib.Core.Bool.{Bool, true, false}
use mathlib.Core.List.{List}
use borrow.Author.Tests.{le-leb, lt-leb}
use native.Mathlib.Decide.{dec_le}
use native.Mathlib.Nat.{le_of_suc-le-suc, le_trans, lt_of_le_of_lt, not-le_of_lt, lt_of_not-le, not-suc-le-zero}
use native.Mathlib.Omega.{arith}
use Rattle.std.specs.Prelude.{Some, None}
use Rattle.budget.specs.declared.component.Component.{Component}
use Rattle.budget.specs.declared.interface.Interface.{Interface}
use Rattle.budget.specs.declared.task.Task.{Task}
use Rattle.budget.specs.Component.{common_period_of}
use Rattle.budget.specs.Demand.{demand}
use Rattle.budget.specs.Interface.{interface, valid_interface}
use Rattle.budget.specs.Supply.{supply}
use Rattle.budget.specs.Task.{tasks_of}
use Rattle.budget.proofs.SupplyLaws.{supply_capacity}
use Rattle.budget.proofs.Valid.{ValidInterface, valid_interface_lem, interface_valid}
use Rattle.judge.specs.Capacity.{smallest_capacity, capacity_of}
use Rattle.judge.specs.Verdict.{accepts}
use Rattle.judge.specs.inner.Raise.{Enough}
use Rattle.judge.specs.inner.Whole.{capacity_found}
use Rattle.judge.proofs.SearchLaws.{smallest_only}
use Rattle.judge.proofs.VerdictLaws.{FitsBefore, fits_start, fits_on, accepts_fits, fits_accepts}

-- halving: every capacity from `from` and below `low` is short, and `high` is enough or past the deadline
pub record Halving (p d from at asked low high : ℕ) : Type 0 where
  pub above : from ≤ low
  pub order : low ≤ high
  pub within : high ≤ suc d
  pub short : (q : ℕ) → from ≤ q → q < low → supply (interface p q d) at < asked
  pub fits : high ≤ d → asked ≤ supply (interface p high d) at

-- a period and a deadline in range with one capacity are so with every capacity up to the deadline, and supply grows with it
module _ (p d a : ℕ) (v : valid_interface (interface p a d) ≡ true) where
  pub valid_capacity : (q : ℕ) → q ≤ d → ValidInterface (interface p q d)
  valid_capacity q h =
      let w = valid_interface_lem (interface p a d) v in
      record { fits = h; within = w.within; bounded = w.bounded; some = w.some }

  pub capacity_valid : (q : ℕ) → q ≤ d → valid_interface (interface p q d) ≡ true
  capacity_valid q h = interface_valid (interface p q d) (valid_capacity q h)

  pub supply_grows : (q r t : ℕ) → q ≤ r → r ≤ d → supply (interface p q d) t ≤ supply (interface p r d) t
  supply_grows q r t h g =
      supply_capacity (interface p q d) (interface p r d) (valid_capacity q (le_trans h g)) (valid_capacity r g) refl refl h t

  module _ (from at asked : ℕ) where
    pub halving_start : from ≤ d → supply (interface p from d) at < asked → Halving p d from at asked (from + 1) (d + 1)
    halving_start h s =
        record {
          above = omega arith;
          order = omega arith;
          within = omega arith;
          short = λ q l g. lt_of_le_of_lt (supply_grows q from at (omega arith) h) s;
          fits = λ g. absurd (omega (arith, g));
        }

    pub halving_up : (low high middle : ℕ) → Halving p d from at asked low high → low ≤ middle → middle < high → supply (interface p middle d) at < asked → Halving p d from at asked (middle + 1) high
    halving_up low high middle w l h s =
        record {
          above = omega (arith, w.above);
          order = omega arith;
          within = w.within;
          short = λ q f g. lt_of_le_of_lt (supply_grows q middle at (omega arith) (omega (arith, w.within))) s;
          fits = w.fits;
        }

-- a short instant up to n is not accepted
short_accepts : (ks : List Task) (i : Interface) (n at : ℕ) → 1 ≤ at → at ≤ n → supply i at < demand ks at → accepts ks i n ≡ false
short_accepts ks i n at some h s = pick (accepts ks i n) refl
  where
    pick : (b : Bool) → accepts ks i n ≡ b → b ≡ false
    pick true e = absurd (not-le_of_lt s (accepts_fits ks i n e at some (suc-le-suc h)))
    pick false e = refl

-- what a walk over the instants has shown before `at`: the capacity fits there, and every smaller one is short
pub record Found (ks : List Task) (p d n at q : ℕ) : Type 0 where
  pub within : q ≤ d
  pub fits : FitsBefore ks (interface p q d) at
  pub short : (j : ℕ) → j < q → accepts ks (interface p j d) n ≡ false

module _ (ks : List Task) (p d n : ℕ) where
  pub found_start : Found ks p d n 1 0
  found_start = record { within = omega arith; fits = fits_start ks (interface p 0 d); short = λ j h. absurd (not-suc-le-zero h) }

  pub found_end : (at q : ℕ) → Found ks p d n at q → n < at → smallest_capacity ks p d n ≡ q
  unfolding smallest_capacity
  found_end at q f h =
      smallest_only _ (suc d) q
      (record {
        within = omega (arith, f.within);
        before = f.short;
        passes = λ l. fits_accepts ks (interface p q d) n (λ u some g. f.fits u some (omega arith));
      })

  -- raised at `at`: every capacity passed over is short there
  module _ (at q : ℕ) (f : Found ks p d n at q) (some : 1 ≤ at) (h : at ≤ n) where
    raised_short : (r : ℕ) → ((j : ℕ) → q ≤ j → j < r → supply (interface p j d) at < demand ks at) → (j : ℕ) → j < r → accepts ks (interface p j d) n ≡ false
    raised_short r short j l = split (dec_le q j)
      where
        split : Dec (q ≤ j) → accepts ks (interface p j d) n ≡ false
        split (yes g) = short_accepts ks (interface p j d) n at some h (short j g l)
        split (no g) = f.short j (lt_of_not-le g)

    pub found_none : ((j : ℕ) → q ≤ j → j ≤ d → supply (interface p j d) at < demand ks at) → smallest_capacity ks p d n ≡ suc d
    unfolding smallest_capacity
    found_none short =
        smallest_only _ (suc d) (suc d)
        (record { within = omega arith; before = raised_short (suc d) (λ j g l. short j g (le_of_suc-le-suc l)); passes = λ l. absurd (omega (arith, l)) })

    pub found_on : (a : ℕ) (v : valid_interface (interface p a d) ≡ true) (r : ℕ) → Enough (interface p q d) at (demand ks at) r
        → (next : ℕ) → ((u : ℕ) → at ≤ u → u < next → demand ks u ≡ demand ks at) → Found ks p d n next r
    found_on a v r w next still =
        record {
          within = w.within;
          fits =
              fits_on ks (interface p r d) (valid_capacity p d a v r w.within) at next
              (λ u l m. le_trans (f.fits u l m) (supply_grows p d a v q r u w.up w.within))
              w.fits
              still;
          short = raised_short r w.short;
        }

-- what a walk up to L finds is the component's smallest capacity, if there is one
module _ (c : Component) (n : ℕ) (whole : n ≡ common_period_of c) (q : ℕ) (found : smallest_capacity (tasks_of c.table) c.period.0 c.deadline.0 n ≡ q) where
  capacity_is : capacity_of c ≡ q
  unfolding capacity_of
  capacity_is = ap (λ (m : ℕ). smallest_capacity (tasks_of c.table) c.period.0 c.deadline.0 m) (sym whole) ∙ found

  pub some_found : q ≤ c.deadline.0 → Some (record { 0 = q }) ≡ capacity_found c
  unfolding capacity_found
  some_found h = rw (capacity_is, le-leb q c.deadline.0 h)

  pub none_found : c.deadline.0 < q → None ≡ capacity_found c
  unfolding capacity_found
  none_found h = rw (capacity_is, lt-leb q c.deadline.0 h)
