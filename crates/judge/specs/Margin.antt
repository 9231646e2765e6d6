-- The margin: what supply has over demand at the step instant, of those up to L, where that is least, and the first such instant (RULES 8).
use Rattle.std.specs.Prelude.{ℕ, zero, suc, ◌+◌, ◌≤◌, ◌<◌, cond, List, ◌≡◌, leb, ltb, eqb, Option, Some, None, ℤ, pos}
use Rattle.std.proofs.Math.IntN.{sub_ℕ}
use Rattle.budget.specs.declared.component.Capacity.{Capacity}
use Rattle.budget.specs.declared.component.Capacity.TheVariants.{Stated, Asked}
use Rattle.budget.specs.declared.component.Component.{Component}
use Rattle.budget.specs.declared.interface.Interface.{Interface}
use Rattle.budget.specs.declared.task.Task.{Task}
use Rattle.budget.specs.Component.{interface_at, common_period_of, component_refusal}
use Rattle.budget.specs.Demand.{demand}
use Rattle.budget.specs.Refusal as refusal
use Rattle.budget.specs.Supply.{supply}
use Rattle.budget.specs.Task.{tasks_of}
use Rattle.judge.specs.declared.answer.Margin.{Margin}
use Rattle.judge.specs.numbers.Margined.{Margined}
use Rattle.judge.specs.numbers.Margined as Variant
use Rattle.judge.specs.numbers.Tight.{Tight}
use Rattle.judge.specs.Capacity.{capacity_of}

-- p + 1 is a step instant: demand there exceeds demand at p
abbrev pub Step : List Task → ℕ → Type 0
Step ks p = demand ks p < demand ks (suc p)

-- the step instant t has the least supply minus demand of all from 1 to n, and is the first that has it; a − b ≤ c − d is said as a + d ≤ c + b
pub record Tightest (ks : List Task) (i : Interface) (n t : ℕ) : Type 0 where
  pub before : ℕ
  pub is : t ≡ suc before
  pub step : Step ks before
  pub within : t ≤ n
  pub least : (p : ℕ) → suc p ≤ n → Step ks p → supply i t + demand ks (suc p) ≤ supply i (suc p) + demand ks t
  pub first : (p : ℕ) → suc p < t → Step ks p → supply i t + demand ks (suc p) < supply i (suc p) + demand ks t

-- a step instant with its supply and demand; instant 0 stands for none
unfoldable pub tight_at : List Task → Interface → ℕ → Tight
tight_at ks i t = record { at = t; units = supply i t; demand = demand ks t }

-- the tightest so far once the instant `at` has been tried
unfoldable pub tried : Tight → Interface → ℕ → ℕ → ℕ → Tight
tried best i at before asked =
    cond (ltb before asked)
    (cond (eqb best.at 0)
    (record { at = at; units = supply i at; demand = asked })
    (cond (ltb (supply i at + best.demand) (best.units + asked)) (record { at = at; units = supply i at; demand = asked }) best))
    best

-- the tightest step instant from 1 to n, or 0 where there is none
unfoldable pub tight_instant : List Task → Interface → ℕ → ℕ
tight_instant ks i zero = 0
tight_instant ks i (suc n) = (tried (tight_at ks i (tight_instant ks i n)) i (suc n) (demand ks n) (demand ks (suc n))).at

-- supply minus demand at t
abbrev pub margin_at : List Task → Interface → ℕ → ℤ
margin_at ks i t = sub_ℕ (supply i t) (demand ks t)

-- the least margin from 1 to n and its instant
unfoldable pub margin_on : List Task → Interface → ℕ → Margined
margin_on ks i n =
    let t = tight_instant ks i n in
    cond (eqb t 0) Variant.None (Variant.Least (margin_at ks i t) (record { 0 = t }))

-- a component is measured at its capacity, stated or found; without tasks, or answered none, it has no margin
unfoldable pub margined_at : Component → Capacity → Margined
margined_at c (Stated u) = margin_on (tasks_of c.table) (interface_at c u.0) (common_period_of c)
margined_at c Asked =
    cond (leb (capacity_of c) c.deadline.0)
    (margin_on (tasks_of c.table) (interface_at c (capacity_of c)) (common_period_of c))
    Variant.None

-- the margin's part of the operation's answer: the refusal, the least margin and its instant, or none
unfoldable pub margin_answer : Component → Margined
margin_answer c = cond (eqb (component_refusal c) refusal.none) (margined_at c c.capacity) (Variant.Refused (component_refusal c))

-- the margin and its instant as numbers: the instant is 0 where there is no margin
abbrev pub margin_of : Margined → ℤ
margin_of (Variant.Refused n) = pos 0
margin_of (Variant.Least m t) = m
margin_of Variant.None = pos 0

abbrev pub margin_instant_of : Margined → ℕ
margin_instant_of (Variant.Refused n) = 0
margin_instant_of (Variant.Least m t) = t.0
margin_instant_of Variant.None = 0

-- a margin as the answer's part, or none
abbrev pub margin_in : Option Margin → Margined
margin_in None = Variant.None
margin_in (Some m) = Variant.Least m.units m.at
