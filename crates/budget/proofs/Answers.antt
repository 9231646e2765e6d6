-- What an amount of service is answered as: the refusal of what is asked about, then that of the instant, then the amount. Demand and supply answer by the same tests, so the laws are over the refusal and the amount.
use Prim.Native.Nat.{ℕ, ◌≤◌}
use mathlib.Core.Path.{◌≡◌, refl}
use mathlib.Core.Bool.{Bool, true, false, cond}
use native.Mathlib.Omega.{arith}
use lib.Dec.{leb, eqb}
use borrow.Author.Tests.{le-leb, leb-true, ne_eqb, eqb-true, eqb-false}
use Rattle.budget.specs.declared.interface.Interface.{Interface}
use Rattle.budget.specs.Answered.{Amount}
use Rattle.budget.specs.declared.task.Table.{Table}
use Rattle.budget.specs.Demand.{demand, demand_refusal, demand_answer}
use Rattle.budget.specs.Interface.{interface_refusal, valid_interface}
use Rattle.budget.specs.Limits.{limit, most_tasks}
use Rattle.budget.specs.Refusal as refusal
use Rattle.budget.specs.Supply.{supply, supply_refusal, supply_answer}
use Rattle.budget.specs.Task.{tasks_of, valid_tasks}
use Rattle.budget.proofs.Ranges.{table_range_in}

-- a range test that is not refused was passed
pub passed : (b : Bool) → cond b refusal.none refusal.range ≡ refusal.none → b ≡ true
passed true e = refl
passed false e = absurd (omega (arith, e))

-- and one that is refused was not
pub failed : (b : Bool) → (cond b refusal.none refusal.range ≡ refusal.none → ⊥) → b ≡ false
failed true h = absurd (h refl)
failed false h = refl

-- the refusal where what is asked about has the refusal n, at t
abbrev pub at_instant : ℕ → ℕ → ℕ
at_instant n t = cond (eqb n refusal.none) (cond (leb t limit) refusal.none refusal.range) n

-- there is none where there is none of either
pub instant_passed : (n t : ℕ) → at_instant n t ≡ refusal.none → (n ≡ refusal.none) × (t ≤ limit)
instant_passed n t = go (eqb n refusal.none) (leb t limit) refl refl
  where
    go : (b w : Bool) → eqb n refusal.none ≡ b → leb t limit ≡ w → cond b (cond w refusal.none refusal.range) n ≡ refusal.none → (n ≡ refusal.none) × (t ≤ limit)
    go true true x y e = (eqb-true _ _ x, leb-true _ _ y)
    go true false x y e = absurd (omega (arith, e))
    go false w x y e = absurd (eqb-false _ _ x e)

-- the answer there, v being the amount
abbrev pub answer : ℕ → ℕ → Amount
answer r v = record { refusal = r; units = record { 0 = cond (eqb r refusal.none) v 0 } }

pub answer_refused : (n r v : ℕ) → n ≡ r → (n ≡ refusal.none → ⊥) → record { refusal = n; units = record { 0 = 0 } } ≡ answer r v
answer_refused n r v e h = rw (← e, ne_eqb n refusal.none h)

-- within the limits the supply is answered
pub supply_given : (i : Interface) (t : ℕ) → valid_interface i ≡ true → t ≤ limit → supply_answer i t ≡ record { refusal = refusal.none; units = record { 0 = supply i t } }
unfolding supply_answer supply_refusal interface_refusal
supply_given i t e h = rw (e, le-leb t limit h)

-- and so is the demand
pub demand_given : (table : Table) (t : ℕ) → table.count ≤ most_tasks → valid_tasks (tasks_of table) ≡ true → t ≤ limit → demand_answer table t ≡ record { refusal = refusal.none; units = record { 0 = demand (tasks_of table) t } }
unfolding demand_answer demand_refusal
demand_given table t h e l = rw (table_range_in table h e, le-leb t limit l)
