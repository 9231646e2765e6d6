-- The numbers of valid components rise from place to place: a number that is registered stands at a place, and the own tasks registered for a
-- place's number are those of the component there.
use Prim.Native.Nat.{ℕ, zero, suc, ◌+◌, ◌≤◌, ◌<◌}
use mathlib.Core.Bool.{true, false≢true}
use mathlib.Core.List.{List, [], ◌∷◌}
use mathlib.Core.Path.{◌≡◌, refl}
use native.Mathlib.Omega.{arith}
use lib.Dec.{eqb}
use lib.ListN.{length, get_or}
use borrow.Author.Tests.{eqb-true, eq-eqb, ne_eqb}
use Rattle.budget.specs.declared.component.Component.{Component}
use Rattle.budget.specs.Component.{refused}
use Rattle.budget.specs.Task.{tasks_of}
use Rattle.record.proofs.Cases.{either}
use Rattle.sheet.specs.Pairs.{registered, own_tasks}
use Rattle.transfer.specs.RoundTrip.{Rising, entries_of}

at_least : (cs : List Component) (l : ℕ) → Rising l cs → (k : ℕ) → k < length cs → l ≤ (get_or cs k refused).number
at_least [] l r k h = absurd (omega arith)
at_least (c ∷ cs) l r zero h = r.0
at_least (c ∷ cs) l r (suc k) h = omega (arith, r.0, at_least cs (c.number + 1) r.2 k (omega arith))

pub numbers_rise : (cs : List Component) (l : ℕ) → Rising l cs → (i j : ℕ) → i < j → j < length cs → (get_or cs i refused).number < (get_or cs j refused).number
numbers_rise [] l r i j h g = absurd (omega arith)
numbers_rise (c ∷ cs) l r i zero h g = absurd (omega arith)
numbers_rise (c ∷ cs) l r zero (suc j) h g = omega (arith, at_least cs (c.number + 1) r.2 j (omega arith))
numbers_rise (c ∷ cs) l r (suc i) (suc j) h g = numbers_rise cs (c.number + 1) r.2 i j (omega arith) (omega arith)

-- a component of that number stands at a place
pub record StandsAt (cs : List Component) (n : ℕ) : Type 0 where
  pub place : ℕ
  pub inside : place < length cs
  pub number : (get_or cs place refused).number ≡ n

pub registered_stands : (cs : List Component) (n : ℕ) → registered (entries_of cs) n ≡ true → StandsAt cs n
unfolding registered entries_of
registered_stands [] n e = absurd (false≢true e)
registered_stands (c ∷ cs) n e =
    either (eqb c.number n) (λ p. record { place = 0; inside = omega arith; number = eqb-true c.number n p })
    (λ p. let w = registered_stands cs n (rw p at e) in
    record { place = suc w.place; inside = omega (arith, w.inside); number = w.number })

pub own_tasks_lem : (cs : List Component) (l : ℕ) → Rising l cs → (k : ℕ) → k < length cs
    → own_tasks (entries_of cs) (get_or cs k refused).number ≡ length (tasks_of (get_or cs k refused).table)
unfolding own_tasks entries_of
own_tasks_lem [] l r k h = absurd (omega arith)
own_tasks_lem (c ∷ cs) l r zero h = rw (eq-eqb c.number c.number refl)
own_tasks_lem (c ∷ cs) l r (suc k) h =
    rw (ne_eqb c.number (get_or cs k refused).number (λ e. omega (arith, e, at_least cs (c.number + 1) r.2 k (omega arith))))
    (own_tasks_lem cs (c.number + 1) r.2 k (omega arith))
