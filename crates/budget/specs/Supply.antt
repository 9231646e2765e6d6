-- Supply at t, in closed form: the fewest units that t slots of the interface bring (RULES 6).
use Rattle.std.specs.Prelude.{ℕ, ◌+◌, ◌-◌, ◌*◌, ◌/◌, cond, leb, ltb, eqb}
use Rattle.budget.specs.declared.interface.Interface.{Interface}
use Rattle.budget.specs.Answered.{Amount}
use Rattle.budget.specs.Interface.{Π, Θ, Δ, interface_refusal}
use Rattle.budget.specs.Limits.{limit}
use Rattle.budget.specs.Refusal as refusal

-- how many whole periods lie behind the longest gap
unfoldable pub whole_periods : Interface → ℕ → ℕ
whole_periods i t = (t - (Δ i - Θ i)) / Π i

-- Π + Δ − 2Θ is the longest gap; a difference of natural numbers is 0 where it would be negative
unfoldable pub supply : Interface → ℕ → ℕ
supply i t =
    cond (ltb t (Δ i - Θ i)) 0
    (whole_periods i t * Θ i + (t - (Π i + Δ i - 2 * Θ i) - whole_periods i t * Π i))

-- the interface is judged first, then the instant: each is 9 out of its range (RULES 13)
unfoldable pub supply_refusal : Interface → ℕ → ℕ
supply_refusal i t =
    cond (eqb (interface_refusal i) refusal.none)
    (cond (leb t limit) refusal.none refusal.range)
    (interface_refusal i)

-- what the operation answers: the refusal and no units, or the supply
unfoldable pub supply_answer : Interface → ℕ → Amount
supply_answer i t =
    record {
      refusal = supply_refusal i t;
      units = record { 0 = cond (eqb (supply_refusal i t) refusal.none) (supply i t) 0 };
    }
