-- An interface (Π, Θ, Δ) (RULES 2).
use Rattle.std.specs.Prelude.{ℕ, Bool, cond, ◌&&◌, leb}
use Rattle.budget.specs.declared.interface.Interface.{Interface}
use Rattle.budget.specs.Limits.{limit}
use Rattle.budget.specs.Refusal as refusal

-- Π, Θ and Δ of an interface
abbrev pub Π : Interface → ℕ
Π i = i.period.0

abbrev pub Θ : Interface → ℕ
Θ i = i.capacity.0

abbrev pub Δ : Interface → ℕ
Δ i = i.deadline.0

-- the interface (Π, Θ, Δ)
abbrev pub interface : ℕ → ℕ → ℕ → Interface
interface p q d = record { period = record { 0 = p }; capacity = record { 0 = q }; deadline = record { 0 = d } }

-- the processor that one component has to itself: each slot is a period, and each is supplied
abbrev pub dedicated : Interface
dedicated = interface 1 1 1

-- the range of an interface: the capacity fits into the deadline, which is at least 1 and fits into the period
unfoldable pub valid_interface : Interface → Bool
valid_interface i = leb (Θ i) (Δ i) && (leb (Δ i) (Π i) && (leb (Π i) limit && leb 1 (Δ i)))

unfoldable pub interface_refusal : Interface → ℕ
interface_refusal i = cond (valid_interface i) refusal.none refusal.range
