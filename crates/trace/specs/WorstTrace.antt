-- The trace that has the fewest supplied slots at each of its lengths: it begins behind the first Θ places of a period, and a slot of it is
-- supplied where supply rises.
use Rattle.std.specs.Prelude.{ℕ, zero, suc, ◌-◌, ◌%◌, List, [], ◌∷◌}
use Rattle.budget.specs.declared.interface.Interface.{Interface}
use Rattle.budget.specs.Interface.{Π, Θ}
use Rattle.budget.specs.Supply.{supply}

-- the n slots of f from slot x on
unfoldable pub slots : (ℕ → ℕ) → ℕ → ℕ → List ℕ
slots f x zero = []
slots f x (suc n) = f x ∷ slots f (suc x) n

-- the units of slot n: what supply rises by
unfoldable pub rise : Interface → ℕ → ℕ
rise i n = supply i (suc n) - supply i n

unfoldable pub worst_trace : Interface → ℕ → List ℕ
worst_trace i t = slots (rise i) 0 t

-- place Θ of its period, or place 0 where Θ = Π
abbrev pub worst_offset : Interface → ℕ
worst_offset i = Θ i % Π i
