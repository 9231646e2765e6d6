-- Legal supply (RULES 5) of a trace of zeros and ones whose first slot stands at place o of its period. In absolute time period k is the stretch
-- [kΠ, kΠ + Π) and the trace is the window [o, o + length): slot i stands at the absolute place o + i, and its place in its period is what dividing that by Π leaves.
use Rattle.std.specs.Prelude.{ℕ, ◌+◌, ◌-◌, ◌*◌, ◌≤◌, ◌<◌, Bool, true, cond, ◌&&◌, List, [], ◌∷◌, length, get_or, ltb, leb}
use Rattle.budget.specs.declared.interface.Interface.{Interface}
use Rattle.budget.specs.Interface.{Π, Θ, Δ}
use Rattle.trace.specs.Units.{units}

-- each slot is supplied (1) or not (0)
unfoldable pub zeros_and_ones : List ℕ → Bool
zeros_and_ones [] = true
zeros_and_ones (b ∷ s) = leb b 1 && zeros_and_ones s

-- the supplied slots of a trace
unfoldable pub supplied : List ℕ → ℕ
supplied [] = 0
supplied (b ∷ s) = b + supplied s

-- what the absolute place x counts: 1 if it lies outside the trace, else 1 if its slot is supplied and 0 if not
unfoldable pub counted : ℕ → List ℕ → ℕ → ℕ
counted o s x = cond (ltb x o) 1 (get_or s (x - o) 1)

-- the trace touches period k: some slot of it stands there
pub record Touches (i : Interface) (o : ℕ) (s : List ℕ) (k : ℕ) : Type 0 where
  pub slot : ℕ
  pub inside : slot < length s
  pub from : k * Π i ≤ o + slot
  pub until : o + slot < k * Π i + Π i

-- in each period that has a slot in the trace, the first Δ places count at least Θ: supplied slots, and places that the trace does not reach
abbrev pub Legal : Interface → ℕ → List ℕ → Type 0
Legal i o s = (k : ℕ) → Touches i o s k → Θ i ≤ units (counted o s) (k * Π i) (Δ i)
