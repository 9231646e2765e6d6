-- Rows that the code can read: no field wider than 4 bytes, and values that fit their fields.
use Rattle.std.specs.Prelude.{ℕ, ◌^◌, ◌≤◌, ◌<◌, Bool, true, ◌&&◌, List, [], ◌∷◌, get_or, leb}

abbrev pub Narrow : List ℕ → Type 0
Narrow ws = (i : ℕ) → get_or ws i 0 ≤ 4

-- the same as a test of the widths
abbrev pub narrowly : List ℕ → Bool
narrowly [] = true
narrowly (w ∷ ws) = leb w 4 && narrowly ws

abbrev pub Held : List ℕ → List ℕ → Type 0
Held ws vs = (i : ℕ) → get_or vs i 0 < 256 ^ get_or ws i 0
