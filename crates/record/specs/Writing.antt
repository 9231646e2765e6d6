-- What storing bytes at a place makes of a buffer, and what a writer answers (RULES 10, 11).
use Rattle.std.specs.Prelude.{ℕ, ◌≡◌, ◌+◌, cond, List, [], ◌∷◌, ◌++◌, length, take, drop, leb, eqb, Result, Ok, Err}
use Rattle.budget.specs.declared.refusal.Refusal.{Refusal}
use Rattle.budget.specs.Refusal as refusal
use Rattle.record.specs.Row.{row_bytes}

-- what a writer answers, in the numbers of RULES 12: the place behind what was written; refused: 0
pub record Written : Type 0 where
  pub refusal : ℕ
  pub place : ℕ

-- how the code's answer is read as such
abbrev pub written_in : Result ℕ Refusal → Written
written_in (Ok place) = record { refusal = refusal.none; place = place }
written_in (Err r) = record { refusal = refusal.number_of r; place = 0 }

-- which settles that answer: no two are read as the same
abbrev pub WritesApart : Type 0
WritesApart = (a b : Result ℕ Refusal) → written_in a ≡ written_in b → a ≡ b

-- the buffer with the bytes stored from a place on: every other byte stays
unfoldable pub stored : List ℕ → ℕ → List ℕ → List ℕ
stored buffer at bytes = take at buffer ++ bytes ++ drop (at + length bytes) buffer

-- a place past the buffer, or too little room behind it (RULES 12)
unfoldable pub room_refusal : ℕ → ℕ → ℕ → ℕ
room_refusal room at size = cond (leb (at + size) room) refusal.none refusal.room

-- what is answered, and the buffer as it is left: refused, the place is 0 and no byte changes
unfoldable pub written : ℕ → ℕ → List ℕ → Written
written n at bytes = record { refusal = n; place = cond (eqb n refusal.none) (at + length bytes) 0 }

unfoldable pub buffered : ℕ → List ℕ → ℕ → List ℕ → List ℕ
buffered n buffer at bytes = cond (eqb n refusal.none) (stored buffer at bytes) buffer

-- three numbers of 4 bytes each
abbrev pub numbers_row : List ℕ
numbers_row = 4 ∷ 4 ∷ 4 ∷ 0 ∷ 0 ∷ 0 ∷ 0 ∷ 0 ∷ []

unfoldable pub numbers_bytes : ℕ → ℕ → ℕ → List ℕ
numbers_bytes first second third = row_bytes numbers_row (first ∷ second ∷ third ∷ [])
