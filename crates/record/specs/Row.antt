-- A record as a row of fields, one behind the other (RULES 10). A row is the widths of its fields in bytes; a width of 0 fills a row up: no bytes, and the number 0.
use Rattle.std.specs.Prelude.{ℕ, ◌+◌, List, [], ◌∷◌, ◌++◌}
use Rattle.record.specs.Field.{encode, field}

-- the bytes of a row are as many as its widths together
abbrev pub row_length : List ℕ → ℕ
row_length [] = 0
row_length (w ∷ ws) = w + row_length ws

-- the bytes of a row of values; a value that isn't given is 0
abbrev pub row_bytes : List ℕ → List ℕ → List ℕ
row_bytes [] vs = []
row_bytes (w ∷ ws) [] = encode w 0 ++ row_bytes ws []
row_bytes (w ∷ ws) (v ∷ vs) = encode w v ++ row_bytes ws vs

-- the values that stand in a row from a place on
abbrev pub values_at : List ℕ → List ℕ → ℕ → List ℕ
values_at [] s at = []
values_at (w ∷ ws) s at = field s at w ∷ values_at ws s (at + w)
