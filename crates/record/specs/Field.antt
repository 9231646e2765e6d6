-- One field of a record (RULES 10): a number in so many bytes, its lowest byte first. A time has 4, any other number 2.
use Rattle.std.specs.Prelude.{ℕ, zero, suc, ◌+◌, ◌*◌, ◌/◌, ◌%◌, ◌<◌, List, [], ◌∷◌, get_or}

-- the bytes of a number, its lowest byte first
unfoldable pub encode : ℕ → ℕ → List ℕ
encode zero x = []
encode (suc n) x = x % 256 ∷ encode n (x / 256)

-- the number that stands in n bytes from a place on
unfoldable pub field : List ℕ → ℕ → ℕ → ℕ
field s at zero = 0
field s at (suc n) = get_or s at 0 + 256 * field s (at + 1) n

-- every element is a byte
abbrev pub Bytes : List ℕ → Type 0
Bytes s = (i : ℕ) → get_or s i 0 < 256
