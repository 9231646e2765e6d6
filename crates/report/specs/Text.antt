-- Numbers as text.
use Rattle.std.specs.Prelude.{ℕ, zero, suc, ◌+◌, ◌/◌, ◌%◌, true, false, List, [], ◌∷◌, ◌++◌, ltb, ℤ, pos, negsuc}

-- a number's decimal digits in ASCII, the most significant first; as many steps as the number has units are enough, since it falls at each
unfoldable pub digits : ℕ → ℕ → List ℕ
digits zero n = []
digits (suc steps) n = elim (ltb n 10) [ true ↦ (48 + n) ∷ [] | false ↦ digits steps (n / 10) ++ ((48 + n % 10) ∷ []) ]

unfoldable pub decimal : ℕ → List ℕ
decimal n = digits (suc n) n

-- a signed number: `-` before the digits of a negative one; `negsuc n` is −(n + 1)
unfoldable pub signed_text : ℤ → List ℕ
signed_text (pos n) = decimal n
signed_text (negsuc n) = 45 ∷ decimal (suc n)

-- a field with the space before it
abbrev pub spaced : List ℕ → List ℕ
spaced field = 32 ∷ field
