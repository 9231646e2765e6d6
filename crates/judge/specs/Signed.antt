-- Of a signed margin: whether it is negative, and its 32 bits, which the host's reply holds (RULES 14).
use Rattle.std.specs.Prelude.{ℕ, ◌-◌, Bool, true, false, ℤ, pos, negsuc}

-- `negsuc n` is −(n + 1)
abbrev pub is_negative : ℤ → Bool
is_negative (pos n) = false
is_negative (negsuc n) = true

-- two's complement in 32 bits: −(n + 1) is 2 ^ 32 − (n + 1)
abbrev pub signed_bits : ℤ → ℕ
signed_bits (pos n) = n
signed_bits (negsuc n) = 4294967295 - n
