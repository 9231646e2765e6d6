-- A number's text as std prints it is the one that the rules define: both put the last digit behind those of a tenth.
use Prim.Native.Nat.{ℕ, suc, ◌^◌, ◌<◌}
use native.Mathlib.Omega.{arith}
use mathlib.Core.Path.{◌≡◌, sym, ap, ◌∙◌}
use mathlib.Core.List.{List, ◌∷◌, append_assoc}
use lib.IntN.{ℤ, pos, negsuc}
use borrow.Author.Tests.{lt-ltb, le-ltb}
use mir.Facts.{to_z-of_z}
use mir.Syntax.{w32}
use mir.Val.{SFits, to_z, of_z}
use Rattle.std.specs.Fmt.{signed_decimal}
use Rattle.std.specs.Fmt.{decimal as printed}
use Rattle.std.proofs.lemmas.Fmt.{AppendsLastDigit, decimal_from_appends, length-decimal-le_succ}
use Rattle.report.specs.Text.{digits, decimal, signed_text}

last_digit : AppendsLastDigit digits
unfolding digits
last_digit = record { one = λ k n h. rw (lt-ltb n 10 h, digits); more = λ k n h. rw (le-ltb n 10 h, digits) }

pub decimal_is : (n : ℕ) → n < 2 ^ 64 → printed n ≡ decimal n
unfolding decimal
decimal_is n h = sym (decimal_from_appends digits last_digit (suc n) n h (omega (arith, length-decimal-le_succ n h)))

pub signed_is : (z : ℤ) → SFits w32 z → signed_decimal z ≡ signed_text z
unfolding signed_text
signed_is (pos n) f = decimal_is n (omega (arith, f.sfits))
signed_is (negsuc n) f = ap (λ (ds : List ℕ). 45 ∷ ds) (decimal_is (suc n) (omega (arith, f.sfits)))

-- a number that a call is handed by its bits
pub handed_is : (z : ℤ) → SFits w32 z → signed_decimal (to_z w32 (of_z w32 z)) ≡ signed_text z
handed_is z f = ap signed_decimal (to_z-of_z f) ∙ signed_is z f

-- what shows a line that is put together of fields
pub ruleset as_text = (decimal_is, handed_is, append_assoc)
