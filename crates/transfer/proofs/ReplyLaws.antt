-- A field keeps the low bytes of a number that is too large for it.
use Prim.Native.Nat.{ℕ, zero, suc, ◌+◌, ◌*◌, ◌/◌, ◌%◌, ◌^◌}
use mathlib.Core.Path.{◌≡◌, refl, ap, ap₂, ◌∙◌}
use mathlib.Core.List.{◌∷◌}
use native.Mathlib.Nat.{pow-suc, one-le-pow}
use native.Mathlib.Omega.{arith}
use lib.Arith.{mod-mul}
use Rattle.record.specs.Field.{encode}
use Rattle.record.specs.Writing.{numbers_bytes}

low_bytes : (n x : ℕ) → encode n (x % 256 ^ n) ≡ encode n x
unfolding encode
low_bytes zero x = refl
low_bytes (suc n) x =
    let e : x % 256 ^ suc n ≡ x / 256 % 256 ^ n * 256 + x % 256 = rw pow-suc (mod-mul x {m = 256 ^ n} {c = 256} (one-le-pow n 256 (omega arith)) (omega arith)) in
    let p : x % 256 ^ suc n % 256 ≡ x % 256 = rw e (omega arith) in
    let q : x % 256 ^ suc n / 256 ≡ x / 256 % 256 ^ n = rw e (omega arith) in
    ap₂ ◌∷◌ p (ap (encode n) q ∙ low_bytes n (x / 256))

-- of the second and the third of three
pub low_numbers : (a b c : ℕ) → numbers_bytes a (b % 4_294_967_296) (c % 4_294_967_296) ≡ numbers_bytes a b c
unfolding numbers_bytes
low_numbers a b c = rw (low_bytes 4 b, low_bytes 4 c)
