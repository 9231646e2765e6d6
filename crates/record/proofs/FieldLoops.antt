-- A field read byte by byte, from the highest down; and one written, against the 4 bytes that the library makes of a number, of which it is the front.
use Prim.Native.Nat.{ℕ, zero, suc, ◌+◌, ◌-◌, ◌*◌, ◌/◌, ◌%◌, ◌^◌, ◌≤◌, ◌<◌}
use mathlib.Core.Path.{◌≡◌, refl, ap, ap₂, ◌∙◌}
use mathlib.Core.List.{List, [], ◌∷◌, ◌++◌, append-nil}
use native.Mathlib.Nat.{pow-suc, pow-le-pow_right, lt_of_lt_of_le}
use native.Mathlib.Numerals.{add-one}
use native.Mathlib.Omega.{arith}
use lib.ListN.{length, get_or, take, drop, drop_of_length-le}
use Rattle.std.specs.Int.{w32, to_le_bytes}
use Rattle.record.specs.Field.{encode, field}

-- ---- writing

less : (n m x : ℕ) → n ≤ m → take n (encode m x) ≡ encode n x
unfolding encode
less zero m x h = refl
less (suc n) zero x h = absurd (omega arith)
less (suc n) (suc m) x h = ap (λ (l : List ℕ). x % 256 ∷ l) (less n m (x / 256) (omega arith))

wide : (x : ℕ) → to_le_bytes w32 x ≡ encode 4 x
unfolding encode
wide x =
    let a : x / 65536 ≡ x / 256 / 256 = omega arith in
    let b : x / 16777216 ≡ x / 256 / 256 / 256 = omega arith in
    rw (a, b)

pub front : (n x : ℕ) → n ≤ 4 → take n (to_le_bytes w32 x) ≡ encode n x
front n x h = ap (take n) (wide x) ∙ less n 4 x h

-- the bytes of a slice up to its end, filled with that front
pub filled : (l new : List ℕ) (end x : ℕ) → length l ≤ 4 → end ≡ length l → new ≡ take end (to_le_bytes w32 x) → new ++ drop end l ≡ encode (length l) x
filled l new end x h e f =
    let g : new ≡ encode (length l) x = f ∙ (ap (λ (n : ℕ). take n (to_le_bytes w32 x)) e ∙ front (length l) x h) in
    let n : drop end l ≡ [] = drop_of_length-le l {i = end} (omega arith) in
    rw (n, append-nil) g

-- ---- reading

-- from the highest byte down, so many of them are read: the number is the field that begins at the byte read last
pub record Read (s : List ℕ) (number count : ℕ) : Type 0 where
  pub few : count ≤ length s
  pub is : number ≡ field s (length s - count) count
  pub fits : number < 256 ^ count

module _ (s : List ℕ) where
  pub read_none : Read s 0 0
  unfolding field
  read_none = record { few = omega arith; is = refl; fits = omega arith }

  module _ (number count : ℕ) (r : Read s number count) where
    pub read_more : (byte next : ℕ) → count < length s → next ≡ count + 1 → byte ≡ get_or s (length s - 1 - count) 0 → byte < 256 → Read s (byte + 256 * number) next
    unfolding field
    read_more byte next h n e b =
        let p : length s - count ≡ length s - suc count + 1 = omega arith in
        let q : length s - 1 - count ≡ length s - suc count = omega arith in
        let f : byte ≡ get_or s (length s - suc count) 0 = e ∙ ap (λ (i : ℕ). get_or s i 0) q in
        rw (n, add-one)
        (record {
          few = omega arith;
          is = ap₂ (λ (x y : ℕ). x + 256 * y) f (r.is ∙ ap (λ (i : ℕ). field s i count) p);
          fits = rw pow-suc (omega (arith, r.fits));
        })

-- a number of fewer than 4 bytes has room for one byte more
pub small : (n x : ℕ) → n ≤ 3 → x < 256 ^ n → x < 256 ^ 3
small n x h b = lt_of_lt_of_le b (pow-le-pow_right {n = 256} (omega arith) h)
