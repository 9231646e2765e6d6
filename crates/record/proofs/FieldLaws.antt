-- What holds for fields of every width: a number below 256 to the width is read back from its bytes, and the bytes that stand in a field are those of its number.
use Prim.Native.Nat.{ℕ, zero, suc, ◌+◌, ◌*◌, ◌/◌, ◌%◌, ◌^◌, ◌≤◌, ◌<◌}
use mathlib.Core.Path.{◌≡◌, refl, sym, ap, ap₂, ◌∙◌}
use mathlib.Core.List.{List, [], ◌∷◌, ◌++◌}
use native.Mathlib.Nat.{pow-suc, zero-add, suc-add}
use native.Mathlib.Numerals.{add-one}
use native.Mathlib.Omega.{arith}
use lib.ListN.{length, get_or, take, drop, take-append-drop, length-take, length-drop}
use lib.Seq.{drop-cons, drop-drop}
use Rattle.record.specs.Field.{encode, field, Bytes}

-- a field does not see what stands before it
field_shift : (b : ℕ) (s : List ℕ) (at n : ℕ) → field (b ∷ s) (suc at) n ≡ field s at n
unfolding field
field_shift b s at zero = refl
field_shift b s at (suc n) =
    ap (λ (i : ℕ). get_or s at 0 + 256 * field (b ∷ s) i n) (add-one (suc at))
    ∙ ap (λ (x : ℕ). get_or s at 0 + 256 * x) (field_shift b s (suc at) n ∙ ap (λ (i : ℕ). field s i n) (sym (add-one at)))

-- nor any row of bytes
pub field_past : (a s : List ℕ) (at n : ℕ) → field (a ++ s) (length a + at) n ≡ field s at n
field_past [] s at n = rw zero-add
field_past (b ∷ a) s at n = rw suc-add (field_shift b (a ++ s) (length a + at) n ∙ field_past a s at n)

pub length_encode : (n x : ℕ) → length (encode n x) ≡ n
unfolding encode
length_encode zero x = refl
length_encode (suc n) x = ap suc (length_encode n (x / 256))

pub decode_encode : (n x : ℕ) (rest : List ℕ) → x < 256 ^ n → field (encode n x ++ rest) 0 n ≡ x
unfolding field encode
decode_encode zero x rest h = omega (arith, h)
decode_encode (suc n) x rest h =
    let g : x < 256 ^ n * 256 = rw pow-suc at h in
    let e : field (x % 256 ∷ (encode n (x / 256) ++ rest)) 1 n ≡ x / 256 =
    field_shift (x % 256) (encode n (x / 256) ++ rest) 0 n
    ∙ decode_encode n (x / 256) rest (omega arith) in
    ap (λ (y : ℕ). x % 256 + 256 * y) e ∙ omega arith

pub encode_decode : (n : ℕ) (s : List ℕ) (at : ℕ) → Bytes s → at + n ≤ length s → encode n (field s at n) ≡ take n (drop at s)
unfolding field encode
encode_decode zero s at b h = refl
encode_decode (suc n) s at b h =
    let low : get_or s at 0 < 256 = b at in
    let rest = field s (at + 1) n in
    let p : (get_or s at 0 + 256 * rest) % 256 ≡ get_or s at 0 = omega arith in
    let q : (get_or s at 0 + 256 * rest) / 256 ≡ rest = omega arith in
    ap₂ ◌∷◌ p (ap (encode n) q ∙ (encode_decode n s (at + 1) b (omega arith) ∙ ap (λ (i : ℕ). take n (drop i s)) (add-one at)))
    ∙ sym (ap (take (suc n)) (drop-cons s at 0 (omega arith)))

-- what is left from a field on is the field's bytes and what is left behind it
pub field_bytes : (n : ℕ) (s : List ℕ) (at : ℕ) → Bytes s → at + n ≤ length s → drop at s ≡ encode n (field s at n) ++ drop (at + n) s
field_bytes n s at b h =
    sym (take-append-drop n (drop at s)) ∙ ap₂ ◌++◌ (sym (encode_decode n s at b h)) (drop-drop n at s)

-- a field holds a number below 256 to its width
pub field_below : (n : ℕ) (s : List ℕ) (at : ℕ) → Bytes s → field s at n < 256 ^ n
unfolding field
field_below zero s at b = omega arith
field_below (suc n) s at b =
    let low : get_or s at 0 < 256 = b at in
    let high : field s (at + 1) n < 256 ^ n = field_below n s (at + 1) b in
    rw pow-suc (omega arith)

-- a field is seen alike in the part that it is
pub field_part : (n : ℕ) (s : List ℕ) (at : ℕ) → at + n ≤ length s → field (take n (drop at s)) 0 n ≡ field s at n
unfolding field
field_part zero s at h = refl
field_part (suc n) s at h =
    ap (λ (l : List ℕ). field (take (suc n) l) 0 (suc n)) (drop-cons s at 0 (omega arith))
    ∙ ap (λ (x : ℕ). get_or s at 0 + 256 * x)
    (field_shift (get_or s at 0) (take n (drop (suc at) s)) 0 n
    ∙ (ap (λ (i : ℕ). field (take n (drop i s)) 0 n) (sym (add-one at)) ∙ field_part n s (at + 1) (omega arith)))

-- the part that a field is, as the code lends it
pub part_long : (n m : ℕ) (s : List ℕ) (at : ℕ) → m ≡ n → at + n ≤ length s → length (take m (drop at s)) ≡ n
part_long n m s at e h = rw (length-take, length-drop) (omega arith)

pub field_lent : (n m : ℕ) (s : List ℕ) (at x : ℕ) → m ≡ n → at + n ≤ length s → x ≡ field (take m (drop at s)) 0 (length (take m (drop at s))) → x ≡ field s at n
field_lent n m s at x e h v =
    v ∙ (ap₂ (λ (a b : ℕ). field (take a (drop at s)) 0 b) e (part_long n m s at e h) ∙ field_part n s at h)
