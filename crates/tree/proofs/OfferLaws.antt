-- Offers in rows: a row of offers stands for a row of numbers, four each, place by place; four numbers more at its end are one offer more; and the
-- offer that is found for a number is the first of that number.
use Prim.Native.Nat.{ℕ, zero, suc, ◌+◌, ◌*◌, ◌-◌, ◌<◌}
use native.Mathlib.Omega.{arith}
use mathlib.Core.Path.{◌≡◌, refl, ap, ◌∙◌}
use mathlib.Core.Bool.{Bool, true, false, cond}
use mathlib.Core.List.{List, [], ◌∷◌, ◌++◌, map}
use lib.Dec.{eqb}
use lib.ListN.{length, take, set, length-append}
use lib.Seq.{sets, sets-eq, length-sets, take_at, length-take-le}
use Rattle.std.specs.List.{find}
use Rattle.std.specs.Prelude.{Option, Some, None}
use Rattle.budget.specs.declared.quantity.Units.{Units}
use Rattle.tree.specs.declared.offer.Offer as code
use Rattle.tree.specs.numbers.Offer.{Offer}
use Rattle.tree.specs.Offer.{no_offer, withheld, noted, offer_in, offered_in, offers_in, row_in}

-- ---- a row of offers as one of numbers

pub row_says : (os : List code.Offer) → offers_in (row_in os) ≡ map offered_in os
unfolding offers_in row_in
row_says [] = refl
row_says (o ∷ os) = ap (λ (l : List Offer). offered_in o ∷ l) (row_says os)

pub row_length : (os : List code.Offer) → length (row_in os) ≡ 4 * length os
unfolding row_in
row_length [] = refl
row_length (o ∷ os) = omega (arith, row_length os)

pub row_front : (k : ℕ) (os : List code.Offer) → take (4 * k) (row_in os) ≡ row_in (take k os)
unfolding row_in
row_front zero os = refl
row_front (suc k) [] = let e : 4 * suc k ≡ suc (4 * k + 3) = omega arith in rw e
row_front (suc k) (o ∷ os) =
    let e : 4 * suc k ≡ suc (suc (suc (suc (4 * k)))) = omega arith in
    rw e (ap (λ (l : List ℕ). noted (offered_in o) ++ l) (row_front k os))

-- what the first offers of the row say
pub row_before : (k : ℕ) (os : List code.Offer) → offers_in (take (4 * k) (row_in os)) ≡ map offered_in (take k os)
row_before k os = ap offers_in (row_front k os) ∙ row_says (take k os)

pub row_set : (k : ℕ) (os : List code.Offer) (o : code.Offer) → k < length os → row_in (set os k o) ≡ sets (row_in os) (4 * k) (noted (offered_in o))
unfolding row_in
row_set k [] o h = absurd (omega arith)
row_set zero (p ∷ os) o h = refl
row_set (suc k) (p ∷ os) o h =
    let e : 4 * suc k ≡ suc (suc (suc (suc (4 * k)))) = omega arith in
    rw e (ap (λ (l : List ℕ). noted (offered_in p) ++ l) (row_set k os o (omega arith)))

-- ---- the first offer of a number

-- what is said of an offer that is found, or of none
abbrev pub found : Option code.Offer → Offer
found None = no_offer
found (Some o) = offered_in o

found_by : (b : Bool) (o : code.Offer) (x : Offer) (r : Option code.Offer) → x ≡ found r → cond b (offered_in o) x ≡ found (cond b (Some o) r)
found_by true o x r e = refl
found_by false o x r e = e

pub found_is : (os : List code.Offer) (n : ℕ) → offer_in (map offered_in os) n ≡ found (find (λ (o : code.Offer). eqb o.number n) os)
unfolding offer_in
found_is [] n = refl
found_is (o ∷ os) n = found_by (eqb o.number n) o _ _ (found_is os n)

-- an offer with a capacity is not withheld
pub told_some : (o : code.Offer) (u : Units) → o.capacity ≡ Some u → (offered_in o).capacity ≡ withheld → ⊥
told_some o u e h =
    let t : u.0 < withheld = rw e at o.told in
    let n : u.0 ≡ withheld = rw e at h in
    omega arith

-- ---- one offer more

snoc : (zs : List ℕ) (k : ℕ) → length zs ≡ 4 * k → (o : Offer) → offers_in (zs ++ noted o) ≡ offers_in zs ++ (o ∷ [])
unfolding offers_in
snoc [] k e o = refl
snoc (n ∷ []) k e o = absurd (omega (arith, e))
snoc (n ∷ q ∷ []) k e o = absurd (omega (arith, e))
snoc (n ∷ q ∷ p ∷ []) k e o = absurd (omega (arith, e))
snoc (n ∷ q ∷ p ∷ d ∷ zs) k e o = ap (λ (os : List Offer). record { number = n; capacity = q; period = p; deadline = d } ∷ os) (snoc zs (k - 1) (omega (arith, e)) o)

-- a row of 256 times four places, of which the first k times four hold these offers
pub record Row (xs : List ℕ) (k : ℕ) (os : List Offer) : Type 0 where
  pub places : length xs ≡ 1024
  pub held : offers_in (take (4 * k) xs) ≡ os

pub row_none : (xs : List ℕ) → length xs ≡ 1024 → Row xs 0 []
unfolding offers_in
row_none xs e = record { places = e; held = refl }

-- an offer that is noted behind the first k
pub row_more : {xs : List ℕ} {k : ℕ} {os : List Offer} → Row xs k os → k < 256 → (o : Offer) {after : List ℕ} → after ≡ sets xs (4 * k) (noted o)
    → Row after (k + 1) (os ++ (o ∷ []))
row_more {xs} {k} {os} r h o {after} e =
    let zs = take (4 * k) xs in
    let long : length zs ≡ 4 * k = length-take-le (4 * k) xs (omega (arith, r.places)) in
    let first : take (4 * (k + 1)) after ≡ zs ++ noted o = ap (take (4 * (k + 1))) (e ∙ sets-eq (noted o) xs (4 * k) (omega (arith, r.places))) ∙ take_at (zs ++ noted o) _ (4 * (k + 1)) (omega (arith, long, length-append zs (noted o))) in
    record { places = ap length e ∙ length-sets xs (4 * k) (noted o) ∙ r.places; held = ap offers_in first ∙ snoc zs k long o ∙ ap (λ (l : List Offer). l ++ (o ∷ [])) r.held }
