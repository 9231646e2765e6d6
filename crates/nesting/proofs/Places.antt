-- Where the components of a taken sheet stand: since their numbers rise, a number is that of one place only, and the offer found for it is the
-- one of the component there.
use Prim.Native.Nat.{ℕ, zero, suc, ◌≤◌, ◌<◌}
use mathlib.Core.List.{List, [], ◌∷◌}
use mathlib.Core.Path.{◌≡◌, refl, sym, ap, subst, ◌∙◌}
use native.Mathlib.Decide.{dec_lt}
use native.Mathlib.Nat.{le_refl}
use native.Mathlib.Omega.{arith}
use lib.ListN.{length, get_or, length-append, get_or-append}
use lib.Seq.{get_or_at}
use borrow.Author.Tests.{eq-eqb, ne_eqb}
use Rattle.budget.specs.declared.component.Component.{Component}
use Rattle.budget.specs.Component.{refused}
use Rattle.budget.specs.Refusal as refusal
use Rattle.record.specs.declared.layout.Pair.{Pair}
use Rattle.record.specs.Field.{Bytes}
use Rattle.sheet.specs.Check.{check, pairs_of}
use Rattle.sheet.proofs.NestedLaws.{taken_at}
use Rattle.transfer.specs.Pairing.{no_pair}
use Rattle.transfer.specs.Reading.{reading}
use Rattle.transfer.specs.RoundTrip.{entries_of}
use Rattle.transfer.proofs.Sheet.{Sheet, accepted_sheet}
use Rattle.tree.specs.numbers.Offer.{Offer}
use Rattle.tree.specs.Offer.{no_offer, offer_in, offering}
use Rattle.tree.specs.Tree.{load_at, offers_to, outcome_at}
use Rattle.tree.proofs.BelowLaws.{offer_is}
use Rattle.tree.proofs.NumberLaws.{StandsAt, numbers_rise, registered_stands}
use Rattle.nesting.specs.InSheet.{capacity_at, place_among}

-- ---- offers by their places

-- the first offer of a number
first_found : (os : List Offer) (p n : ℕ) → p < length os → (get_or os p no_offer).number ≡ n → ((q : ℕ) → q < p → (get_or os q no_offer).number ≡ n → ⊥)
    → offer_in os n ≡ get_or os p no_offer
unfolding offer_in
first_found [] p n h e apart = absurd (omega arith)
first_found (o ∷ os) zero n h e apart = rw (eq-eqb o.number n e)
first_found (o ∷ os) (suc p) n h e apart =
    rw (ne_eqb o.number n (apart 0 (omega arith))) (first_found os p n (omega arith) e (λ q l. apart (suc q) (omega arith)))

module _ (s : List ℕ) where
  -- the number of the component at a place, and its offer
  abbrev pub number_at : ℕ → ℕ
  number_at k = (reading s k).component.number

  abbrev pub offer_at : ℕ → Offer
  offer_at k = offering (reading s k).component (capacity_at s k)

  offers_long : (k : ℕ) → length (offers_to s k) ≡ k
  unfolding offers_to
  offers_long zero = refl
  offers_long (suc k) = length-append (offers_to s k) _ ∙ omega (arith, offers_long k)

  offer_there : (k p : ℕ) → p < k → get_or (offers_to s k) p no_offer ≡ offer_at p
  unfolding offers_to outcome_at load_at capacity_at
  offer_there zero p h = absurd (omega arith)
  offer_there (suc k) p h = by (dec_lt p k) (λ l. offer_there k p l)
    where
      by : Dec (p < k) → (p < k → get_or (offers_to s k) p no_offer ≡ offer_at p) → get_or (offers_to s (suc k)) p no_offer ≡ offer_at p
      by (yes l) before = get_or-append (offers_to s k) _ no_offer p (omega (arith, offers_long k)) ∙ before l
      by (no l) before =
          let same : p ≡ k = omega arith in
          rw same (get_or_at (offers_to s k) _ [] no_offer k (offers_long k) ∙ offer_is (reading s k).component (outcome_at s k))

-- the child of a pair whose parent stands at place k
pub record ChildFound (s : List ℕ) (k : ℕ) (p : Pair) : Type 0 where
  pub inside : place_among s (check s).count p.child < (check s).count
  pub offer : offer_in (offers_to s k) p.child ≡ offer_at s (place_among s (check s).count p.child)

-- ---- in a taken sheet

module _ (s : List ℕ) (bytes : Bytes s) (taken : (check s).refusal ≡ refusal.none) where
  sheet : Sheet s
  sheet = accepted_sheet s bytes taken

  inside_is : (k : ℕ) → k < (check s).count → k < length sheet.cs
  inside_is k h = subst (λ (n : ℕ). k < n) sheet.count h

  number_is : (k : ℕ) → number_at s k ≡ (get_or sheet.cs k refused).number
  number_is k = ap (λ (c : Component). c.number) (sheet.reads k)

  rise : (i j : ℕ) → i < j → j < (check s).count → number_at s i < number_at s j
  rise i j l h = omega (arith, number_is i, number_is j, numbers_rise sheet.cs 0 sheet.fits.rising i j l (inside_is j h))

  place_is : (k p : ℕ) → p < k → k ≤ (check s).count → place_among s k (number_at s p) ≡ p
  unfolding place_among
  place_is zero p h within = absurd (omega arith)
  place_is (suc k) p h within = by (dec_lt p k) (λ l. place_is k p l (omega arith))
    where
      by : Dec (p < k) → (p < k → place_among s k (number_at s p) ≡ p) → place_among s (suc k) (number_at s p) ≡ p
      by (yes l) before = rw (ne_eqb (number_at s k) (number_at s p) (λ e. omega (arith, e, rise p k l (omega arith)))) (before l)
      by (no l) before =
          let same : p ≡ k = omega arith in
          rw (eq-eqb (number_at s k) (number_at s p) (ap (number_at s) (sym same))) (sym same)

  offer_found : (k p : ℕ) → p < k → k ≤ (check s).count → offer_in (offers_to s k) (number_at s p) ≡ offer_at s p
  offer_found k p h within =
      first_found (offers_to s k) p (number_at s p) (omega (arith, offers_long s k)) (ap (λ (o : Offer). o.number) (offer_there s k p h))
      (λ q l e. omega (arith, rise q p l (omega arith), ap (λ (o : Offer). o.number) (offer_there s k q (omega arith)), e))
      ∙ offer_there s k p h

  child_stands : (k : ℕ) → k < (check s).count → (p : Pair) → p.child < number_at s k → StandsAt sheet.cs p.child → ChildFound s k p
  child_stands k h p larger w =
      let at = w.place in
      let in-sheet : at < (check s).count = rw sheet.count w.inside in
      let number : number_at s at ≡ p.child = number_is at ∙ w.number in
      let place : place_among s (check s).count p.child ≡ at =
      ap (place_among s (check s).count) (sym number) ∙ place_is (check s).count at in-sheet (le_refl (check s).count) in
      let before : at < k = lower at in-sheet number (dec_lt at k) in
      record {
        inside = rw place in-sheet;
        offer = ap (offer_in (offers_to s k)) (sym number) ∙ offer_found k at before (omega arith) ∙ ap (offer_at s) (sym place);
      }
    where
      lower : (at : ℕ) → at < (check s).count → number_at s at ≡ p.child → Dec (at < k) → at < k
      lower at i e (yes l) = l
      lower at i e (no l) = by (dec_lt k at)
        where
          by : Dec (k < at) → at < k
          by (yes g) = absurd (omega (arith, rise k at g i))
          by (no g) = let same : at ≡ k = omega arith in absurd (omega (arith, ap (number_at s) same))

  pub child_found : (k : ℕ) → k < (check s).count → (i : ℕ) → i < length (pairs_of s) → (get_or (pairs_of s) i no_pair).parent ≡ number_at s k
      → ChildFound s k (get_or (pairs_of s) i no_pair)
  child_found k h i l e =
      let p = get_or (pairs_of s) i no_pair in
      let same : p ≡ get_or sheet.ps i no_pair = ap (λ (ps : List Pair). get_or ps i no_pair) sheet.pairs in
      let w = taken_at (entries_of sheet.cs) sheet.ps sheet.fits.nested i no_pair (rw sheet.pairs at l) in
      child_stands k h p (omega (arith, w.larger, ap (λ (q : Pair). q.child) same, ap (λ (q : Pair). q.parent) same, e))
      (registered_stands sheet.cs p.child (rw same w.child))
