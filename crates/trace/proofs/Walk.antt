-- One walk over the trace decides whether it is legal: it counts, period by period, the slots at places below Δ that are not supplied, and a trace is
-- legal exactly if no period has more than Δ − Θ of them. A period that has too many has them by the slot where the walk stops.
use Prim.Native.Nat.{ℕ, zero, suc, ◌+◌, ◌-◌, ◌*◌, ◌≤◌, ◌<◌}
use mathlib.Core.Path.{◌≡◌, refl, sym, ap, ◌∙◌}
use mathlib.Core.Bool.{Bool, true, false, cond, ◌&&◌, false≢true}
use mathlib.Core.List.{List, [], ◌∷◌}
use mathlib.Core.Logic.{◌↔◌}
use lib.ListN.{get_or}
use lib.Dec.{ltb, eqb}
use borrow.Author.Tests.{lt-ltb, le-ltb, eq-eqb, ne_eqb}
use native.Mathlib.Nat.{add-zero, zero-add, add-suc, suc-add, le_dest}
use native.Mathlib.Decide.{dec_le, ℕ_discrete}
use native.Mathlib.Numerals.{add-one}
use native.Mathlib.Omega.{arith}
use Rattle.budget.specs.declared.interface.Interface.{Interface}
use Rattle.budget.specs.Interface.{Π, Θ, Δ}
use Rattle.budget.proofs.Valid.{ValidInterface}
use Rattle.trace.specs.Legal.{zeros_and_ones, counted, Legal}
use Rattle.trace.proofs.Curve.{gain}
use Rattle.trace.proofs.Periods.{counted_before, counted_at, counted_bit, every_period}
use Rattle.trace.specs.Units.{units}
use Rattle.trace.proofs.Units.{units_same, units_none, units_both}

-- what the period lacks after the slot at this place
abbrev pub lacks : ℕ → ℕ → ℕ → ℕ → ℕ
lacks deadline place missing byte = cond (ltb place deadline && eqb byte 0) (missing + 1) missing

-- the place of the next slot, and what its period lacks before it
abbrev pub next : ℕ → ℕ → ℕ
next period place = cond (eqb (place + 1) period) 0 (place + 1)

abbrev pub carried : ℕ → ℕ → ℕ → ℕ
carried period place missing = cond (eqb (place + 1) period) 0 missing

-- no period lacks more than the slack, from a place on and with what its period lacks so far
unfoldable pub keeps : ℕ → ℕ → ℕ → ℕ → ℕ → List ℕ → Bool
keeps period deadline slack place missing [] = true
keeps period deadline slack place missing (b ∷ s) =
    cond (ltb slack (lacks deadline place missing b)) false
    (keeps period deadline slack (next period place) (carried period place (lacks deadline place missing b)) s)

-- whether place m of period k, in the supply f, is below the deadline and not supplied
lack : ℕ → ℕ → (ℕ → ℕ) → ℕ → ℕ → ℕ
lack p d f k m = cond (ltb m d) (1 - f (k * p + m)) 0

lack_none : (p d : ℕ) (f : ℕ → ℕ) (k m : ℕ) → f (k * p + m) ≡ 1 → lack p d f k m ≡ 0
unfolding lack
lack_none p d f k m e = rw e (go (ltb m d))
  where
    go : (t : Bool) → cond t (1 - 1) 0 ≡ 0
    go true = refl
    go false = refl

lacks_more : (p d : ℕ) (f : ℕ → ℕ) (k m l b : ℕ) → f (k * p + m) ≡ b → lacks d m l b ≡ l + lack p d f k m
unfolding lack
lacks_more p d f k m l b e = rw e (go (ltb m d) (ℕ_discrete b 0))
  where
    go : (t : Bool) → Dec (b ≡ 0) → cond (t && eqb b 0) (l + 1) l ≡ l + cond t (1 - b) 0
    go true (yes z) = rw z (omega arith)
    go true (no z) = rw (ne_eqb b 0 z) (omega arith)
    go false z = omega arith

-- what the first m places of period k lack, and what it lacks in all
abbrev lacking_by : ℕ → ℕ → (ℕ → ℕ) → ℕ → ℕ → ℕ
lacking_by p d f k m = units (lack p d f k) 0 m

lacking : ℕ → ℕ → (ℕ → ℕ) → ℕ → ℕ
lacking p d f k = lacking_by p d f k p

module _ (p d c : ℕ) (f : ℕ → ℕ) where
  -- from place m of period k on the supply f is the trace s, with what lies behind it counted as supplied
  abbrev Goes : ℕ → ℕ → List ℕ → Type 0
  Goes k m s = (n : ℕ) → f (k * p + m + n) ≡ get_or s n 1

  goes_on : (k m b : ℕ) (s : List ℕ) → Goes k m (b ∷ s) → Goes k (suc m) s
  goes_on k m b s h n = ap f (omega arith) ∙ h (suc n)

  goes_over : (k m b : ℕ) (s : List ℕ) → suc m ≡ p → Goes k m (b ∷ s) → Goes (suc k) 0 s
  goes_over k m b s e h n = ap f (omega arith) ∙ h (suc n)

  lacking_step : (k m b : ℕ) (s : List ℕ) → Goes k m (b ∷ s) → lacks d m (lacking_by p d f k m) b ≡ lacking_by p d f k (suc m)
  unfolding units
  lacking_step k m b s h = rw zero-add (lacks_more p d f k m _ b (ap f (omega arith) ∙ h 0))

  -- behind the trace nothing is lacking
  rest : (k m : ℕ) → m < p → Goes k m [] → lacking p d f k ≡ lacking_by p d f k m
  unfolding lacking
  rest k m l h =
      let (n, e) = le_dest l in
      omega (
        arith,
        gain (lack p d f k) m (suc n),
        ap (lacking_by p d f k) {x = m + suc n} {y = p} (omega arith),
        units_same (lack p d f k) (λ x. 0) m m (suc n) (λ x q. lack_none p d f k (m + x) (ap f (omega arith) ∙ h x)),
        units_none m (suc n),
      )

  later : (k m j : ℕ) → m < p → Goes k m [] → lacking p d f (k + suc j) ≡ 0
  unfolding lacking
  later k m j l h =
      units_same (lack p d f (k + suc j)) (λ x. 0) 0 0 p
      (λ x q. lack_none p d f (k + suc j) (0 + x) (ap f {y = k * p + m + (p - m + j * p + x)} (omega arith) ∙ h (p - m + j * p + x)))
      ∙ units_none 0 p

  lacking_most : (k m : ℕ) → m ≤ p → lacking_by p d f k m ≤ lacking p d f k
  unfolding lacking
  lacking_most k m l =
      let (n, e) = le_dest l in
      omega (arith, gain (lack p d f k) m n, ap (lacking_by p d f k) e)

  abbrev Exact : ℕ → Bool → Type 0
  Exact k t = (t ≡ true) ↔ ((j : ℕ) → lacking p d f (k + j) ≤ c)

  -- what is to be shown of the walk over s: it keeps on exactly if neither this period, with l lacking so far, nor a later one lacks too much
  abbrev From : List ℕ → Type 0
  From s = (k m l : ℕ) → m < p → l ≡ lacking_by p d f k m → l ≤ c → Goes k m s → Exact k (keeps p d c m l s)

  end : From []
  unfolding keeps
  end k m l h e q g = (λ t. all, λ a. refl)
    where
      all : (j : ℕ) → lacking p d f (k + j) ≤ c
      all zero = rw (add-zero k) (omega (arith, rest k m h g))
      all (suc j) = omega (arith, later k m j h g)

  -- the period is over
  over : (k : ℕ) (t : Bool) → lacking p d f k ≤ c → Exact (suc k) t → Exact k t
  over k t h x = (λ e. all (x.0 e), λ a. x.1 (λ j. rw suc-add (rw add-suc at (a (suc j)))))
    where
      all : ((j : ℕ) → lacking p d f (suc k + j) ≤ c) → (j : ℕ) → lacking p d f (k + j) ≤ c
      all a zero = rw (add-zero k) h
      all a (suc j) = rw add-suc (rw suc-add at (a j))

  slot : (b : ℕ) (s : List ℕ) → From s → (k m l : ℕ) → m < p → l ≡ lacking_by p d f k (suc m) → Goes k m (b ∷ s) → Dec (l ≤ c) → Dec (m + 1 ≡ p)
      → Exact k (cond (ltb c l) false (keeps p d c (next p m) (carried p m l) s))
  unfolding lacking units
  slot b s ih k m l h e g (no q) z =
      rw (lt-ltb c l (omega arith))
      (λ t. absurd (false≢true t), λ a. absurd (omega (arith, lacking_most k (suc m) h, rw add-zero at (a 0))))
  slot b s ih k m l h e g (yes q) (yes z) =
      rw (le-ltb c l q, eq-eqb (m + 1) p z)
      (over k _ (omega (arith, ap (lacking_by p d f k) {x = suc m} {y = p} (omega arith))) (ih (suc k) 0 0 (omega arith) refl (omega arith) (goes_over k m b s (omega arith) g)))
  slot b s ih k m l h e g (yes q) (no z) =
      rw (le-ltb c l q, ne_eqb (m + 1) p z) (ih k (m + 1) l (omega arith) (rw add-one e) q (rw add-one (goes_on k m b s g)))

  exact : (s : List ℕ) → From s
  unfolding keeps
  exact [] k m l h e q g = end k m l h e q g
  exact (b ∷ s) k m l h e q g =
      slot b s (exact s) k m (lacks d m l b) h (rw e (lacking_step k m b s g)) g (dec_le (lacks d m l b) c) (ℕ_discrete (m + 1) p)

-- what a period lacks and what it counts are its places below the deadline
lacks_or_counts : (p d : ℕ) (f : ℕ → ℕ) → ((x : ℕ) → f x ≤ 1) → d ≤ p → (k : ℕ) → lacking p d f k + units f (k * p) d ≡ d
unfolding lacking lack
lacks_or_counts p d f one h k =
    let (r, e) = le_dest h in
    omega (
      arith,
      gain (lack p d f k) d r,
      ap (units (lack p d f k) 0) e,
      units_both (lack p d f k) f 0 (k * p) d (λ m l. simp (zero-add, lt-ltb m d l) (omega (arith, one (k * p + m)))),
      units_same (lack p d f k) (λ x. 0) d d r (λ m l. simp (le-ltb (d + m) d (omega arith))),
      units_none d r,
    )

-- the walk from the trace's offset answers whether the trace is legal
pub legal_exactly : (i : Interface) → ValidInterface i → (o : ℕ) → o < Π i → (s : List ℕ) → zeros_and_ones s ≡ true
    → (keeps (Π i) (Δ i) (Δ i - Θ i) o 0 s ≡ true) ↔ Legal i o s
legal_exactly i v o h s bits = (λ t. (every_period i v o s).1 (owes (walk.0 t)), λ l. walk.1 (lacks_few ((every_period i v o s).0 l)))
  where
    sums : (k : ℕ) → lacking (Π i) (Δ i) (counted o s) k + units (counted o s) (k * Π i) (Δ i) ≡ Δ i
    sums k = lacks_or_counts (Π i) (Δ i) (counted o s) (counted_bit o s bits) v.within k

    owes : ((k : ℕ) → lacking (Π i) (Δ i) (counted o s) (0 + k) ≤ Δ i - Θ i) → (k : ℕ) → Θ i ≤ units (counted o s) (k * Π i) (Δ i)
    owes a k = omega (arith, sums k, rw zero-add at (a k))

    lacks_few : ((k : ℕ) → Θ i ≤ units (counted o s) (k * Π i) (Δ i)) → (k : ℕ) → lacking (Π i) (Δ i) (counted o s) (0 + k) ≤ Δ i - Θ i
    lacks_few a k = rw zero-add (omega (arith, sums k, a k))

    before : 0 ≡ lacking_by (Π i) (Δ i) (counted o s) 0 o
    before =
        sym
        (units_same (lack (Π i) (Δ i) (counted o s) 0) (λ x. 0) 0 0 o
        (λ m l. lack_none (Π i) (Δ i) (counted o s) 0 (0 + m) (counted_before o s (0 * Π i + (0 + m)) (omega arith)))
        ∙ units_none 0 o)

    walk : (keeps (Π i) (Δ i) (Δ i - Θ i) o 0 s ≡ true) ↔ ((k : ℕ) → lacking (Π i) (Δ i) (counted o s) (0 + k) ≤ Δ i - Θ i)
    walk = exact (Π i) (Δ i) (Δ i - Θ i) (counted o s) s 0 o 0 h before (omega arith) (λ n. ap (counted o s) (omega arith) ∙ counted_at o s n)
