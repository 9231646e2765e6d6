-- Judging for one place what it needs alone gives what judging all gives: the numbers that are wanted hold with each parent its children, and two
-- lists of offers that agree where a number is wanted give a wanted parent the same children.
use Prim.Native.Nat.{ℕ, zero, suc, ◌+◌, ◌-◌, ◌≤◌, ◌<◌}
use native.Mathlib.Nat.{le_refl}
use native.Mathlib.Numerals.{add-one}
use native.Mathlib.Omega.{arith}
use mathlib.Core.Bool.{Bool, true, false, cond, ◌||◌, or_assoc, or-false, or-true, true≢false}
use mathlib.Core.List.{List, [], ◌∷◌, ◌++◌, reverse}
use mathlib.Core.Path.{◌≡◌, refl, sym, ap, ap₂, ◌∙◌}
use lib.Dec.{eqb}
use lib.ListN.{length, get_or, drop, drop_of_length-le}
use lib.Seq.{drop-cons}
use Rattle.std.specs.List.{list_any}
use Rattle.std.specs.Prelude.{nat_eq}
use borrow.Author.Tests.{eqb-true, eq-eqb}
use Rattle.budget.specs.declared.component.Component.{Component}
use Rattle.judge.specs.numbers.Judged.{Judged}
use Rattle.judge.specs.numbers.Judged.{Refused, Answered}
use Rattle.judge.specs.declared.answer.Verdict.TheVariants as Verdict
use Rattle.record.specs.declared.layout.Pair.{Pair}
use Rattle.record.proofs.Cases.{cases, either}
use Rattle.tree.specs.numbers.Outcome.{Outcome}
use Rattle.tree.specs.numbers.Offer.{Offer}
use Rattle.tree.specs.Offer.{offering, offered_on, offer_of, offer_in}
use Rattle.tree.specs.Outcome.{outcome_of}
use Rattle.tree.specs.Workload.{children, load_on}
use Rattle.std.proofs.lemmas.List.{get_or-reverse, length-reverse}
use Rattle.tree.specs.inner.Below.{holds, wanted_of, outcome_wanted, offers_below}

-- ---- rows of numbers

or_left : (a b : Bool) → a ≡ true → (a || b) ≡ true
or_left a b e = rw e

-- a row that is searched says whether a number stands in it
pub contained : (ms : List ℕ) (n : ℕ) → list_any (λ (m : ℕ). nat_eq m n) ms ≡ holds ms n
unfolding holds
contained [] n = refl
contained (m ∷ ms) n = ap (λ (b : Bool). eqb m n || b) (contained ms n)

-- one number more
pub holds_more : (ms : List ℕ) (m n : ℕ) → holds (ms ++ (m ∷ [])) n ≡ (holds ms n || eqb m n)
unfolding holds
holds_more [] m n = or-false (eqb m n)
holds_more (k ∷ ms) m n = ap (λ (b : Bool). eqb k n || b) (holds_more ms m n) ∙ sym (or_assoc (eqb k n) _ _)

holds_still : (ms : List ℕ) (m n : ℕ) → holds ms n ≡ true → holds (ms ++ (m ∷ [])) n ≡ true
holds_still ms m n h = holds_more ms m n ∙ or_left (holds ms n) _ h

holds_last : (ms : List ℕ) (m : ℕ) → holds (ms ++ (m ∷ [])) m ≡ true
holds_last ms m = holds_more ms m m ∙ (ap (λ (b : Bool). holds ms m || b) (eq-eqb m m refl) ∙ or-true (holds ms m))

-- ---- the numbers that are wanted

-- pairs as the rules take them: the children rise, and each parent is larger than its child
abbrev pub Ordered : ℕ → List Pair → Type 0
Ordered lowest [] = Unit {0}
Ordered lowest (p ∷ ps) = (lowest ≤ p.child) × (p.child < p.parent) × Ordered (suc p.child) ps

-- with a parent that is wanted its children are
abbrev pub Closed : List ℕ → List Pair → Type 0
Closed ws [] = Unit {0}
Closed ws (p ∷ ps) = (holds ws p.parent ≡ true → holds ws p.child ≡ true) × Closed ws ps

-- a smaller number makes no pair's parent wanted
closed_by : (ws : List ℕ) (m parent child : ℕ) → (holds ws parent ≡ true → holds ws child ≡ true) → m < parent
    → holds (ws ++ (m ∷ [])) parent ≡ true → holds (ws ++ (m ∷ [])) child ≡ true
closed_by ws m parent child c h w =
    either (holds ws parent)
    (λ e. holds_still ws m child (c e))
    (λ e. let is : eqb m parent ≡ true = sym (ap (λ (b : Bool). b || eqb m parent) e) ∙ sym (holds_more ws m parent) ∙ w in
    absurd (omega (arith, eqb-true m parent is)))

closed_more : (ws : List ℕ) (m : ℕ) (ps : List Pair) (lowest : ℕ) → m < lowest → Ordered lowest ps → Closed ws ps → Closed (ws ++ (m ∷ [])) ps
closed_more ws m [] lowest h o c = tt
closed_more ws m (p ∷ ps) lowest h o c =
    (closed_by ws m p.parent p.child c.0 (omega (arith, o.0, o.1)), closed_more ws m ps (suc p.child) (omega (arith, o.0)) o.2 c.1)

pub wanted_closed : (ps : List Pair) (n lowest : ℕ) → Ordered lowest ps → Closed (wanted_of ps n) ps
unfolding wanted_of
wanted_closed [] n lowest o = tt
wanted_closed (p ∷ ps) n lowest o =
    let later = wanted_of ps n in
    let c = wanted_closed ps n (suc p.child) o.2 in
    cases (λ (ws : List ℕ). Closed ws (p ∷ ps)) (holds later p.parent)
    (λ e. ((λ w. holds_last later p.child), closed_more later p.child ps (suc p.child) (omega arith) o.2 c))
    (λ e. ((λ w. absurd (true≢false (sym w ∙ e))), c))

-- the number asked for is wanted
pub asked_wanted : (ps : List Pair) (n : ℕ) → holds (wanted_of ps n) n ≡ true
unfolding wanted_of holds
asked_wanted [] n = or_left (eqb n n) _ (eq-eqb n n refl)
asked_wanted (p ∷ ps) n =
    let later = wanted_of ps n in
    cases (λ (ws : List ℕ). holds ws n ≡ true) (holds later p.parent) (λ e. holds_still later p.child n (asked_wanted ps n)) (λ e. asked_wanted ps n)

-- the wanted numbers as the pairs are gone through from the last to the first: after m turns p comes next
module _ (ps : List Pair) (n m : ℕ) (p : Pair) (turn : (m < length (reverse ps)) × (p ≡ get_or (reverse ps) m p)) (later : List ℕ) (w : later ≡ wanted_of (drop (length ps - m) ps) n) where
  inside : m < length ps
  inside = omega (arith, length-reverse ps, turn.0)

  here : drop (length ps - (m + 1)) ps ≡ p ∷ drop (length ps - m) ps
  here =
      let next : suc (length ps - (m + 1)) ≡ length ps - m = omega (arith, inside) in
      let last : length ps - 1 - m ≡ length ps - (m + 1) = omega arith in
      let is : p ≡ get_or ps (length ps - (m + 1)) p = turn.1 ∙ (get_or-reverse ps m p inside ∙ ap (λ (j : ℕ). get_or ps j p) last) in
      drop-cons ps (length ps - (m + 1)) p (omega (arith, inside)) ∙ ap₂ (λ (q : Pair) (l : List Pair). q ∷ l) (sym is) (ap (λ (j : ℕ). drop j ps) next)

  pub wanting_more : holds later p.parent ≡ true → later ++ (p.child ∷ []) ≡ wanted_of (drop (length ps - (m + 1)) ps) n
  unfolding wanted_of
  wanting_more h = let g = rw w at h in rw (here, w, g)

  pub wanting_same : holds later p.parent ≡ false → later ≡ wanted_of (drop (length ps - (m + 1)) ps) n
  unfolding wanted_of
  wanting_same h = let g = rw w at h in rw (here, w, g)

pub wanting_none : (ps : List Pair) (n : ℕ) → n ∷ [] ≡ wanted_of (drop (length ps) ps) n
unfolding wanted_of
wanting_none ps n = rw (drop_of_length-le ps {i = length ps} (le_refl (length ps)))

-- ---- offers that agree where a number is wanted

-- the same numbers place by place, and the same offer where the number is wanted
abbrev pub Agree : List ℕ → List Offer → List Offer → Type 0
Agree ws [] [] = Unit {0}
Agree ws [] (b ∷ us) = ⊥
Agree ws (a ∷ os) [] = ⊥
Agree ws (a ∷ os) (b ∷ us) = (a.number ≡ b.number) × (holds ws a.number ≡ true → a ≡ b) × Agree ws os us

pub agree_more : (ws : List ℕ) (os us : List Offer) (a b : Offer) → Agree ws os us → a.number ≡ b.number → (holds ws a.number ≡ true → a ≡ b)
    → Agree ws (os ++ (a ∷ [])) (us ++ (b ∷ []))
agree_more ws [] [] a b g e s = (e, s, tt)
agree_more ws [] (y ∷ us) a b g e s = absurd g
agree_more ws (x ∷ os) [] a b g e s = absurd g
agree_more ws (x ∷ os) (y ∷ us) a b g e s = (g.0, g.1, agree_more ws os us a b g.2 e s)

module _ (ws : List ℕ) where
  found_by : (t : Bool) (n : ℕ) (a b : Offer) (x y : Offer) → eqb a.number n ≡ t → (t ≡ true → a ≡ b) → x ≡ y → cond t a x ≡ cond t b y
  found_by true n a b x y e s r = s refl
  found_by false n a b x y e s r = r

  pub offer_agrees : (os us : List Offer) → Agree ws os us → (n : ℕ) → holds ws n ≡ true → offer_in os n ≡ offer_in us n
  unfolding offer_in
  offer_agrees [] [] g n h = refl
  offer_agrees [] (b ∷ us) g n h = absurd g
  offer_agrees (a ∷ os) [] g n h = absurd g
  offer_agrees (a ∷ os) (b ∷ us) g n h =
      found_by (eqb a.number n) n a b (offer_in os n) (offer_in us n) refl (λ e. g.1 (ap (holds ws) (eqb-true a.number n e) ∙ h)) (offer_agrees os us g.2 n h)
      ∙ ap (λ (m : ℕ). cond (eqb m n) b (offer_in us n)) g.0

  module _ (os us : List Offer) (g : Agree ws os us) (n : ℕ) (h : holds ws n ≡ true) where
    children_by : (t : Bool) (p : Pair) (ps : List Pair) → eqb p.parent n ≡ t → (holds ws p.parent ≡ true → holds ws p.child ≡ true) → children ps os n ≡ children ps us n
        → cond t (offer_in os p.child ∷ children ps os n) (children ps os n) ≡ cond t (offer_in us p.child ∷ children ps us n) (children ps us n)
    children_by true p ps e c r = ap₂ (λ (o : Offer) (os : List Offer). o ∷ os) (offer_agrees os us g p.child (c (ap (holds ws) (eqb-true p.parent n e) ∙ h))) r
    children_by false p ps e c r = r

    pub children_agree : (ps : List Pair) → Closed ws ps → children ps os n ≡ children ps us n
    unfolding children
    children_agree [] c = refl
    children_agree (p ∷ ps) c = children_by (eqb p.parent n) p ps refl c.0 (children_agree ps c.1)

  pub load_agrees : (os us : List Offer) → Agree ws os us → (ps : List Pair) → Closed ws ps → (c : Component) → holds ws c.number ≡ true → load_on ps os c ≡ load_on ps us c
  unfolding load_on
  load_agrees os us g ps closed c h = rw (children_agree os us g c.number h ps closed)

-- ---- the pass over the components

offered_is : (c : Component) (j : Judged) → offered_on c j ≡ offering c (offered_on c j).capacity
offered_is c (Refused n) = refl
offered_is c (Answered q Verdict.Accepted) = refl
offered_is c (Answered q (Verdict.Short t)) = refl
offered_is c (Answered q Verdict.None) = refl

-- what a component offers differs from its interface in the capacity alone
pub offer_is : (c : Component) (o : Outcome) → offer_of c o ≡ offering c (offer_of c o).capacity
unfolding offer_of
offer_is c Outcome.Waiting = refl
offer_is c (Outcome.Judged a) = offered_is c a.verdict

-- an offer has its component's number, whatever it is answered
pub offer_number : (c : Component) (o : Outcome) → (offer_of c o).number ≡ c.number
offer_number c o = ap (λ (x : Offer). x.number) (offer_is c o)

-- one component more, and what it offers
pub offers_next : (ws : List ℕ) (ps : List Pair) (at : ℕ → Component) (k : ℕ) (os : List Offer) → os ≡ offers_below ws ps at k
    → (o : Offer) → o ≡ offer_of (at k) (outcome_wanted ws ps os (at k)) → offers_below ws ps at (k + 1) ≡ offers_below ws ps at k ++ (o ∷ [])
unfolding offers_below
offers_next ws ps at k os held o offers = rw (add-one k, offers, held)

-- all offers, of components judged one after the other
pub record Judging (ps : List Pair) (at : ℕ → Component) (count : ℕ) (full : ℕ → List Offer) : Type 0 where
  pub none : full 0 ≡ []
  pub more : (k : ℕ) → k < count → full (suc k) ≡ full k ++ (offer_of (at k) (outcome_of (load_on ps (full k) (at k))) ∷ [])

module _ (ws : List ℕ) (ps : List Pair) (closed : Closed ws ps) (at : ℕ → Component) (count : ℕ) (full : ℕ → List Offer) (judging : Judging ps at count full) where
  same_outcome : (os us : List Offer) → Agree ws os us → (c : Component) → holds ws c.number ≡ true → outcome_wanted ws ps os c ≡ outcome_of (load_on ps us c)
  unfolding outcome_wanted
  same_outcome os us g c h = rw (h, load_agrees ws os us g ps closed c h)

  pub below_agrees : (k : ℕ) → k ≤ count → Agree ws (offers_below ws ps at k) (full k)
  unfolding offers_below
  below_agrees zero h = rw judging.none tt
  below_agrees (suc k) h =
      let g = below_agrees k (omega arith) in
      let a = offer_of (at k) (outcome_wanted ws ps (offers_below ws ps at k) (at k)) in
      let b = offer_of (at k) (outcome_of (load_on ps (full k) (at k))) in
      rw (judging.more k h)
      (agree_more ws (offers_below ws ps at k) (full k) a b g (offer_number (at k) _ ∙ sym (offer_number (at k) _))
      (λ w. ap (offer_of (at k)) (same_outcome (offers_below ws ps at k) (full k) g (at k) (ap (holds ws) (sym (offer_number (at k) _)) ∙ w))))

  -- the workload of a component that is wanted is the same, from the offers below it as from all
  pub load_below : (k : ℕ) → k ≤ count → (c : Component) → holds ws c.number ≡ true → load_on ps (offers_below ws ps at k) c ≡ load_on ps (full k) c
  load_below k h c w = load_agrees ws (offers_below ws ps at k) (full k) (below_agrees k h) ps closed c w
