-- A sheet has no more pairs than components: the children rise, each of them is a component's number, and taking one component away takes at
-- most one child away.
use Prim.Native.Nat.{ℕ, suc, ◌≤◌, ◌<◌}
use mathlib.Core.Path.{◌≡◌, refl, sym, ap, ◌∙◌}
use mathlib.Core.Bool.{true, false, cond, false≢true}
use mathlib.Core.List.{List, [], ◌∷◌, ◌++◌}
use native.Mathlib.Omega.{arith}
use lib.ListN.{length}
use lib.Dec.{ltb, eqb}
use borrow.Author.Tests.{ltb-true, eqb-true, eqb-false, ne_eqb}
use Rattle.budget.proofs.Valid.{both}
use Rattle.record.specs.declared.layout.Pair.{Pair}
use Rattle.record.proofs.Cases.{cases}
use Rattle.sheet.specs.Register.{Entry}
use Rattle.sheet.specs.Pairs.{registered, rises, Nested}
use Rattle.sheet.proofs.PairLaws.{pair_taken}
use Rattle.sheet.proofs.NestedLaws.{rises_append}

-- the numbers of components, rising from a lowest on
abbrev Rising : List Entry → ℕ → List ℕ → Type 0
Rising es low [] = Unit {0}
Rising es low (n ∷ ns) = (low ≤ n) × ((registered es n ≡ true) × Rising es (suc n) ns)

-- ---- one component less

unfoldable without : ℕ → List ℕ → List ℕ
without m [] = []
without m (n ∷ ns) = cond (eqb n m) ns (n ∷ without m ns)

one_less : (m : ℕ) (ns : List ℕ) → length ns ≤ suc (length (without m ns))
unfolding without
one_less m [] = omega arith
one_less m (n ∷ ns) = cases (λ (l : List ℕ). suc (length ns) ≤ suc (length l)) (eqb n m) (λ p. omega arith) (λ p. let h = one_less m ns in omega arith)

other : (e : Entry) (es : List Entry) (n : ℕ) → eqb e.number n ≡ false → registered (e ∷ es) n ≡ true → registered es n ≡ true
unfolding registered
other e es n p h = rw p at h

-- behind the component's own number the others are untouched
above : (e : Entry) (es : List Entry) (low : ℕ) (ns : List ℕ) → e.number < low → Rising (e ∷ es) low ns → Rising es low ns
above e es low [] h r = tt
above e es low (n ∷ ns) h r =
    let l = r.0 in
    (l, (other e es n (ne_eqb e.number n (λ q. omega arith)) r.1.0, above e es (suc n) ns (omega arith) r.1.1))

lower : (es : List Entry) (low next : ℕ) (ns : List ℕ) → low ≤ next → Rising es next ns → Rising es low ns
lower es low next [] h r = tt
lower es low next (n ∷ ns) h r = let l = r.0 in (omega arith, r.1)

less : (e : Entry) (es : List Entry) (low : ℕ) (ns : List ℕ) → Rising (e ∷ es) low ns → Rising es low (without e.number ns)
unfolding without
less e es low [] r = tt
less e es low (n ∷ ns) r =
    let l = r.0 in
    cases (Rising es low) (eqb n e.number)
    (λ p. let q = eqb-true n e.number p in lower es low (suc n) ns (omega arith) (above e es (suc n) ns (omega arith) r.1.1))
    (λ p. (l, (other e es n (ne_eqb e.number n (λ q. eqb-false n e.number p (sym q))) r.1.0, less e es (suc n) ns r.1.1)))

rising_few : (es : List Entry) (low : ℕ) (ns : List ℕ) → Rising es low ns → length ns ≤ length es
unfolding registered
rising_few [] low [] r = omega arith
rising_few [] low (n ∷ ns) r = absurd (false≢true r.1.0)
rising_few (e ∷ es) low ns r =
    let h = rising_few es low (without e.number ns) (less e es low ns r) in
    let k = one_less e.number ns in
    omega arith

-- ---- the children

children : List Pair → List ℕ
children [] = []
children (p ∷ ps) = p.child ∷ children ps

counted : (ps : List Pair) → length (children ps) ≡ length ps
unfolding children
counted [] = refl
counted (p ∷ ps) = ap suc (counted ps)

module _ (es : List Entry) where
  rising : (before ps : List Pair) → Nested es before ps → (low : ℕ) → ((n : ℕ) → rises before n ≡ true → low ≤ n) → Rising es low (children ps)
  unfolding children rises
  rising before [] t low h = tt
  rising before (p ∷ ps) t low h =
      let w = pair_taken es before p t.0 in (
        h p.child w.rise,
        (
          w.child,
          rising (before ++ (p ∷ [])) ps t.1 (suc p.child)
              (λ n e. ltb-true p.child n (both (ltb p.child n) true (both (rises before n) (rises (p ∷ []) n) (sym (rises_append before (p ∷ []) n) ∙ e)).1).0),
        ),
      )

  pub pairs_few : (ps : List Pair) → Nested es [] ps → length ps ≤ length es
  pairs_few ps t =
      let h = rising_few es 0 (children ps) (rising [] ps t 0 (λ n e. omega arith)) in
      let c = counted ps in
      omega arith
