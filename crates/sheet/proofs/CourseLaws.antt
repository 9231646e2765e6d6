-- What the walk over pairs holds says all that the next record is judged by, at its start and behind each record: a parent holds its own tasks and
-- its children so far.
use Prim.Native.Nat.{ℕ, ◌+◌, ◌-◌, ◌≤◌, ◌<◌}
use mathlib.Core.Path.{◌≡◌, refl, sym, ap, ◌∙◌}
use mathlib.Core.Bool.{Bool, true, false, ◌&&◌}
use mathlib.Core.List.{List, [], ◌∷◌, ◌++◌}
use native.Mathlib.Omega.{arith}
use lib.ListN.{length, get_or, set, take, drop, length-set, length-drop}
use lib.Seq.{get_or-set_same, get_or-set_other}
use lib.Dec.{leb, ltb, eqb}
use borrow.Author.Tests.{leb-true, leb-false, le-leb, lt-leb, lt-ltb, le-ltb, eqb-true, eqb-false}
use Rattle.std.specs.Prelude.{Some, is_some}
use Rattle.std.proofs.lemmas.List.{length-map}
use Rattle.budget.proofs.Valid.{and_true}
use Rattle.record.specs.declared.layout.Pair.{Pair}
use Rattle.record.specs.Record.{Record, PairRecord}
use Rattle.record.specs.Layout.{size_of, record_of}
use Rattle.record.proofs.Cases.{either}
use Rattle.sheet.specs.declared.pairs.Course.{Course}
use Rattle.sheet.specs.declared.walk.Noted.{Noted}
use Rattle.sheet.specs.Register.{Entry}
use Rattle.sheet.specs.Pairs.{Pairing, own_tasks, named, rises, pairs, pair_refusal, stopped, after_pair, pair_judged, pair_step}
use Rattle.sheet.specs.inner.PairCourse.{entry_in, entries_in, found, Kept}
use Rattle.sheet.proofs.WalkLaws.{rest_is}
use Rattle.sheet.proofs.NestedLaws.{named_append, named_one, rises_append}
use Rattle.sheet.proofs.SoughtLaws.{Numbered, found_within, found_once, found_set, found_registered, found_tasks}

and_false : (a : Bool) {b : Bool} → b ≡ false → (a && b) ≡ false
and_false true e = e
and_false false e = refl

-- before the first pair
pub kept_first : (cs : List Noted) (at : ℕ) → Numbered cs
    → Kept cs (entries_in cs) (record { place = at; lowest = 0 }) (record { going = true; refusal = 0; place = at; pairs = [] })
unfolding rises named
kept_first cs at h =
    record {
      going = refl;
      place = refl;
      counted = length-map cs entry_in;
      known = found_registered cs h;
      rise = λ n. le-leb 0 n (omega arith);
      load = λ n k d e. found_tasks cs h n k d e ∙ omega arith;
    }

module _ (cs : List Noted) (es : List Entry) (c : Course) (st : Pairing) (w : Kept cs es c st) (p : Pair) where
  -- the tests of a pair are those of the rules
  tests : pairs es st.pairs p ≡ ((ltb p.child p.parent && leb c.lowest p.child) && (is_some (found cs p.child) && is_some (found cs p.parent)))
  unfolding pairs
  tests = rw (w.known p.child, w.known p.parent, w.rise p.child)

  refused : pairs es st.pairs p ≡ false → pair_judged es st (PairRecord p) 0 ≡ stopped 16 st
  unfolding pair_judged pair_refusal
  refused e = rw e

  -- a pair that is refused with 16, by the first test that it fails
  pub pair_unlike : ltb p.child p.parent ≡ false → pair_judged es st (PairRecord p) 0 ≡ stopped 16 st
  pair_unlike e = refused (rw (tests, e))

  pub pair_falls : p.child < c.lowest → pair_judged es st (PairRecord p) 0 ≡ stopped 16 st
  pair_falls h = refused (rw (tests, lt-leb c.lowest p.child h) (ap (λ (b : Bool). b && (is_some (found cs p.child) && is_some (found cs p.parent))) (and_false (ltb p.child p.parent) refl)))

  pub pair_childless : is_some (found cs p.child) ≡ false → pair_judged es st (PairRecord p) 0 ≡ stopped 16 st
  pair_childless e = refused (rw (tests, e) (and_false (ltb p.child p.parent && leb c.lowest p.child) refl))

  pub pair_orphaned : is_some (found cs p.parent) ≡ false → pair_judged es st (PairRecord p) 0 ≡ stopped 16 st
  pair_orphaned e =
      refused (rw (tests, e) (and_false (ltb p.child p.parent && leb c.lowest p.child) (and_false (is_some (found cs p.child)) refl)))

  -- a pair of two components that keeps the rules of pairs
  module _ (at : ℕ) (d : Noted) (larger : p.child < p.parent) (rise : c.lowest ≤ p.child) (child : is_some (found cs p.child) ≡ true) (here : found cs p.parent ≡ Some at) where
    load_is : (get_or cs at d).tasks ≡ own_tasks es p.parent + named st.pairs p.parent
    load_is = w.load p.parent at d here

    right : pairs es st.pairs p ≡ true
    right = tests ∙ rw (lt-ltb p.child p.parent larger, le-leb c.lowest p.child rise, child, here)

    -- its parent is full
    pub pair_full : 64 ≤ (get_or cs at d).tasks → pair_judged es st (PairRecord p) 0 ≡ stopped 6 st
    unfolding pair_judged pair_refusal
    pair_full h = rw (right, ← load_is, le-leb 64 (get_or cs at d).tasks h)

    -- it is taken, and its parent holds one more
    module _ (room : (get_or cs at d).tasks < 64) (now : Noted) (same : now.lowest ≡ (get_or cs at d).lowest) (more : now.tasks ≡ (get_or cs at d).tasks + 1) where
      taken : pair_judged es st (PairRecord p) 0 ≡ after_pair st p
      unfolding pair_judged pair_refusal
      taken = rw (right, ← load_is, lt-leb 64 (get_or cs at d).tasks room)

      rise_behind : (n : ℕ) → leb (p.child + 1) n ≡ rises (st.pairs ++ (p ∷ [])) n
      unfolding rises
      rise_behind n =
          either (leb (p.child + 1) n)
          (λ q. let h = leb-true (p.child + 1) n q in
          q ∙ sym (rises_append st.pairs (p ∷ []) n ∙ and_true (sym (w.rise n) ∙ le-leb c.lowest n (omega arith)) (and_true (lt-ltb p.child n (omega arith)) refl)))
          (λ q. let h = leb-false (p.child + 1) n q in
          q ∙ sym (rises_append st.pairs (p ∷ []) n ∙ and_false (rises st.pairs n) (ap (λ (b : Bool). b && true) (le-ltb p.child n (omega arith)))))

      load_behind : (n k : ℕ) (o : Noted) → found (set cs at now) n ≡ Some k → (get_or (set cs at now) k o).tasks ≡ own_tasks es n + named (st.pairs ++ (p ∷ [])) n
      load_behind n k o e =
          let stays : found cs n ≡ Some k = sym (found_set cs n at d now same) ∙ e in
          let within = found_within cs p.parent at d here in
          let all = named_append st.pairs (p ∷ []) n in
          either (eqb p.parent n)
          (λ q.
          let one = named_one p n true q in
          let own : found cs p.parent ≡ Some k = ap (found cs) (eqb-true p.parent n q) ∙ stays in
          let place : at ≡ k = cc in
          let load = load_is in
          let parent : own_tasks es p.parent + named st.pairs p.parent ≡ own_tasks es n + named st.pairs n = ap (λ (m : ℕ). own_tasks es m + named st.pairs m) (eqb-true p.parent n q) in
          rw (← place, get_or-set_same cs at now o within) (omega (arith, more)))
          (λ q.
          let one = named_one p n false q in
          let other : k ≡ at → ⊥ = λ f. eqb-false p.parent n q (found_once cs p.parent n k o (rw f here) stays) in
          let load = w.load n k o stays in
          rw (get_or-set_other cs at k now o other) (omega arith))

      pub pair_kept : Kept (set cs at now) es (record { place = c.place + 8; lowest = p.child + 1 }) (pair_judged es st (PairRecord p) 0)
      unfolding after_pair size_of
      pair_kept =
          rw taken
          (record {
            going = refl;
            place = ap (λ (x : ℕ). x + 8) w.place;
            counted = w.counted ∙ sym (length-set cs at now);
            known = λ n. rw (found_set cs n at d now same) (w.known n);
            rise = rise_behind;
            load = load_behind;
          })

-- one step, as the code takes it: what it lends is what is left from the walk's place on
pub step_is : (s : List ℕ) (cs : List Noted) (es : List Entry) (c : Course) (st : Pairing) (r : Record) → Kept cs es c st
    → r ≡ record_of (take (length s - c.place) (drop c.place s))
    → pair_judged es st r (length (take (length s - c.place) (drop c.place s))) ≡ pair_step es s st
unfolding pair_step
step_is s cs es c st r k e = let i = rest_is s c.place in rw (e, i, length-drop c.place s, k.place)
