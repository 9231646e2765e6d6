-- The components as the walk over the pairs is given them: what the first walk notes of each is its entry, so that walk's answer is the sheet's.
use Prim.Native.Nat.{ℕ, zero, suc, ◌+◌, ◌≤◌, ◌<◌}
use mathlib.Core.Path.{◌≡◌, refl, ap, ◌∙◌}
use mathlib.Core.List.{List}
use native.Mathlib.Omega.{arith}
use lib.ListN.{length, get_or, take, drop}
use lib.Seq.{drop-cons}
use borrow.Author.Tests.{ne_eqb}
use Rattle.std.specs.Prelude.{Ok, Err}
use Rattle.std.proofs.lemmas.List.{get_or-drop, get_or-take, length-take}
use Rattle.budget.proofs.Refusals.{some}
use Rattle.sheet.specs.declared.fault.Fault.{Fault}
use Rattle.sheet.specs.declared.walk.Noted.{Noted}
use Rattle.sheet.specs.declared.walk.Walked.{Walked}
use Rattle.sheet.specs.Judging.{State, refuse, ended}
use Rattle.sheet.specs.Register.{walked, entry_of, entries_from, register_of}
use Rattle.sheet.specs.Pairs.{paired_from, paired}
use Rattle.sheet.specs.Check.{checked_of, check}
use Rattle.sheet.specs.Contents.{edges_of, contents_of}
use Rattle.sheet.specs.Answered.{checked_in, contents_in}
use Rattle.sheet.specs.inner.Noted.{Found, Refused}
use Rattle.sheet.specs.inner.PairCourse.{entries_in, Walkable, Ends}
use Rattle.sheet.proofs.Walking.{unnoted}
use Rattle.sheet.proofs.HeldLaws.{walked_few, walked_within, unrefused_short, count_held, numbered_held}

-- a refused sheet
module _ (s : List ℕ) (f : Fault) where
  pub refused_answer : Refused s f → checked_in (Err f) ≡ check s
  unfolding check checked_of
  refused_answer r = rw (r.number, r.place, ne_eqb _ 0 (some f.refusal))

  pub refused_contents : checked_in (Err f) ≡ check s → contents_in (Err f) ≡ contents_of s
  unfolding contents_of
  refused_contents e = rw (← e, ne_eqb _ 0 (some f.refusal))

pub taken_contents : (s : List ℕ) (n : ℕ) (es : List ℕ) → checked_in (Ok n) ≡ check s → es ≡ edges_of s → contents_in (Ok (record { count = n; edges = es })) ≡ contents_of s
unfolding contents_of
taken_contents s n es e f = rw (← e, f)

module _ (s : List ℕ) (w : Walked) (f : Found s w) where
  counted : (walked s).count ≡ w.state.count
  unfolding ended refuse
  counted = ap (λ (x : State). x.count) f.ends

  placed : (walked s).place ≡ w.state.place
  unfolding ended refuse
  placed = ap (λ (x : State). x.place) f.ends

  unrefused : (walked s).refusal ≡ 0
  unfolding ended refuse
  unrefused = ap (λ (x : State). x.refusal) f.ends

  pub few : w.state.count ≤ 256
  few = let h = walked_few s in let e = counted in omega arith

  entries_are : (n k : ℕ) → k + n ≤ w.state.count → entries_in (take n (drop (suc k) w.components)) ≡ entries_from s n k
  unfolding entries_from entry_of
  entries_are zero k h = refl
  entries_are (suc n) k h =
      let i : suc k < length w.components = omega (arith, few, f.long) in
      rw (drop-cons w.components (suc k) unnoted i, f.noted (suc k) unnoted (omega arith), entries_are n (suc k) (omega arith))

  -- what the walk over the pairs is lent: as much as there are components, behind the first
  module _ (n : ℕ) (e : n ≡ w.state.count) where
    abbrev lent : List Noted
    lent = take n (drop 1 w.components)

    register_is : entries_in lent ≡ register_of s
    unfolding register_of
    register_is = rw (counted, ← e) (entries_are n 0 (omega arith))

    pub walkable : Walkable s lent w.state.place
    walkable =
        record {
          within = rw (← placed) (walked_within s);
          short = unrefused_short s unrefused;
          numbered = λ k d h.
              let l = length-take n (drop 1 w.components) in
              let i : k < (walked s).count = omega (arith, counted) in
              let j : 1 + k ≡ suc k = omega arith in
              let at : get_or lent k d ≡ get_or w.components (suc k) d =
              get_or-take n (drop 1 w.components) k d (omega arith) ∙ (get_or-drop 1 w.components k d ∙ ap (λ (m : ℕ). get_or w.components m d) j) in
              rw (at, f.noted (suc k) d (omega arith)) (numbered_held s (suc k) (omega (arith, count_held s (suc k) (omega arith))));
        }

    paired_is : paired_from (entries_in lent) s w.state.place ≡ paired s
    unfolding paired
    paired_is = rw (register_is, placed)

    pub paired_answer : Ends (Ok tt) (paired_from (entries_in lent) s w.state.place) → checked_in (Ok w.state.count) ≡ check s
    unfolding check checked_of
    paired_answer z = let p : (paired s).refusal ≡ 0 = rw paired_is at z in rw (unrefused, p, counted)

    pub paired_refused : (r : Fault) → Ends (Err r) (paired_from (entries_in lent) s w.state.place) → checked_in (Err r) ≡ check s
    unfolding check checked_of
    paired_refused r z =
        let p = rw paired_is at z.0 in
        let q = rw paired_is at z.1 in
        rw (unrefused, p, q, ne_eqb _ 0 (some r.refusal))
