-- What is answered at a place of a sheet, from its contents: the pairs behind its last edge are the sheet's, each component between its edges is the
-- one that is read, and so the workload from what is below the place is the one from all offers.
use Prim.Native.Nat.{ℕ, suc, ◌-◌, ◌≤◌, ◌<◌}
use native.Mathlib.Omega.{arith}
use mathlib.Core.Bool.{true}
use mathlib.Core.List.{List, [], ◌∷◌, ◌++◌}
use mathlib.Core.Path.{◌≡◌, refl, sym, ap, ◌∙◌}
use lib.Dec.{ltb}
use lib.ListN.{length, get_or, take, drop}
use borrow.Author.Tests.{ltb-true, le-ltb, ne_eqb}
use Rattle.budget.specs.declared.component.Component.{Component}
use Rattle.budget.specs.Component.{refused}
use Rattle.budget.proofs.Valid.{both}
use Rattle.record.specs.declared.layout.Pair.{Pair}
use Rattle.sheet.specs.Check.{Checked}
use Rattle.sheet.specs.Contents.{Contents}
use Rattle.sheet.specs.Check.{check, checked_of, pairs_of}
use Rattle.sheet.specs.Contents.{contents_of}
use Rattle.sheet.specs.Pairs.{Nested, paired, rises}
use Rattle.sheet.specs.Part.{chosen, part_check}
use Rattle.sheet.specs.Register.{Entry, register_of}
use Rattle.sheet.proofs.ContentsLaws.{taken}
use Rattle.sheet.proofs.NestedLaws.{rises_append}
use Rattle.sheet.proofs.PairLaws.{pair_taken}
use Rattle.sheet.proofs.PartLaws.{part_accepted}
use Rattle.transfer.specs.declared.pair.Pairs.{Pairs}
use Rattle.transfer.specs.Pairing.{pairs_in, pair_table}
use Rattle.transfer.specs.ReadAt.{read_at}
use Rattle.transfer.specs.Reading.{reading}
use Rattle.transfer.proofs.PairReads.{slice_few, slice_is}
use Rattle.transfer.proofs.PairsBehind.{accepted_pairs, walked_pairs}
use Rattle.transfer.proofs.ReadAt.{read_at_reads}
use Rattle.tree.specs.numbers.Load.{Load}
use Rattle.tree.specs.numbers.Outcome.{Outcome}
use Rattle.tree.specs.numbers.Loaded.{Loaded}
use Rattle.tree.specs.numbers.Placed as Placed
use Rattle.tree.specs.Outcome.{outcome_of}
use Rattle.tree.specs.Tree.{offers_to, load_at, outcome_at, loading, placing}
use Rattle.tree.specs.Workload.{load_on, ready}
use Rattle.tree.specs.inner.Below.{wanted_of, offers_below}
use Rattle.tree.proofs.BelowLaws.{Ordered, Judging, wanted_closed, asked_wanted, load_below}

-- pairs that the rules take rise by their children, and each parent is larger
ordered_behind : (es : List Entry) (before ps : List Pair) (lowest : ℕ) → Nested es before ps → ((n : ℕ) → rises before n ≡ true → lowest ≤ n) → Ordered lowest ps
unfolding rises
ordered_behind es before [] lowest t above = tt
ordered_behind es before (p ∷ ps) lowest t above =
    let k = pair_taken es before p t.0 in (
      above p.child k.rise,
      k.larger,
      ordered_behind es (before ++ (p ∷ [])) ps (suc p.child) t.1
          (λ n r. ltb-true p.child n (both (ltb p.child n) true (both (rises before n) _ (sym (rises_append before (p ∷ []) n) ∙ r)).1).0),
    )

module _ (s : List ℕ) (accepted : (check s).refusal ≡ 0) where
  pub pairs_ordered : Ordered 0 (pairs_of s)
  pairs_ordered = rw (accepted_pairs s accepted) (ordered_behind (register_of s) [] (paired s).pairs 0 (walked_pairs s).nested (λ n r. omega arith))

  -- all offers of a sheet, its components read between their edges
  judging : Judging (pairs_of s) (read_at s (contents_of s).edges) (check s).count (offers_to s)
  unfolding offers_to
  judging = record { none = refl; more = λ k h. rw (read_at_reads s accepted k h) }

  pub load_is : (k : ℕ) → k < (check s).count → (c : Component) → c ≡ read_at s (contents_of s).edges k
      → load_on (pairs_of s) (offers_below (wanted_of (pairs_of s) c.number) (pairs_of s) (read_at s (contents_of s).edges) k) c ≡ load_at s k
  unfolding load_at
  load_is k h c e =
      let ps = pairs_of s in
      load_below (wanted_of ps c.number) ps (wanted_closed ps c.number 0 pairs_ordered) (read_at s (contents_of s).edges) (check s).count (offers_to s) judging k (omega arith) c (asked_wanted ps c.number)
      ∙ ap (load_on ps (offers_to s k)) (e ∙ read_at_reads s accepted k h)

-- what is judged at a place, from what is loaded there
module _ (s : List ℕ) (k : ℕ) (l : Loaded) (e : l ≡ loading s k) where
  pub judged_refused : (l.refusal ≡ 0 → ⊥) → Placed.Refused l.refusal l.place ≡ placing s k
  unfolding loading placing
  judged_refused h =
      let n : l.refusal ≡ (reading s k).refusal = ap (λ (x : Loaded). x.refusal) e in
      rw (ne_eqb (reading s k).refusal 0 (λ z. h (n ∙ z)), n, ap (λ (x : Loaded). x.place) e)

  pub judged_found : l.refusal ≡ 0 → (o : Outcome) → o ≡ outcome_of l.load → Placed.Found l.number o ≡ placing s k
  unfolding loading placing outcome_at
  judged_found z o f =
      let n : (reading s k).refusal ≡ 0 = sym (ap (λ (x : Loaded). x.refusal) e) ∙ z in
      let b = ap (λ (x : Loaded). x.load) e in
      rw (n, f, ap (λ (x : Loaded). x.number) e) (ap (λ (x : Load). Placed.Found (reading s k).component.number (outcome_of x)) (rw n at b))

-- what the code answers at a place, by what the contents say
module _ (s : List ℕ) (found : Contents) (e : found ≡ contents_of s) (k : ℕ) where
  checked_is : found.checked ≡ check s
  unfolding contents_of
  checked_is = ap (λ (x : Contents). x.checked) e

  pub place_refused : (found.checked.refusal ≡ 0 → ⊥)
      → ◌≡◌ {A = Loaded} (record { refusal = found.checked.refusal; place = found.checked.place; number = 0; load = ready refused }) (loading s k)
  unfolding loading reading part_check chosen refused
  place_refused h = rw (← checked_is, ne_eqb found.checked.refusal 0 h, ne_eqb found.checked.refusal 0 h)

  module _ (z : found.checked.refusal ≡ 0) where
    accepted : (check s).refusal ≡ 0
    accepted = ap (λ (x : Checked). x.refusal) (sym checked_is) ∙ z

    pub place_missing : found.checked.count ≤ k → ◌≡◌ {A = Loaded} (record { refusal = 15; place = 0; number = 0; load = ready refused }) (loading s k)
    unfolding loading reading part_check chosen refused
    place_missing h = rw (accepted, le-ltb k (check s).count (rw checked_is at h))

    abbrev from : ℕ
    from = get_or found.edges found.checked.count 0

    accepted_place : (check s).place ≡ 0
    unfolding check checked_of
    accepted_place = let t = taken s accepted in rw (t.unrefused, t.pairs)

    -- the pairs that are read behind the last edge
    module _ (read : Pairs) (r : read ≡ pair_table (pairs_in 256 (take (length s - from) (drop from s)))) where
      pub pairs_few : length (take read.count read.pairs) ≤ 256
      pairs_few = slice_few s found e z read r

      abbrev pub pairs : List Pair
      pairs = take read.count read.pairs

      pairs_are : pairs ≡ pairs_of s
      pairs_are = slice_is s found e z read r

      module _ (h : k < found.checked.count) (c : Component) (is : c ≡ read_at s found.edges k) where
        here : k < (check s).count
        here = rw checked_is at h

        between : c ≡ read_at s (contents_of s).edges k
        between = is ∙ ap (λ (x : Contents). read_at s x.edges k) e

        loaded : (l : Load) → l ≡ load_on pairs (offers_below (wanted_of pairs c.number) pairs (read_at s found.edges) k) c → l ≡ load_at s k
        loaded l f =
            f
            ∙ (ap (λ (ps : List Pair). load_on ps (offers_below (wanted_of ps c.number) ps (read_at s found.edges) k) c) pairs_are
            ∙ (ap (λ (x : Contents). load_on (pairs_of s) (offers_below (wanted_of (pairs_of s) c.number) (pairs_of s) (read_at s x.edges) k) c) e
            ∙ load_is s accepted k here c between))

        refusal_is : (reading s k).refusal ≡ 0
        unfolding reading
        refusal_is = ap (λ (x : Checked). x.refusal) (part_accepted s k accepted here) ∙ accepted

        byte_is : (reading s k).place ≡ 0
        unfolding reading
        byte_is = ap (λ (x : Checked). x.place) (part_accepted s k accepted here) ∙ accepted_place

        pub place_found : (l : Load) → l ≡ load_on pairs (offers_below (wanted_of pairs c.number) pairs (read_at s found.edges) k) c
            → ◌≡◌ {A = Loaded} (record { refusal = 0; place = 0; number = c.number; load = l }) (loading s k)
        unfolding loading
        place_found l f = rw (refusal_is, byte_is, loaded l f, between ∙ read_at_reads s accepted k here)
