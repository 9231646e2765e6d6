-- What a sheet's contents are to a caller: its edges never fall and stay within the sheet, and an accepted sheet has one at each place up to its count.
use Prim.Native.Nat.{ℕ, suc, ◌+◌, ◌≤◌, ◌<◌}
use mathlib.Core.Path.{◌≡◌, ap, ◌∙◌}
use mathlib.Core.Bool.{cond}
use mathlib.Core.List.{List}
use native.Mathlib.Omega.{arith}
use lib.ListN.{length, get_or}
use lib.Dec.{eqb}
use borrow.Author.Tests.{eqb-true, eqb-false}
use Rattle.record.proofs.Cases.{cases}
use Rattle.sheet.specs.Judging.{State, opened, judged}
use Rattle.sheet.specs.Register.{walked, held_of}
use Rattle.sheet.specs.Pairs.{paired}
use Rattle.sheet.specs.Check.{Checked, checked_of, check}
use Rattle.sheet.specs.Contents.{edge_of, edges_of, no_edges, contents_of}
use Rattle.sheet.proofs.JudgingLaws.{orderly}
use Rattle.sheet.proofs.WalkLaws.{held_between, held_rises}
use Rattle.sheet.proofs.HeldLaws.{noted_held, starts, walked_few, last_held}

module _ (s : List ℕ) where
  pub edge_within : (k : ℕ) → edge_of s k ≤ length s
  unfolding edge_of held_of
  edge_within k = (held_between judged orderly s (suc (length s)) k (opened (length s)) (starts s)).within

  pub edge_rises : (k : ℕ) → edge_of s k ≤ edge_of s (k + 1)
  unfolding edge_of held_of
  edge_rises k = held_rises judged orderly s (suc (length s)) k (opened (length s)) (starts s)

  -- an accepted sheet was walked to its end, its pairs too, and has the components that were counted
  pub record Taken : Type 0 where
    pub unrefused : (walked s).refusal ≡ 0
    pub pairs : (paired s).refusal ≡ 0
    pub counted : (check s).count ≡ (walked s).count
    pub few : (check s).count ≤ 256

  pub taken : (check s).refusal ≡ 0 → Taken
  unfolding check checked_of
  taken =
      cases Accepted (eqb (walked s).refusal 0)
      (λ p. cases Accepted (eqb (paired s).refusal 0)
      (λ q e. record { unrefused = eqb-true (walked s).refusal 0 p; pairs = eqb-true (paired s).refusal 0 q; counted = rw (p, q); few = rw (p, q) (walked_few s) })
      (λ q e. absurd (eqb-false (paired s).refusal 0 q e)))
      (λ p. let refused = eqb-false (walked s).refusal 0 p in
      cases Accepted (eqb (walked s).refusal 0) (λ q e. absurd (refused (eqb-true (walked s).refusal 0 q))) (λ q e. absurd (refused e)))
    where
      Accepted : Checked → Type 0
      Accepted x = x.refusal ≡ 0 → Taken

  -- the edges of an accepted sheet, as they are answered
  module _ (accepted : (check s).refusal ≡ 0) where
    pub edges_are : (k : ℕ) → k ≤ (check s).count → get_or (contents_of s).edges k 0 ≡ edge_of s k
    unfolding contents_of edges_of edge_of
    edges_are k h =
        let t = taken accepted in
        ap (λ (n : ℕ). get_or (cond (eqb n 0) (edges_of s) no_edges) k 0) accepted
        ∙ noted_held (λ (st : State). st.place) s k (omega (arith, t.few)) (omega (arith, t.counted))

    -- the pairs begin behind the last component
    pub last_edge : edge_of s (check s).count ≡ (walked s).place
    unfolding edge_of
    last_edge = ap (edge_of s) (taken accepted).counted ∙ ap (λ (st : State). st.place) (last_held s)

    pub edges_never_fall : (k : ℕ) → k < (check s).count → get_or (contents_of s).edges k 0 ≤ get_or (contents_of s).edges (k + 1) 0
    edges_never_fall k h = rw (edges_are k (omega arith), edges_are (k + 1) (omega arith)) (edge_rises k)

    pub edges_within : (k : ℕ) → k ≤ (check s).count → get_or (contents_of s).edges k 0 ≤ length s
    edges_within k h = rw (edges_are k h) (edge_within k)
