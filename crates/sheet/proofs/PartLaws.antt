-- Where a component's records lie: between two edges of an accepted sheet.
use Prim.Native.Nat.{ℕ, ◌+◌, ◌-◌, ◌≤◌, ◌<◌, zero-le}
use mathlib.Core.Path.{◌≡◌, sym, ap, ◌∙◌}
use mathlib.Core.List.{List}
use native.Mathlib.Omega.{arith}
use lib.ListN.{length, get_or, take, drop}
use lib.Dec.{ltb, eqb}
use borrow.Author.Tests.{lt-ltb, le-ltb, ltb-true, eqb-false, ne_eqb}
use Rattle.std.specs.Prelude.{Ok, Err}
use Rattle.budget.specs.declared.refusal.Refusal.TheVariants.{Place}
use Rattle.budget.proofs.Refusals.{some}
use Rattle.record.proofs.Cases.{cases}
use Rattle.sheet.specs.declared.contents.Contents as contents
use Rattle.sheet.specs.declared.fault.Fault.{Fault}
use Rattle.sheet.specs.declared.part.Span.{Span}
use Rattle.sheet.specs.Check.{Checked, check}
use Rattle.sheet.specs.Contents.{Contents, edge_of, contents_of}
use Rattle.sheet.specs.Part.{chosen, part_check, span_of, located, part_of}
use Rattle.sheet.specs.Answered.{checked_in, contents_in, located_in}
use Rattle.sheet.proofs.ContentsLaws.{edge_within, edge_rises, taken, edges_are}

module _ (s : List ℕ) (k : ℕ) where
  -- a place that is not refused is one of an accepted sheet
  pub record Stands : Type 0 where
    pub accepted : (check s).refusal ≡ 0
    pub below : k < (check s).count

  pub stands : (part_check s k).refusal ≡ 0 → Stands
  unfolding part_check chosen
  stands =
      cases (λ (x : Checked). x.refusal ≡ 0 → Stands) (eqb (check s).refusal 0)
      (λ p. cases (λ (x : Checked). x.refusal ≡ 0 → Stands) (ltb k (check s).count)
      (λ q e. record { accepted = e; below = ltb-true k (check s).count q })
      (λ q e. absurd (omega (arith, e))))
      (λ p e. absurd (eqb-false (check s).refusal 0 p e))

  pub part_accepted : (check s).refusal ≡ 0 → k < (check s).count → part_check s k ≡ check s
  unfolding part_check chosen
  part_accepted e h = rw (e, lt-ltb k (check s).count h)

  -- the part of a component is what lies between its two edges
  pub span_is : (check s).refusal ≡ 0 → k < (check s).count → span_of s k ≡ record { from = edge_of s k; to = edge_of s (k + 1) }
  unfolding span_of
  span_is e h = let p : (part_check s k).refusal ≡ 0 = ap (λ (x : Checked). x.refusal) (part_accepted e h) ∙ e in rw p

  -- where refused, the component is nowhere
  nowhere : (f : Fault) → checked_in (Err f) ≡ part_check s k → located_in (Err f) ≡ located s k
  unfolding located span_of
  nowhere f p = rw (← p, ne_eqb _ 0 (some f.refusal))

  pub located_refused : (f : Fault) → contents_in (Err f) ≡ contents_of s → located_in (Err f) ≡ located s k
  unfolding contents_of part_check chosen
  located_refused f e = let c : checked_in (Err f) ≡ check s = ap (λ (x : Contents). x.checked) e in nowhere f (rw (← c, ne_eqb _ 0 (some f.refusal)))

  -- what the code finds of a sheet that it takes: nowhere, or between two of the edges answered
  module _ (c : contents.Contents) (e : contents_in (Ok c) ≡ contents_of s) where
    checked : checked_in (Ok c.count) ≡ check s
    unfolding contents_of
    checked = ap (λ (x : Contents). x.checked) e

    accepted : (check s).refusal ≡ 0
    accepted = sym (ap (λ (x : Checked). x.refusal) checked)

    counted : c.count ≡ (check s).count
    counted = ap (λ (x : Checked). x.count) checked

    pub few : c.count ≤ 256
    few = let t = taken s accepted in omega (arith, counted, t.few)

    pub located_nowhere : c.count ≤ k → located_in (Err (record { refusal = Place; place = 0 })) ≡ located s k
    unfolding part_check chosen
    located_nowhere h = nowhere (record { refusal = Place; place = 0 }) (rw (← checked, le-ltb k c.count h))

    pub located_found : k < c.count → located_in (Ok (record { count = c.count; span = record { from = get_or c.edges k 0; to = get_or c.edges (k + 1) 0 } })) ≡ located s k
    unfolding located
    located_found h =
        let below : k < (check s).count = omega (arith, counted) in
        let edge : (n : ℕ) → n ≤ (check s).count → get_or c.edges n 0 ≡ edge_of s n = λ n l. ap (λ (x : Contents). get_or x.edges n 0) e ∙ edges_are s accepted n l in
        rw (part_accepted accepted below, span_is accepted below, checked, edge k (omega arith), edge (k + 1) (omega arith))

  -- the span lies within the sheet, its end not before its beginning
  pub span_order : (span_of s k).from ≤ (span_of s k).to
  unfolding span_of
  span_order = cases (λ (x : Span). x.from ≤ x.to) (eqb (part_check s k).refusal 0) (λ p. edge_rises s k) (λ p. zero-le)

  pub span_within : (span_of s k).to ≤ length s
  unfolding span_of
  span_within = cases (λ (x : Span). x.to ≤ length s) (eqb (part_check s k).refusal 0) (λ p. edge_within s (k + 1)) (λ p. zero-le)

  pub part_between : (check s).refusal ≡ 0 → k < (check s).count
      → part_of s k ≡ take (get_or (contents_of s).edges (k + 1) 0 - get_or (contents_of s).edges k 0) (drop (get_or (contents_of s).edges k 0) s)
  unfolding part_of
  part_between e h = rw (span_is e h, edges_are s e k (omega arith), edges_are s e (k + 1) (omega arith))
