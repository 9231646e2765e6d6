-- Edges that lie in the sheet in their order lend what lies between them; any others, and a place past the most components, an empty part.
use Prim.Native.Nat.{ℕ, ◌+◌, ◌<◌}
use mathlib.Core.List.{List, []}
use mathlib.Core.Logic.{inl, inr}
use mathlib.Core.Path.{◌≡◌, refl, ap, ◌∙◌}
use lib.Dec.{ltb}
use lib.ListN.{get_or}
use borrow.Author.Tests.{lt-leb, lt-ltb, le-ltb}
use Rattle.std.specs.Borrow.{Bor}
use Rattle.std.specs.Option.{unwrap_or}
use Rattle.std.specs.Prelude.{Option, Some, None}
use Rattle.std.specs.Slice.{IsGetRangeResult}
use Rattle.budget.proofs.Tests.{tests}
use Rattle.record.proofs.Cases.{cases}
use Rattle.transfer.specs.ReadAt.{part_at}
use Rattle.transfer.proofs.read.part_at.Goals as goal

-- what the sheet lends between two edges
lent : (s edges : List ℕ) (k : ℕ) → k < 256 → (r : Option (Bor (List ℕ))) (none : Bor (List ℕ)) → none.now ≡ []
    → IsGetRangeResult s (get_or edges k 0) (get_or edges (k + 1) 0) r → (unwrap_or r none).now ≡ part_at s edges k
unfolding part_at
lent s edges k few (Some x) none e h = rw (lt-leb 256 k few, le-ltb _ _ h.0.0, le-ltb _ _ h.0.1) h.0.2
lent s edges k few None none e h =
    rw (lt-leb 256 k few, e) (elim h.0 [ inl p ↦ rw (lt-ltb _ _ p) | inr p ↦ rw (lt-ltb _ _ p) (cases (λ (l : List ℕ). [] ≡ l) (ltb (get_or edges (k + 1) 0) (get_or edges k 0)) (λ q. refl) (λ q. refl)) ])

pub returns-then-place-ge-MOST_COMPONENTS : goal.returns-then-place-ge-MOST_COMPONENTS
unfolding part_at
returns-then-place-ge-MOST_COMPONENTS c = search tests

pub returns : goal.returns
returns c = let a = c.args in
    ap (λ (x : Bor (List ℕ)). x.now) c.unwrap_or.ensures ∙ lent a.sheet.now a.edges.now a.place c.if-place-ge-MOST_COMPONENTS.false _ _ refl c.get.ensures.lookup
