-- A sheet's contents in one answer: what it is answered, and the edges between its components, behind the last of which its pairs begin.
use Rattle.std.specs.Prelude.{ℕ, suc, cond, List, replicate, eqb}
use Rattle.budget.specs.Refusal as refusal
use Rattle.sheet.specs.Judging.{State, most_components}
use Rattle.sheet.specs.Register.{held_of, noted}
use Rattle.sheet.specs.Check.{Checked, check}

-- the last place that the walk reaches with at most k components: the component at place k lies between the edges k and k + 1, and the pairs
-- begin at the edge behind the last
unfoldable pub edge_of : List ℕ → ℕ → ℕ
edge_of s k = (held_of s k).place

-- one edge more than a sheet has components at most, each 0 behind the last component
unfoldable pub edges_of : List ℕ → List ℕ
edges_of s = noted (λ (st : State). st.place) s

unfoldable pub no_edges : List ℕ
no_edges = replicate (suc most_components) 0

-- what a sheet is answered, and its edges
pub record Contents : Type 0 where
  pub checked : Checked
  pub edges : List ℕ

-- refused: no edges
unfoldable pub contents_of : List ℕ → Contents
contents_of s = record { checked = check s; edges = cond (eqb (check s).refusal refusal.none) (edges_of s) no_edges }
