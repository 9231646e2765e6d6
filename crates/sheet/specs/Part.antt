-- The part of a sheet in which one component stands, counted from 0 among the components (RULES 10, 11).
use Rattle.std.specs.Prelude.{ℕ, ◌+◌, ◌-◌, cond, List, take, drop, ltb, eqb}
use Rattle.budget.specs.Refusal as refusal
use Rattle.sheet.specs.declared.part.Span.{Span}
use Rattle.sheet.specs.Check.{Checked, check}
use Rattle.sheet.specs.Contents.{edge_of}

-- a sheet that is not refused has a component at each place below its count; any other place is 15
unfoldable pub chosen : Checked → ℕ → Checked
chosen c k =
    cond (eqb c.refusal refusal.none)
    (cond (ltb k c.count) c (record { refusal = refusal.place; place = 0; count = 0 }))
    c

-- the refusals of handing back a part and of reading one component (RULES 13): the sheet's, then 15
unfoldable pub part_check : List ℕ → ℕ → Checked
part_check s k = chosen (check s) k

-- the component lies between two edges; nowhere, where refused
unfoldable pub span_of : List ℕ → ℕ → Span
span_of s k =
    cond (eqb (part_check s k).refusal refusal.none)
    (record { from = edge_of s k; to = edge_of s (k + 1) })
    (record { from = 0; to = 0 })

-- what is answered of a place: that, and where the component lies
pub record Located : Type 0 where
  pub checked : Checked
  pub span : Span

unfoldable pub located : List ℕ → ℕ → Located
located s k = record { checked = part_check s k; span = span_of s k }

-- the bytes from the component's record to its last task's end, or none where refused
unfoldable pub part_of : List ℕ → ℕ → List ℕ
part_of s k = take ((span_of s k).to - (span_of s k).from) (drop (span_of s k).from s)
