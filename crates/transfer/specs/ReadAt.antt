-- Reading a component of a sheet whose edges are known, without another walk: for the edges of an accepted sheet it is the reading.
use Rattle.std.specs.Prelude.{ℕ, ◌+◌, ◌-◌, ◌<◌, cond, List, [], ◌≡◌, length, get_or, take, drop, leb, ltb}
use Rattle.budget.specs.declared.component.Component.{Component}
use Rattle.budget.specs.Refusal as refusal
use Rattle.record.specs.Layout.{record_of}
use Rattle.sheet.specs.Check.{check, most_components}
use Rattle.sheet.specs.Contents.{contents_of}
use Rattle.transfer.specs.Reading.{component_from, reading}

-- the bytes from one place to another
abbrev pub between : List ℕ → ℕ → ℕ → List ℕ
between s from to = take (to - from) (drop from s)

-- the part between the edges k and k + 1; none stands past the most components, nor between edges that do not lie in the sheet in their order
unfoldable pub part_at : List ℕ → List ℕ → ℕ → List ℕ
part_at s edges k =
    let from = get_or edges k 0 in
    let to = get_or edges (k + 1) 0 in
    cond (leb most_components k) []
    (cond (ltb to from) []
    (cond (ltb (length s) to) []
    (between s from to)))

-- its component; that of an empty part is the one of a refused reading
unfoldable pub read_at : List ℕ → List ℕ → ℕ → Component
read_at s edges k = component_from (part_at s edges k) (record_of (part_at s edges k))

abbrev pub ReadAtReads : Type 0
ReadAtReads = (s : List ℕ) → (check s).refusal ≡ refusal.none → (k : ℕ) → k < (check s).count → read_at s (contents_of s).edges k ≡ (reading s k).component
