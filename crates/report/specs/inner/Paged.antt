-- Bytes put into a page, as the listing's inner functions tell it.
use Rattle.std.specs.Prelude.{ℕ, ◌+◌, ◌*◌, ◌≤◌, List, ◌≡◌, length}
use Rattle.std.proofs.lemmas.List.Edits.{sets}
use Rattle.report.specs.Listing.{component_lines}

-- these bytes, a line's at most, were put into a page from a place on, and the place behind them is answered
pub record Paged (before : List ℕ) (at : ℕ) (bytes after : List ℕ) (r : ℕ) : Type 0 where
  pub place : r ≡ at + length bytes
  pub page : after ≡ sets before at bytes
  pub short : length bytes ≤ 64

-- the page after the lines of a sheet's first k components
pub record Lines (s page : List ℕ) (k : ℕ) (after : List ℕ) (at : ℕ) : Type 0 where
  pub place : at ≡ length (component_lines s k)
  pub bytes : after ≡ sets page 0 (component_lines s k)
  pub room : at ≤ 64 * k
