-- The whole listing of a sheet (RULES 15), as a list of bytes.
use Rattle.std.specs.Prelude.{ℕ, zero, suc, ◌≤◌, ◌<◌, cond, List, [], ◌++◌, ◌≡◌, length, eqb}
use Rattle.std.proofs.lemmas.List.Edits.{sets}
use Rattle.budget.specs.Refusal as refusal
use Rattle.judge.specs.Answer.{judge_answer}
use Rattle.record.specs.Field.{Bytes}
use Rattle.sheet.specs.Check.{check, pairs_of}
use Rattle.transfer.specs.Reading.{reading}
use Rattle.tree.specs.Tree.{outcome_at}
use Rattle.report.specs.Lines.{answer_fields, behind, component_line, end_line, refused_line}
use Rattle.report.specs.Text.{decimal}

-- the lines of the first k components, in their order, each judged in its tree
unfoldable pub component_lines : List ℕ → ℕ → List ℕ
component_lines s zero = []
component_lines s (suc k) = component_lines s k ++ component_line (reading s k).component.number (outcome_at s k)

-- a taken sheet has a line for each component and then the end's; a refused one has the line that names its refusal and nothing else
unfoldable pub listing_of : List ℕ → List ℕ
listing_of s =
    cond (eqb (check s).refusal refusal.none)
    (component_lines s (check s).count ++ end_line (check s).count)
    (refused_line (check s).refusal (check s).place)

-- the listing stands at the front of the page, every other byte stays, and its length is answered; it fits whatever the sheet holds
pub record Listed (s before after : List ℕ) (r : ℕ) : Type 0 where
  pub answer : r ≡ length (listing_of s)
  pub bytes : after ≡ sets before 0 (listing_of s)
  pub room : r ≤ 16_448

-- a sheet without pairs has the lines that its components have each by itself
abbrev pub UnpairedAlone : Type 0
UnpairedAlone =
    (s : List ℕ) → Bytes s → (check s).refusal ≡ refusal.none → pairs_of s ≡ [] → (k : ℕ) → k < (check s).count
    → let c = (reading s k).component in
    component_line c.number (outcome_at s k) ≡ decimal c.number ++ behind (answer_fields (judge_answer c))
