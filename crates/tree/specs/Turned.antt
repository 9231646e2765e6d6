-- What one turn of a pass over components does: the component is judged by the offers of those before it, and its own is noted behind them.
use Rattle.std.specs.Prelude.{ℕ, ◌*◌, List, ◌≡◌, take}
use Rattle.std.proofs.lemmas.List.Edits.{sets}
use Rattle.budget.specs.declared.component.Component.{Component}
use Rattle.record.specs.declared.layout.Pair.{Pair}
use Rattle.tree.specs.declared.answer.Placed as code
use Rattle.tree.specs.numbers.Turn.{Turn}
use Rattle.tree.specs.Offer.{noted, offer_of, offers_in}
use Rattle.tree.specs.Outcome.{outcome_in, outcome_of}
use Rattle.tree.specs.Workload.{load_on}

-- the component c at place k; the row before and after
pub record Turned (c : Component) (pairs : List Pair) (k : ℕ) (before after : List ℕ) (t : Turn) : Type 0 where
  pub number : t.number ≡ c.number
  pub outcome : t.outcome ≡ outcome_of (load_on pairs (offers_in (take (4 * k) before)) c)
  pub row : after ≡ sets before (4 * k) (noted (offer_of c t.outcome))

-- how the answer of a turn is read as such
abbrev pub turn_in : code.Placed → Turn
turn_in t = record { number = t.number; outcome = outcome_in t.outcome }
