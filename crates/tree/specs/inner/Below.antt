-- The components that one place needs: itself and all below it. Only these are judged for it; any other is noted as offering nothing.
use Rattle.std.specs.Prelude.{ℕ, zero, suc, Bool, false, cond, ◌||◌, List, [], ◌∷◌, ◌++◌, eqb}
use Rattle.budget.specs.declared.component.Component.{Component}
use Rattle.record.specs.declared.layout.Pair.{Pair}
use Rattle.tree.specs.numbers.Outcome.{Outcome}
use Rattle.tree.specs.numbers.Offer.{Offer}
use Rattle.tree.specs.Offer.{offer_of}
use Rattle.tree.specs.Outcome.{outcome_of}
use Rattle.tree.specs.Workload.{load_on}

-- a number stands in a row
unfoldable pub holds : List ℕ → ℕ → Bool
holds [] n = false
holds (m ∷ ms) n = eqb m n || holds ms n

-- the number asked for and those of all below it. Parents are larger than their children, and children rise, so where a parent is a child itself its
-- own pair stands behind: taken from the last pair to the first, each child's parent is settled before it
unfoldable pub wanted_of : List Pair → ℕ → List ℕ
wanted_of [] n = n ∷ []
wanted_of (p ∷ ps) n = let later = wanted_of ps n in cond (holds later p.parent) (later ++ (p.child ∷ [])) later

-- the outcome of a component that is wanted; one that is not is as good as waiting
unfoldable pub outcome_wanted : List ℕ → List Pair → List Offer → Component → Outcome
outcome_wanted ws ps os c = cond (holds ws c.number) (outcome_of (load_on ps os c)) Outcome.Waiting

-- the offers of the first k of some components, as far as they are wanted
unfoldable pub offers_below : List ℕ → List Pair → (ℕ → Component) → ℕ → List Offer
offers_below ws ps at zero = []
offers_below ws ps at (suc k) =
    let earlier = offers_below ws ps at k in
    earlier ++ (offer_of (at k) (outcome_wanted ws ps earlier (at k)) ∷ [])
