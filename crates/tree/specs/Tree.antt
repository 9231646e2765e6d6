-- The components of a sheet judged in one pass, by rising number: each after its children (RULES 7).
use Rattle.std.specs.Prelude.{ℕ, zero, suc, cond, List, [], ◌∷◌, ◌++◌, eqb, Option, Some, None, Result, Ok, Err, ◌≡◌}
use Rattle.budget.specs.declared.component.Component.{Component}
use Rattle.budget.specs.declared.right.Known.{Known}
use Rattle.budget.specs.Component.{refused}
use Rattle.budget.specs.Refusal as refusal
use Rattle.sheet.specs.declared.fault.Fault.{Fault}
use Rattle.sheet.specs.Check.{pairs_of}
use Rattle.transfer.specs.Reading.{reading}
use Rattle.tree.specs.declared.answer.Placed as answer
use Rattle.tree.specs.declared.place.Loaded as place
use Rattle.tree.specs.numbers.Load.{Load}
use Rattle.tree.specs.numbers.Outcome.{Outcome}
use Rattle.tree.specs.numbers.Offer.{Offer}
use Rattle.tree.specs.numbers.Loaded.{Loaded}
use Rattle.tree.specs.numbers.Placed.{Placed}
use Rattle.tree.specs.Offer.{offer_of}
use Rattle.tree.specs.Outcome.{outcome_in, outcome_of}
use Rattle.tree.specs.Workload.{load_in, load_on, ready}

-- the offers of the first k components; a child has a smaller number than its parent, so its offer stands before
unfoldable pub offers_to : List ℕ → ℕ → List Offer
offers_to s zero = []
offers_to s (suc k) =
    let earlier = offers_to s k in
    let c = (reading s k).component in
    earlier ++ (offer_of c (outcome_of (load_on (pairs_of s) earlier c)) ∷ [])

-- the workload of the component at a place, and what it is answered
unfoldable pub load_at : List ℕ → ℕ → Load
load_at s k = load_on (pairs_of s) (offers_to s k) (reading s k).component

unfoldable pub outcome_at : List ℕ → ℕ → Outcome
outcome_at s k = outcome_of (load_at s k)

-- the sheet's refusal, then 15 where no component stands at the place (RULES 13); refused, the component is the one that RULES 11 fixes
unfoldable pub loading : List ℕ → ℕ → Loaded
loading s k =
    let r = reading s k in
    record { refusal = r.refusal; place = r.place; number = r.component.number; load = cond (eqb r.refusal refusal.none) (load_at s k) (ready refused) }

unfoldable pub placing : List ℕ → ℕ → Placed
placing s k =
    let r = reading s k in
    cond (eqb r.refusal refusal.none) (Placed.Found r.component.number (outcome_at s k)) (Placed.Refused r.refusal r.place)

-- how what is loaded at a place is read as such; refused, it is the component that RULES 11 fixes
abbrev pub loaded_in : Result place.Loaded Fault → Loaded
loaded_in (Ok l) = record { refusal = refusal.none; place = 0; number = l.number; load = load_in l.workload }
loaded_in (Err f) = record { refusal = refusal.number_of f.refusal; place = f.place; number = 0; load = ready refused }

-- how what is answered at a place is read as such
abbrev pub placed_in : Result answer.Placed Fault → Placed
placed_in (Ok p) = Placed.Found p.number (outcome_in p.outcome)
placed_in (Err f) = Placed.Refused (refusal.number_of f.refusal) f.place

-- no two answers of the code at a place have the same numbers
abbrev pub PlacingsApart : Type 0
PlacingsApart = (a b : Result answer.Placed Fault) → placed_in a ≡ placed_in b → a ≡ b

-- what is loaded, without the knowledge that it is right
abbrev pub component_in : Option Known → Option Component
component_in None = None
component_in (Some k) = Some k.component

-- nor have two that load at a place
pub record LoadingsApart : Type 0 where
  pub given : (l m : place.Loaded) → loaded_in (Ok l) ≡ loaded_in (Ok m) → (l.number ≡ m.number) × (component_in l.workload ≡ component_in m.workload)
  pub refused : (f g : Fault) → loaded_in (Err f) ≡ loaded_in (Err g) → f ≡ g
  pub either : (l : place.Loaded) (f : Fault) → loaded_in (Ok l) ≡ loaded_in (Err f) → ⊥
