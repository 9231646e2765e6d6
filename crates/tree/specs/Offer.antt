-- What a component offers to its parent once it is judged (RULES 7): the capacity it is accepted with, for its period and deadline.
use Rattle.std.specs.Prelude.{ℕ, ◌≡◌, Bool, cond, not, List, [], ◌∷◌, ◌++◌, map, Option, Some, None, eqb}
use Rattle.budget.specs.declared.component.Component.{Component}
use Rattle.budget.specs.declared.quantity.Time.{Time}
use Rattle.budget.specs.declared.quantity.Units.{Units}
use Rattle.budget.specs.declared.task.Task.{Task}
use Rattle.judge.specs.numbers.Judged.{Judged}
use Rattle.judge.specs.numbers.Judged.{Refused, Answered}
use Rattle.judge.specs.declared.answer.Verdict.TheVariants as Verdict
use Rattle.tree.specs.numbers.Outcome.{Outcome}
use Rattle.tree.specs.declared.offer.Offer as code
use Rattle.tree.specs.numbers.Offer.{Offer}

-- stands in place of a capacity where the component is not accepted; no capacity is so large
abbrev pub withheld : ℕ
withheld = 4_294_967_295

-- how a capacity of the code is read as such, where none is withheld
abbrev pub capacity_in : Option Units → ℕ
capacity_in None = withheld
capacity_in (Some u) = u.0

-- how an offer of the code is read as such
abbrev pub offered_in : code.Offer → Offer
offered_in o = record { number = o.number; capacity = capacity_in o.capacity; period = o.period.0; deadline = o.deadline.0 }

-- the offer of a component at this capacity
abbrev pub offering : Component → ℕ → Offer
offering c q = record { number = c.number; capacity = q; period = c.period.0; deadline = c.deadline.0 }

abbrev pub offered_on : Component → Judged → Offer
offered_on c (Refused n) = offering c withheld
offered_on c (Answered q Verdict.Accepted) = offering c q.0
offered_on c (Answered q (Verdict.Short t)) = offering c withheld
offered_on c (Answered q Verdict.None) = offering c withheld

-- only one that is accepted offers anything
unfoldable pub offer_of : Component → Outcome → Offer
offer_of c Outcome.Waiting = offering c withheld
offer_of c (Outcome.Judged a) = offered_on c a.verdict

-- stands for the offer of a component that was not judged
abbrev pub no_offer : Offer
no_offer = record { number = 0; capacity = withheld; period = 0; deadline = 0 }

-- the offer of the component of that number
unfoldable pub offer_in : List Offer → ℕ → Offer
offer_in [] n = no_offer
offer_in (o ∷ os) n = cond (eqb o.number n) o (offer_in os n)

abbrev pub is_offered : Offer → Bool
is_offered o = not (eqb o.capacity withheld)

-- an interface (Π, Θ, Δ) as the task (T, C, D), whose jobs are ready when they are released
abbrev pub as_task : Offer → Task
as_task o =
    record {
      period = record { 0 = o.period };
      work = record { 0 = o.capacity };
      deadline = record { 0 = o.deadline };
      lateness = record { 0 = 0 };
    }

-- offers in a row of numbers: four each, one behind the other
abbrev pub noted : Offer → List ℕ
noted o = o.number ∷ o.capacity ∷ o.period ∷ o.deadline ∷ []

unfoldable pub offers_in : List ℕ → List Offer
offers_in [] = []
offers_in (n ∷ []) = []
offers_in (n ∷ q ∷ []) = []
offers_in (n ∷ q ∷ p ∷ []) = []
offers_in (n ∷ q ∷ p ∷ d ∷ xs) = record { number = n; capacity = q; period = p; deadline = d } ∷ offers_in xs

-- how a row of offers of the code is read as such a row
unfoldable pub row_in : List code.Offer → List ℕ
row_in [] = []
row_in (o ∷ os) = noted (offered_in o) ++ row_in os

-- which settles the offers: no two rows of them are read as the same
abbrev pub fields_in : code.Offer → ℕ × (Option Units × (Time × Time))
fields_in o = (o.number, (o.capacity, (o.period, o.deadline)))

abbrev pub OffersApart : Type 0
OffersApart = (a b : List code.Offer) → row_in a ≡ row_in b → map fields_in a ≡ map fields_in b
