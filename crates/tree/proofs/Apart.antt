-- No two answers of the code have the same numbers: each is said back from what it is read as, and a refusal has a number of its own.
use Prim.Native.Nat.{ℕ, ◌<◌}
use mathlib.Core.Bool.{Bool, true, false}
use mathlib.Core.Path.{◌≡◌, refl, sym, ap, ap₂}
use native.Mathlib.Omega.{arith}
use Rattle.std.specs.Prelude.{List, [], ◌∷◌, length, get_or, drop, Option, Some, None, IfSome, Ok, Err}
use Rattle.budget.specs.declared.quantity.Time.{Time}
use Rattle.budget.specs.declared.quantity.Units.{Units}
use Rattle.budget.specs.declared.right.Known.{Known}
use Rattle.budget.proofs.Refusals.{some}
use Rattle.judge.specs.numbers.Answer.{Answer}
use Rattle.judge.specs.numbers.Judged as Judged
use Rattle.judge.specs.numbers.Margined as Margined
use Rattle.judge.proofs.Apart.{answers_apart}
use Rattle.sheet.proofs.Apart.{faults_apart}
use Rattle.tree.specs.declared.answer.Outcome as code
use Rattle.tree.specs.declared.answer.Outcome.TheVariants as variant
use Rattle.tree.specs.numbers.Load.{Load}
use Rattle.tree.specs.numbers.Loaded.{Loaded}
use Rattle.tree.specs.numbers.Outcome.{Outcome}
use Rattle.tree.specs.numbers.Placed.{Placed}
use Rattle.tree.specs.Offer.{OffersApart, capacity_in, fields_in, row_in, withheld}
use Rattle.tree.specs.Outcome.{OutcomesApart}
use Rattle.tree.specs.Tree.{PlacingsApart, LoadingsApart, component_in}
use Rattle.tree.specs.Workload.{load_in}

-- whether an outcome is that it waits, and else its answer
abbrev waits : Outcome → Bool
waits Outcome.Waiting = true
waits (Outcome.Judged a) = false

abbrev judged : Outcome → Answer
judged Outcome.Waiting = record { verdict = Judged.Refused 0; margin = Margined.Refused 0 }
judged (Outcome.Judged a) = a

abbrev bit : Bool → ℕ
bit true = 1
bit false = 0

true_false : true ≡ false → ⊥
true_false e = let h : 1 ≡ 0 = ap bit e in omega (arith, h)

pub outcomes_apart : OutcomesApart
outcomes_apart variant.Waiting variant.Waiting e = refl
outcomes_apart variant.Waiting (variant.Judged r) e = absurd (true_false (ap waits e))
outcomes_apart (variant.Judged r) variant.Waiting e = absurd (true_false (sym (ap waits e)))
outcomes_apart (variant.Judged r) (variant.Judged s) e = ap variant.Judged (answers_apart r s (ap judged e))

-- what is answered at a place: its refusal's number and byte, or 0, and else its number and outcome
abbrev refusal : Placed → ℕ
refusal (Placed.Refused n at) = n
refusal (Placed.Found n o) = 0

abbrev byte : Placed → ℕ
byte (Placed.Refused n at) = at
byte (Placed.Found n o) = 0

abbrev number : Placed → ℕ
number (Placed.Refused n at) = 0
number (Placed.Found n o) = n

abbrev outcome : Placed → Outcome
outcome (Placed.Refused n at) = Outcome.Waiting
outcome (Placed.Found n o) = o

pub placings_apart : PlacingsApart
placings_apart (Ok p) (Ok q) e =
    ap Ok
    (ap₂ (λ (n : ℕ) (o : code.Outcome). record { number = n; outcome = o })
    (ap number e)
    (outcomes_apart p.outcome q.outcome (ap outcome e)))
placings_apart (Ok p) (Err g) e = absurd (some g.refusal (sym (ap refusal e)))
placings_apart (Err f) (Ok q) e = absurd (some f.refusal (ap refusal e))
placings_apart (Err f) (Err g) e = ap Err (faults_apart f g (ap refusal e) (ap byte e))

workloads_apart : (a b : Option Known) → load_in a ≡ load_in b → component_in a ≡ component_in b
workloads_apart None None e = refl
workloads_apart None (Some k) e = absurd (true_false (ap (λ (l : Load). l.waiting) e))
workloads_apart (Some k) None e = absurd (true_false (sym (ap (λ (l : Load). l.waiting) e)))
workloads_apart (Some k) (Some l) e = ap Some (ap (λ (x : Load). x.component) e)

pub loadings_apart : LoadingsApart
loadings_apart =
    record {
      given = λ l m e. (ap (λ (x : Loaded). x.number) e, workloads_apart l.workload m.workload (ap (λ (x : Loaded). x.load) e));
      refused = λ f g e. faults_apart f g (ap (λ (x : Loaded). x.refusal) e) (ap (λ (x : Loaded). x.place) e);
      either = λ l f e. some f.refusal (sym (ap (λ (x : Loaded). x.refusal) e));
    }

-- a capacity that is told is not the number that stands for one withheld
capacities_apart : (u v : Option Units) → IfSome u (λ c. c.0 < withheld) → IfSome v (λ c. c.0 < withheld) → capacity_in u ≡ capacity_in v → u ≡ v
capacities_apart None None s t e = refl
capacities_apart None (Some d) s t e = absurd (omega (arith, t, e))
capacities_apart (Some c) None s t e = absurd (omega (arith, s, e))
capacities_apart (Some c) (Some d) s t e = ap (λ (n : ℕ). Some (record { 0 = n })) e

pub offers_apart : OffersApart
unfolding row_in
offers_apart [] [] e = refl
offers_apart [] (p ∷ b) e = let h = ap length e in absurd (omega (arith, h))
offers_apart (o ∷ a) [] e = let h = ap length e in absurd (omega (arith, h))
offers_apart (o ∷ a) (p ∷ b) e =
    let number : o.number ≡ p.number = ap (λ (xs : List ℕ). get_or xs 0 0) e in
    let capacity = capacities_apart o.capacity p.capacity o.told p.told (ap (λ (xs : List ℕ). get_or xs 1 0) e) in
    let period : o.period.0 ≡ p.period.0 = ap (λ (xs : List ℕ). get_or xs 2 0) e in
    let deadline : o.deadline.0 ≡ p.deadline.0 = ap (λ (xs : List ℕ). get_or xs 3 0) e in
    ap₂ ◌∷◌
    (ap₂ (λ (n : ℕ) (r : Option Units × (Time × Time)). (n, r)) number
    (ap₂ (λ (u : Option Units) (r : Time × Time). (u, r)) capacity
    (ap₂ (λ (m n : ℕ). (record { 0 = m }, record { 0 = n })) period deadline)))
    (offers_apart a b (ap (drop 4) e))
