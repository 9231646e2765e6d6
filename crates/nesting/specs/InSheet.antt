-- The tree that a taken sheet describes, its components named by their places in the sheet, and what is promised of it: whatever is below an
-- accepted component is served (RULES 5, 7, 9, 10), and what the judge says of one component holds of a parent's whole workload.
use Rattle.std.specs.Prelude.{ℕ, zero, suc, ◌<◌, true, cond, List, [], ◌∷◌, map, ◌≡◌, eqb}
use Rattle.budget.specs.declared.component.Component.{Component}
use Rattle.budget.specs.declared.quantity.Units.{Units}
use Rattle.budget.specs.Component.{component_refusal, interface_at, with_tasks}
use Rattle.budget.specs.Interface.{Π}
use Rattle.budget.specs.Refusal as refusal
use Rattle.budget.specs.Task.{tasks_of}
use Rattle.judge.specs.numbers.Judged.{Answered}
use Rattle.judge.specs.numbers.Margined.{Margined}
use Rattle.judge.specs.declared.answer.Verdict.TheVariants as Verdict
use Rattle.judge.specs.Answer.{judge_answer}
use Rattle.judge.specs.Judged.{verdict_answer}
use Rattle.trace.specs.Legal.{Legal, zeros_and_ones}
use Rattle.promises.specs.Demand3.{Promise}
use Rattle.record.specs.declared.layout.Pair.{Pair}
use Rattle.record.specs.Field.{Bytes}
use Rattle.sheet.specs.Check.{check, pairs_of}
use Rattle.transfer.specs.Reading.{reading}
use Rattle.tree.specs.numbers.Outcome as Outcome
use Rattle.tree.specs.Offer.{offer_of}
use Rattle.tree.specs.Tree.{load_at, outcome_at}
use Rattle.tree.specs.Workload.{ready}
use Rattle.nesting.specs.Behaviour.{Admissible, Behaviour}
use Rattle.nesting.specs.Service.{ServedBelow}
use Rattle.nesting.specs.Tree.{Below, Tree, workload}

-- the numbers of a parent's children, in the order of the pairs
unfoldable pub child_numbers : List Pair → ℕ → List ℕ
child_numbers [] n = []
child_numbers (p ∷ ps) n =
    let later = child_numbers ps n in
    cond (eqb p.parent n) (p.child ∷ later) later

-- the place, among the first k components, of the one of that number
unfoldable pub place_among : List ℕ → ℕ → ℕ → ℕ
place_among s zero n = 0
place_among s (suc k) n = cond (eqb (reading s k).component.number n) k (place_among s k n)

-- the places of the children of the component at a place
unfoldable pub child_places : List ℕ → ℕ → List ℕ
child_places s k = map (place_among s (check s).count) (child_numbers (pairs_of s) (reading s k).component.number)

-- the capacity that the component at a place is accepted with
unfoldable pub capacity_at : List ℕ → ℕ → ℕ
capacity_at s k = (offer_of (reading s k).component (outcome_at s k)).capacity

-- the tree that a sheet describes
abbrev pub tree_of : List ℕ → Tree
tree_of s =
    record {
      interface = λ k. interface_at (reading s k).component (capacity_at s k);
      own = λ k. tasks_of (reading s k).component.table;
      children = child_places s;
    }

-- the component at a place of the sheet is accepted in its tree
pub record AcceptedAt (s : List ℕ) (k : ℕ) : Type 0 where
  pub inside : k < (check s).count
  pub capacity : Units
  pub margin : Margined
  pub outcome : outcome_at s k ≡ Outcome.Judged (record { verdict = Answered capacity Verdict.Accepted; margin = margin })

-- the component at a place with its tree's workload as its tasks, and the common period of all of them
abbrev pub loaded_at : List ℕ → ℕ → Component
loaded_at s k = with_tasks (reading s k).component (workload (tree_of s) k)

-- what is promised of the component at a place, if it is accepted: all below it are accepted as well, since a parent of one that isn't waits;
-- each was judged with its workload in the tree; and all are served, whatever happens below it and on every legal trace of any length
pub record InSheet (s : List ℕ) (k : ℕ) : Type 0 where
  pub accepted : (c : ℕ) → Below (tree_of s) k c → AcceptedAt s c
  pub judged : (c : ℕ) → Below (tree_of s) k c → load_at s c ≡ ready (loaded_at s c)
  pub served : (b : Behaviour) → Admissible (tree_of s) k b → (o : ℕ) (trace : List ℕ) → o < Π ((tree_of s).interface k) → zeros_and_ones trace ≡ true
      → Legal ((tree_of s).interface k) o trace → ServedBelow (tree_of s) k b trace

-- the statement about service, of every sheet of bytes that is taken and every accepted component of it
abbrev pub ServiceInSheet : Type 0
ServiceInSheet = (s : List ℕ) → Bytes s → (check s).refusal ≡ refusal.none → (k : ℕ) → AcceptedAt s k → InSheet s k

-- demand 3 of a component in its tree: judged with its whole workload as its tasks
pub record NestedPromise (s : List ℕ) (k : ℕ) (c : Component) : Type 0 where
  pub loaded : c ≡ loaded_at s k
  pub tasks : tasks_of c.table ≡ workload (tree_of s) k
  pub outcome : outcome_at s k ≡ Outcome.Judged (judge_answer c)
  pub promise : Promise c c.capacity (verdict_answer c)

-- of every component of a taken sheet that doesn't wait and whose workload is not refused
abbrev pub NestedDemand3 : Type 0
NestedDemand3 =
    (s : List ℕ) → Bytes s → (check s).refusal ≡ refusal.none → (k : ℕ) → k < (check s).count → (c : Component) → load_at s k ≡ ready c
    → component_refusal c ≡ refusal.none → NestedPromise s k c
