-- What a workload makes stores the right common period: it is a component with tasks as it is returned, or the stand-in.
use Prim.Native.Nat.{ℕ}
use mathlib.Core.List.{List}
use lib.Dec.{eqb}
use Rattle.budget.specs.declared.component.Component.{Component}
use Rattle.budget.specs.Component.{Right}
use Rattle.budget.specs.Refusal as refusal
use Rattle.budget.proofs.CommonLaws.{refused_right, with_tasks_right}
use Rattle.record.specs.declared.layout.Pair.{Pair}
use Rattle.record.proofs.Cases.{cases}
use Rattle.transfer.specs.Reading.{reading}
use Rattle.tree.specs.numbers.Load.{Load}
use Rattle.tree.specs.numbers.Offer.{Offer}
use Rattle.tree.specs.Tree.{load_at, loading}
use Rattle.tree.specs.Workload.{all_offered, children, load_on}

-- of either answer
abbrev Holds : Load → Type 0
Holds l = Right l.component

pub load_right : (ps : List Pair) (os : List Offer) (c : Component) → Right (load_on ps os c).component
unfolding load_on
load_right ps os c = cases Holds (all_offered (children ps os c.number)) (λ p. with_tasks_right c _) (λ p. refused_right)

pub loading_right : (s : List ℕ) (k : ℕ) → Right (loading s k).load.component
unfolding loading load_at
loading_right s k = cases Holds (eqb (reading s k).refusal refusal.none) (λ p. load_right _ _ _) (λ p. refused_right)
