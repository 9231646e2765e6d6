-- A component that no pair names as parent has no children, so its workload is its own tasks, and with them as its tasks it is the component that is
-- read.
use Prim.Native.Nat.{ℕ, ◌≤◌, ◌<◌}
use native.Mathlib.Omega.{arith}
use mathlib.Core.List.{List, [], ◌∷◌, append-nil}
use mathlib.Core.Path.{◌≡◌, refl, ap, subst, ◌∙◌}
use lib.ListN.{length, take}
use lib.Seq.{take_all}
use Rattle.budget.specs.declared.component.Component.{Component}
use Rattle.budget.specs.Component.{with_tasks}
use Rattle.budget.specs.Limits.{most_tasks}
use Rattle.budget.specs.Task.{tasks_of}
use Rattle.record.specs.Field.{Bytes}
use Rattle.sheet.specs.Check.{check, pairs_of}
use Rattle.sheet.specs.Pairs.{named}
use Rattle.transfer.specs.Reading.{reading}
use Rattle.transfer.specs.RoundTrip.{returned}
use Rattle.transfer.proofs.Sheet.{Sheet, accepted_sheet, returned_at}
use Rattle.tree.specs.numbers.Offer.{Offer}
use Rattle.tree.specs.Nested.{NoParentAlone, children_at}
use Rattle.tree.specs.Outcome.{outcome_of}
use Rattle.tree.specs.Tree.{load_at, outcome_at}
use Rattle.tree.specs.Workload.{all_offered, load_on, ready, tasks_from, workload}
use Rattle.tree.proofs.WorkloadFits.{children_named, workload_fits}

no_offers : (os : List Offer) → length os ≡ 0 → os ≡ []
no_offers [] e = refl
no_offers (o ∷ os) e = absurd (omega (arith, e))

-- read again as it is returned
same_read : (s : List ℕ) (x : Sheet s) (k : ℕ) → k < (check s).count → returned (reading s k).component ≡ (reading s k).component
same_read s x k h = rw (x.reads k) (returned_at x.cs x.same k (subst (λ (n : ℕ). k < n) x.count h))

-- the own tasks as the whole workload
alone : (c : Component) → length (workload c []) ≤ most_tasks → with_tasks c (take most_tasks (workload c [])) ≡ returned c
unfolding workload tasks_from
alone c few = ap (with_tasks c) (take_all most_tasks _ few ∙ append-nil (tasks_of c.table))

module _ (s : List ℕ) (bytes : Bytes s) (e : (check s).refusal ≡ 0) (k : ℕ) (h : k < (check s).count) (none : named (pairs_of s) (reading s k).component.number ≡ 0) where
  no_children : children_at s k ≡ []
  no_children = no_offers (children_at s k) (children_named (pairs_of s) _ (reading s k).component.number ∙ none)

  load_alone : load_at s k ≡ ready (reading s k).component
  unfolding load_at load_on all_offered
  load_alone =
      rw no_children
      (ap ready
      (alone (reading s k).component (subst (λ (os : List Offer). length (workload (reading s k).component os) ≤ most_tasks) no_children (workload_fits s bytes e k h))
      ∙ same_read s (accepted_sheet s bytes e) k h))

pub no_parent_alone : NoParentAlone
unfolding outcome_at outcome_of
no_parent_alone s bytes e k h none = rw (load_alone s bytes e k h none)
