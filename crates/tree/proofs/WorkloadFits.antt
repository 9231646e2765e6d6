-- No workload of a taken sheet has more tasks than a table has places: a child adds one task at most, and the rules of pairs count each child
-- with its parent's own tasks.
use Prim.Native.Nat.{ℕ, suc, ◌+◌, ◌≤◌, ◌<◌}
use mathlib.Core.Bool.{Bool, true, false, cond}
use mathlib.Core.List.{List, [], ◌∷◌}
use mathlib.Core.Path.{◌≡◌, refl, sym, subst}
use native.Mathlib.Decide.{dec_lt}
use native.Mathlib.Omega.{arith}
use lib.Dec.{eqb}
use lib.ListN.{length, get_or, length-append}
use Rattle.budget.specs.declared.component.Component.{Component}
use Rattle.budget.specs.Component.{refused}
use Rattle.budget.specs.Limits.{most_tasks}
use Rattle.budget.specs.Task.{tasks_of}
use Rattle.record.specs.declared.layout.Pair.{Pair}
use Rattle.sheet.specs.Check.{pairs_of}
use Rattle.sheet.specs.Pairs.{named, own_tasks}
use Rattle.sheet.proofs.NestedLaws.{never_full}
use Rattle.transfer.specs.RoundTrip.{entries_of}
use Rattle.transfer.proofs.Accepts.{few_tasks}
use Rattle.transfer.proofs.ReadsBack.{Fitting, sound_at}
use Rattle.transfer.proofs.Sheet.{accepted_sheet}
use Rattle.tree.specs.numbers.Offer.{Offer}
use Rattle.tree.specs.Nested.{WorkloadFits}
use Rattle.tree.specs.Offer.{as_task, offer_in}
use Rattle.tree.specs.Tree.{offers_to}
use Rattle.tree.specs.Workload.{children, tasks_from, workload}
use Rattle.tree.proofs.NumberLaws.{own_tasks_lem}

-- a parent has as many children as pairs name it
pub children_named : (ps : List Pair) (os : List Offer) (n : ℕ) → length (children ps os n) ≡ named ps n
unfolding children named
children_named [] os n = refl
children_named (p ∷ ps) os n = more (eqb p.parent n) (children_named ps os n)
  where
    more : (b : Bool) → length (children ps os n) ≡ named ps n
        → length (cond b (offer_in os p.child ∷ children ps os n) (children ps os n)) ≡ cond b 1 0 + named ps n
    more true e = omega arith
    more false e = omega arith

tasks_few : (os : List Offer) → length (tasks_from os) ≤ length os
unfolding tasks_from
tasks_few [] = omega arith
tasks_few (o ∷ os) = more (eqb o.capacity 0) (tasks_few os)
  where
    more : (b : Bool) → length (tasks_from os) ≤ length os → length (cond b (tasks_from os) (as_task o ∷ tasks_from os)) ≤ suc (length os)
    more true h = omega arith
    more false h = omega arith

module _ (cs : List Component) (ps : List Pair) (v : Fitting cs ps) (os : List Offer) (k : ℕ) (inside : k < length cs) where
  abbrev c : Component
  c = get_or cs k refused

  -- no more tasks than own ones and pairs that name the parent
  no_more : length (workload c (children ps os c.number)) ≤ own_tasks (entries_of cs) c.number + named ps c.number
  unfolding workload
  no_more =
      let below = children ps os c.number in
      omega (arith, length-append (tasks_of c.table) (tasks_from below), tasks_few below, children_named ps os c.number, own_tasks_lem cs 0 v.rising k inside)

  fits : length (workload c (children ps os c.number)) ≤ most_tasks
  fits = by (dec_lt 0 (named ps c.number))
    where
      by : Dec (0 < named ps c.number) → length (workload c (children ps os c.number)) ≤ most_tasks
      by (yes some) = omega (arith, no_more, never_full (entries_of cs) ps v.nested c.number some)
      by (no none) = omega (arith, no_more, own_tasks_lem cs 0 v.rising k inside, few_tasks c (sound_at cs 0 v.rising k inside))

pub workload_fits : WorkloadFits
workload_fits s bytes e k h =
    let w = accepted_sheet s bytes e in
    subst (λ (c : Component). length (workload c (children (pairs_of s) (offers_to s k) c.number)) ≤ most_tasks) (sym (w.reads k))
    (subst (λ (ps : List Pair). length (workload (get_or w.cs k refused) (children ps (offers_to s k) (get_or w.cs k refused).number)) ≤ most_tasks) (sym w.pairs)
    (fits w.cs w.ps w.fits (offers_to s k) k (subst (λ (n : ℕ). k < n) w.count h)))
