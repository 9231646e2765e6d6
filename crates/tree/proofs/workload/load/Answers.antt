-- The loop's invariant: what is gathered from the pairs gone through, with its common period, and those from the next on, make the whole workload.
use Prim.Native.Nat.{ℕ, ◌+◌}
use mathlib.Core.List.{List, ◌∷◌, map}
use mathlib.Core.Path.{◌≡◌, refl, sym, subst, ap, ◌∙◌}
use lib.Dec.{eqb}
use lib.ListN.{length, get_or, drop}
use borrow.Author.Rules.{rules}
use Rattle.std.proofs.lemmas.List.{drop_more, drop_all}
use Rattle.std.specs.List.{find}
use Rattle.std.specs.Prelude.{Option}
use Rattle.budget.specs.declared.common.Common.{Common}
use Rattle.budget.specs.declared.component.Component.{Component}
use Rattle.budget.specs.declared.task.Table.{Table}
use Rattle.budget.specs.Component.{Right}
use Rattle.budget.specs.Limits.{most_tasks}
use Rattle.budget.proofs.Places.{length_mapped}
use Rattle.record.specs.declared.layout.Pair.{Pair}
use Rattle.transfer.specs.Pairing.{no_pair}
use Rattle.tree.specs.declared.offer.Offer as code
use Rattle.tree.specs.Offer.{capacity_in, no_offer, offer_in, offered_in}
use Rattle.tree.specs.Workload.{load_in, load_on, ready}
use Rattle.tree.specs.numbers.Load.{Load}
use Rattle.tree.proofs.LoadRight.{load_right}
use Rattle.tree.proofs.OfferLaws.{found, found_is, told_some}
use Rattle.tree.proofs.WorkloadLaws.{gathering_none, gathering_same, gathering_more, gathering_waits, gathered}
use Rattle.tree.proofs.workload.load.Goals as goal
use Rattle.tree.proofs.workload.load.Goals.{then-pair-component+in_ok-offer+in_ok-capacity, else-pair-component, After-loop-pair, In-loop-pair, Start}

-- a table has the places that its type gives it
places : (h : Start) → length h.args.known.component.table.tasks ≡ most_tasks
places h = search (rules, length_mapped)

-- a component with another table and another common period, twice
same_on : (c l m : Component) (s : Common) (t : Table) → l ≡ record c { common = l.common; table = l.table } → m ≡ record l { common = s; table = t }
    → m ≡ record c { common = m.common; table = m.table }
same_on c l m s t e f = f ∙ ap (λ (x : Component). record x { common = s; table = t }) e ∙ ap (λ (x : Component). record c { common = x.common; table = x.table }) (sym f)

pub loop-pair-init : goal.loop-pair-init
loop-pair-init c = record { gathered = gathering_none _ _ _ c.args.known.right (places (goal.at.loop-pair-init c).Start) _ c.own_tasks.ensures; same = refl }

-- the pair of this turn names the parent
module _ (c : In-loop-pair) where
  abbrev pair : Pair
  pair = get_or c.args.pairs.now c.loop-pair.pair-index no_pair

  here : drop c.loop-pair.pair-index c.args.pairs.now ≡ pair ∷ drop (c.loop-pair.pair-index + 1) c.args.pairs.now
  here = drop_more c.args.pairs.now c.loop-pair.pair-index no_pair c.loop-pair-test.true

-- what is looked for is what is found
looked : (os : List code.Offer) (n : ℕ) (r : Option code.Offer) → r ≡ find (λ (o : code.Offer). eqb o.number n) os → (s : Option code.Offer) → r ≡ s → found s ≡ offer_in (map offered_in os) n
looked os n r e s f = ap found (sym f ∙ e) ∙ sym (found_is os n)

pub returns-in_err-offer : goal.returns-in_err-offer
returns-in_err-offer c =
    let p = (goal.at.returns-in_err-offer c).In-loop-pair in
    let l = c.loop-pair in
    ap load_in c.from_residual.ensures
    ∙ sym (gathering_waits c.args.pairs.now (map offered_in c.args.offers.now) c.args.known.component _ _ (pair p) (here p) l.loaded.table l.loaded.common l.invariant.gathered c.if-pair-component.true no_offer
    (looked _ _ _ c.find_offer.ensures _ c.in_err-offer.was) refl)

pub returns-in_err-capacity : goal.returns-in_err-capacity
returns-in_err-capacity c =
    let p = (goal.at.returns-in_err-capacity c).In-loop-pair in
    let l = c.loop-pair in
    ap load_in c.from_residual-in_err-capacity.ensures
    ∙ sym (gathering_waits c.args.pairs.now (map offered_in c.args.offers.now) c.args.known.component _ _ (pair p) (here p) l.loaded.table l.loaded.common l.invariant.gathered c.if-pair-component.true (offered_in c.in_ok-offer.offer)
    (looked _ _ _ c.find_offer.ensures _ c.in_ok-offer.was) (ap capacity_in c.in_err-capacity.was))

pub loop-pair-preserved : goal.loop-pair-preserved
loop-pair-preserved c =
    let p = (goal.at.loop-pair-preserved c).In-loop-pair in
    let l = c.loop-pair in
    elim c.if-pair-component.branch [
      | then-pair-component+in_ok-offer+in_ok-capacity w ↦ rw w.loaded-is (record {
        gathered = gathering_more c.args.pairs.now (map offered_in c.args.offers.now) c.args.known.component _ _ (pair p) (here p) l.loaded.table l.loaded.common l.invariant.gathered w.if-pair-component.true (offered_in w.in_ok-offer.offer)
            (looked _ _ _ w.find_offer.ensures _ w.in_ok-offer.was) (told_some w.in_ok-offer.offer w.in_ok-capacity.capacity w.in_ok-capacity.was) _ (ap (λ (x : Component). x.table) w.with_child-loaded.ensures) _ (ap (λ (x : Component). x.common) w.with_child-loaded.ensures);
        same = same_on c.args.known.component l.loaded _ _ _ l.invariant.same w.with_child-loaded.ensures;
      })
      | else-pair-component w ↦ rw w.loaded-is (record {
        gathered = gathering_same c.args.pairs.now (map offered_in c.args.offers.now) c.args.known.component _ _ (pair p) (here p) l.loaded.table l.loaded.common l.invariant.gathered w.if-pair-component.false;
        same = l.invariant.same;
      })
    ]

-- at the end what was gathered is the whole workload
gathered_all : (c : After-loop-pair) → ready c.loop-pair.loaded ≡ load_on c.args.pairs.now (map offered_in c.args.offers.now) c.args.known.component
gathered_all c =
    let l = c.loop-pair in
    ap ready l.invariant.same
    ∙ sym (gathered c.args.pairs.now (map offered_in c.args.offers.now) c.args.known.component (drop l.pair-index c.args.pairs.now) (drop_all l.pair-index c.args.pairs.now c.loop-pair-test.false) l.loaded.table l.loaded.common l.invariant.gathered)

pub returns : goal.returns
returns c = gathered_all (goal.at.returns c).After-loop-pair

pub invariant_of-result : goal.invariant_of-result
invariant_of-result c = record { right = subst (λ (l : Load). Right l.component) (sym (gathered_all c)) (load_right _ _ _) }
