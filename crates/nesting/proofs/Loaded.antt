-- The workload that the component at a place of a taken sheet is judged with is the tree's, pair by pair, and where it doesn't wait each of its
-- children is accepted.
use Prim.Native.Nat.{ℕ, zero, suc, ◌<◌}
use mathlib.Core.Bool.{Bool, true, false, cond, false≢true}
use mathlib.Core.List.{List, [], ◌∷◌, ◌++◌, map}
use mathlib.Core.Path.{◌≡◌, refl, sym, ap, subst, ◌∙◌}
use native.Mathlib.Omega.{arith}
use lib.Dec.{eqb, leb}
use lib.ListN.{length, get_or, take}
use lib.Seq.{take_all}
use borrow.Author.Tests.{eqb-true, le-leb, ne_eqb}
use Rattle.budget.specs.declared.component.Component.{Component}
use Rattle.budget.specs.declared.task.Task.{Task}
use Rattle.budget.specs.Component.{with_tasks}
use Rattle.budget.specs.Limits.{most_tasks}
use Rattle.budget.specs.Refusal as refusal
use Rattle.budget.specs.Task.{tasks_of}
use Rattle.budget.proofs.Valid.{both}
use Rattle.judge.specs.numbers.Judged.{Judged}
use Rattle.judge.specs.numbers.Judged.{Answered, Refused}
use Rattle.judge.specs.numbers.Margined.{Margined}
use Rattle.judge.specs.declared.answer.Verdict.TheVariants as Verdict
use Rattle.record.specs.declared.layout.Pair.{Pair}
use Rattle.record.specs.Field.{Bytes}
use Rattle.sheet.specs.Check.{check, pairs_of}
use Rattle.transfer.specs.Pairing.{no_pair}
use Rattle.transfer.specs.Reading.{reading}
use Rattle.tree.specs.numbers.Outcome.{Outcome}
use Rattle.tree.specs.numbers.Offer.{Offer}
use Rattle.tree.specs.Nested.{children_at}
use Rattle.tree.specs.Offer.{is_offered, offer_in, offer_of, offered_on}
use Rattle.tree.specs.Tree.{load_at, offers_to, outcome_at}
use Rattle.tree.specs.Workload.{all_offered, children, load_on, ready, tasks_from, waiting}
use Rattle.tree.specs.Workload as Workload
use Rattle.tree.proofs.WorkloadFits.{workload_fits}
use Rattle.nesting.specs.InSheet.{AcceptedAt, capacity_at, child_numbers, child_places, loaded_at, place_among, tree_of}
use Rattle.nesting.specs.Tree.{Child, as_task, fed, workload}
use Rattle.nesting.proofs.Places.{ChildFound, child_found, number_at, offer_at}

-- a component that offers a capacity is accepted
module _ (s : List ℕ) (k : ℕ) (h : k < (check s).count) where
  judged_by : (j : Judged) (m : Margined) → outcome_at s k ≡ Outcome.Judged (record { verdict = j; margin = m }) → is_offered (offered_on (reading s k).component j) ≡ true → AcceptedAt s k
  judged_by (Refused n) m e f = absurd (false≢true f)
  judged_by (Answered q Verdict.Accepted) m e f = record { inside = h; capacity = q; margin = m; outcome = e }
  judged_by (Answered q (Verdict.Short t)) m e f = absurd (false≢true f)
  judged_by (Answered q Verdict.None) m e f = absurd (false≢true f)

  offered_by : (o : Outcome) → outcome_at s k ≡ o → is_offered (offer_of (reading s k).component o) ≡ true → AcceptedAt s k
  unfolding offer_of
  offered_by Outcome.Waiting e f = absurd (false≢true f)
  offered_by (Outcome.Judged a) e f = judged_by a.verdict a.margin e f

  offered_accepted : is_offered (offer_at s k) ≡ true → AcceptedAt s k
  unfolding capacity_at
  offered_accepted f = offered_by (outcome_at s k) refl f

-- a child adds its task exactly where it has a capacity
added : (f : ℕ → Task) (k q : ℕ) (later : List ℕ) → cond (eqb q 0) (map f later) (f k ∷ map f later) ≡ map f (cond (leb 1 q) (k ∷ later) later)
added f k zero later = refl
added f k (suc q) later = rw (ne_eqb (suc q) 0 (λ e. omega (arith, e)), le-leb 1 (suc q) (omega arith))

module _ (s : List ℕ) (k : ℕ) where
  abbrev os : List Offer
  os = offers_to s k

  abbrev n : ℕ
  n = number_at s k

  abbrev place : ℕ → ℕ
  place = place_among s (check s).count

  abbrev task_at : ℕ → Task
  task_at c = as_task ((tree_of s).interface c)

  -- of each pair that names the component as its parent the child is found
  abbrev AllFound : List Pair → Type 0
  AllFound ps = (i : ℕ) → i < length ps → (get_or ps i no_pair).parent ≡ n → ChildFound s k (get_or ps i no_pair)

  later_found : (p : Pair) (ps : List Pair) → AllFound (p ∷ ps) → AllFound ps
  later_found p ps all i l = all (suc i) (omega arith)

  tasks_added : (ps : List Pair) → AllFound ps → tasks_from (children ps os n) ≡ map task_at (fed (tree_of s) (map place (child_numbers ps n)))
  unfolding tasks_from children child_numbers fed
  tasks_added [] all = refl
  tasks_added (p ∷ ps) all = by (eqb p.parent n) refl (tasks_added ps (later_found p ps all))
    where
      by : (b : Bool) → eqb p.parent n ≡ b → tasks_from (children ps os n) ≡ map task_at (fed (tree_of s) (map place (child_numbers ps n)))
          → tasks_from (cond b (offer_in os p.child ∷ children ps os n) (children ps os n)) ≡ map task_at (fed (tree_of s) (map place (cond b (p.child ∷ child_numbers ps n) (child_numbers ps n))))
      by true t e =
          let c = place p.child in
          ap (λ (o : Offer). tasks_from (o ∷ children ps os n)) (all 0 (omega arith) (eqb-true p.parent n t)).offer
          ∙ ap (λ (ks : List Task). cond (eqb (capacity_at s c) 0) ks (task_at c ∷ ks)) e
          ∙ added task_at c (capacity_at s c) (fed (tree_of s) (map place (child_numbers ps n)))
      by false t e = e

  -- the components at the places of these numbers are accepted
  abbrev AllAccepted : List ℕ → Type 0
  AllAccepted ns = (i : ℕ) → i < length (map place ns) → AcceptedAt s (get_or (map place ns) i 0)

  children_accepted : (ps : List Pair) → AllFound ps → all_offered (children ps os n) ≡ true → AllAccepted (child_numbers ps n)
  unfolding all_offered children child_numbers
  children_accepted [] all a = λ i l. absurd (omega arith)
  children_accepted (p ∷ ps) all a = by (eqb p.parent n) refl a (children_accepted ps (later_found p ps all))
    where
      by : (b : Bool) → eqb p.parent n ≡ b → all_offered (cond b (offer_in os p.child ∷ children ps os n) (children ps os n)) ≡ true
          → (all_offered (children ps os n) ≡ true → AllAccepted (child_numbers ps n)) → AllAccepted (cond b (p.child ∷ child_numbers ps n) (child_numbers ps n))
      by true t a later zero l =
          let w = all 0 (omega arith) (eqb-true p.parent n t) in
          offered_accepted s (place p.child) w.inside (sym (ap is_offered w.offer) ∙ (both (is_offered (offer_in os p.child)) _ a).0)
      by true t a later (suc i) l = later (both (is_offered (offer_in os p.child)) _ a).1 i (omega arith)
      by false t a later i l = later a i l

-- what is known of the component at a place of a taken sheet that doesn't wait
pub record Loaded (s : List ℕ) (k : ℕ) : Type 0 where
  pub load : load_at s k ≡ ready (loaded_at s k)
  pub children : (c : ℕ) → Child (tree_of s) k c → AcceptedAt s c

-- a load that doesn't wait has all its children's offers
ready_by : (b : Bool) (c : Component) → (cond b (ready c) waiting).waiting ≡ false → (b ≡ true) × (cond b (ready c) waiting ≡ ready c)
ready_by true c e = (refl, refl)
ready_by false c e = absurd (false≢true (sym e))

module _ (s : List ℕ) (bytes : Bytes s) (taken : (check s).refusal ≡ refusal.none) (k : ℕ) (inside : k < (check s).count) where
  found : AllFound s k (pairs_of s)
  found = child_found s bytes taken k inside

  -- both descriptions of a parent's workload agree
  same_workload : Workload.workload (reading s k).component (children_at s k) ≡ workload (tree_of s) k
  unfolding Workload.workload workload child_places
  same_workload = ap (λ (ks : List Task). tasks_of (reading s k).component.table ++ ks) (tasks_added s k (pairs_of s) found)

  pub loaded : (load_at s k).waiting ≡ false → Loaded s k
  unfolding load_at load_on child_places
  loaded e =
      let all = Workload.workload (reading s k).component (children_at s k) in
      let is = ready_by (all_offered (children_at s k)) (with_tasks (reading s k).component (take most_tasks all)) e in
      record {
        load = is.1 ∙ ap (λ (ks : List Task). ready (with_tasks (reading s k).component ks)) (take_all most_tasks all (workload_fits s bytes taken k inside) ∙ same_workload);
        children = λ c child. subst (AcceptedAt s) child.there (children_accepted s k (pairs_of s) found is.0 child.place child.inside);
      }
