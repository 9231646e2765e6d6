-- The statement about service for the tree of a taken sheet, and demand 3 of its components: an accepted component doesn't wait, so that its
-- children are accepted and its workload is the tree's, and so on downwards; the verdict says that each component of the tree is sound.
use Prim.Native.Nat.{ℕ}
use mathlib.Core.Bool.{Bool, true, false, cond}
use mathlib.Core.List.{List}
use mathlib.Core.Path.{◌≡◌, refl, sym, ap, subst, ◌∙◌}
use native.Mathlib.Omega.{arith}
use Rattle.budget.specs.declared.component.Component.{Component}
use Rattle.budget.specs.declared.task.Task.{Task}
use Rattle.budget.specs.Component.{interface_at, with_tasks}
use Rattle.budget.specs.Refusal as refusal
use Rattle.budget.specs.Task.{tasks_of}
use Rattle.budget.proofs.TableLaws.{tasks_of_table}
use Rattle.judge.specs.numbers.Answer.{Answer}
use Rattle.judge.specs.numbers.Judged.{Answered}
use Rattle.judge.specs.declared.answer.Verdict.TheVariants as Verdict
use Rattle.judge.specs.Answer.{judge_answer}
use Rattle.judge.specs.Judged.{verdict_answer}
use Rattle.promises.proofs.Demand3.{demand_3}
use Rattle.record.specs.Field.{Bytes}
use Rattle.sheet.specs.Check.{check}
use Rattle.transfer.specs.Reading.{reading}
use Rattle.tree.specs.numbers.Load.{Load}
use Rattle.tree.specs.numbers.Outcome.{Outcome}
use Rattle.tree.specs.Offer.{offer_of}
use Rattle.tree.specs.Outcome.{outcome_of}
use Rattle.tree.specs.Tree.{load_at, outcome_at}
use Rattle.nesting.specs.InSheet.{AcceptedAt, NestedDemand3, ServiceInSheet, capacity_at, loaded_at, tree_of}
use Rattle.nesting.specs.Service.{Sound}
use Rattle.nesting.specs.Tree.{Below, down, top, workload}
use Rattle.nesting.proofs.Below.{service_below}
use Rattle.nesting.proofs.Fit.{Fit, fit}
use Rattle.nesting.proofs.Loaded.{Loaded, loaded}

-- ---- one component of a taken sheet

-- what is judged doesn't wait
judged_ready : (b : Bool) (o : Outcome) (a : Answer) → cond b Outcome.Waiting o ≡ Outcome.Judged a → b ≡ false
judged_ready true o a e = absurd (let z : ◌≡◌ {A = ℕ} 0 1 = cc e in omega arith)
judged_ready false o a e = refl

module _ (s : List ℕ) (bytes : Bytes s) (taken : (check s).refusal ≡ refusal.none) where
  loaded_at_lem : (k : ℕ) → AcceptedAt s k → Loaded s k
  unfolding outcome_at outcome_of
  loaded_at_lem k a = loaded s bytes taken k a.inside (judged_ready (load_at s k).waiting _ _ a.outcome)

  -- what is answered of a component that doesn't wait
  answered_is : (k : ℕ) → Loaded s k → outcome_at s k ≡ Outcome.Judged (judge_answer (loaded_at s k))
  unfolding outcome_at outcome_of
  answered_is k w = ap outcome_of w.load

  fit_in_tree : (k : ℕ) → AcceptedAt s k → Fit (workload (tree_of s) k) ((tree_of s).interface k)
  unfolding capacity_at offer_of with_tasks
  fit_in_tree k a =
      let q = a.capacity in
      let same : judge_answer (loaded_at s k) ≡ record { verdict = Answered q Verdict.Accepted; margin = a.margin } = cc (sym (answered_is k (loaded_at_lem k a)) ∙ a.outcome) in
      let v : verdict_answer (loaded_at s k) ≡ Answered q Verdict.Accepted = ap (λ (x : Answer). x.verdict) same in
      let granted : capacity_at s k ≡ q.0 = ap (λ (o : Outcome). (offer_of (reading s k).component o).capacity) a.outcome in
      subst (λ (ks : List Task). Fit ks ((tree_of s).interface k)) (tasks_of_table (workload (tree_of s) k))
      (subst (λ (r : ℕ). Fit (tasks_of (loaded_at s k).table) (interface_at (reading s k).component r)) (sym granted) (fit (loaded_at s k) q v))

  -- ---- all below an accepted one

  module _ (k : ℕ) (a : AcceptedAt s k) where
    below_accepted : (c : ℕ) → Below (tree_of s) k c → AcceptedAt s c
    below_accepted c top = a
    below_accepted c (down {c = above} way child) = (loaded_at_lem above (below_accepted above way)).children c child

    sound : Sound (tree_of s) k
    sound =
        record {
          tasks = λ c way. (fit_in_tree c (below_accepted c way)).tasks;
          interface = λ c way. (fit_in_tree c (below_accepted c way)).interface;
          accepted = λ c way. (fit_in_tree c (below_accepted c way)).accepted;
        }

pub service_in_sheet : ServiceInSheet
service_in_sheet s bytes taken k a =
    record {
      accepted = below_accepted s bytes taken k a;
      judged = λ c way. (loaded_at_lem s bytes taken c (below_accepted s bytes taken k a c way)).load;
      served = service_below (tree_of s) k (sound s bytes taken k a);
    }

pub nested_demand_3 : NestedDemand3
unfolding with_tasks
nested_demand_3 s bytes taken k inside c load none =
    let w = loaded s bytes taken k inside (ap (λ (l : Load). l.waiting) load) in
    let is : c ≡ loaded_at s k = ap (λ (l : Load). l.component) (sym load ∙ w.load) in
    record {
      loaded = is;
      tasks = ap (λ (x : Component). tasks_of x.table) is ∙ tasks_of_table (workload (tree_of s) k);
      outcome = answered_is s bytes taken k w ∙ ap (λ (x : Component). Outcome.Judged (judge_answer x)) (sym is);
      promise = (demand_3 c none).0;
    }
