-- Laws of edits: components that count as the same get the same answers, and removing undoes adding. All go by what is read of a table, its count
-- and its first places, and never by the places from the count on.
use Prim.Native.Nat.{ℕ, suc, ◌≤◌, ◌<◌}
use mathlib.Core.Path.{◌≡◌, refl, sym, ap₂, ◌∙◌}
use mathlib.Core.Bool.{true, ◌&&◌}
use mathlib.Core.List.{List, [], ◌∷◌, ◌++◌, append-nil}
use lib.Dec.{leb}
use lib.ListN.{length, length-append, drop_of_length-le}
use lib.Seq.{take-append_seam, length-take-le}
use borrow.Author.Tests.{eq-eqb, le-ltb, lt-ltb, leb-false}
use native.Mathlib.Nat.{le_refl, le_of_eq}
use native.Mathlib.Numerals.{add-one}
use native.Mathlib.Omega.{arith}
use Rattle.budget.specs.declared.component.Component.{Component}
use Rattle.budget.specs.declared.task.Task.{Task}
use Rattle.budget.specs.declared.task.Table.{Table}
use Rattle.budget.specs.Component.{Right, Same, is_right, with_tasks, interface_of, valid_component, component_refusal, common_period_of, common_period_answer}
use Rattle.budget.specs.Demand.{demand_refusal, demand_answer}
use Rattle.budget.specs.Edit.{added, removed, edited, adding_refusal, adding_answer, removing_refusal, removing_answer}
use Rattle.budget.specs.Interface.{valid_interface}
use Rattle.budget.specs.Limits.{most_tasks}
use Rattle.budget.specs.Refusal as refusal
use Rattle.budget.specs.Task.{tasks_of, table_of, table_refusal, valid_task, valid_tasks}
use Rattle.budget.proofs.CommonLaws.{right, is_right_lem, with_tasks_right}
use Rattle.budget.proofs.Ranges.{ranges_passed, asked_passed}
use Rattle.budget.proofs.TableLaws.{tasks_of_table}
use Rattle.budget.proofs.Valid.{both, and_true}

pub count_of_tasks : (t : Table) → t.count ≤ length t.tasks → length (tasks_of t) ≡ t.count
unfolding tasks_of
count_of_tasks t h = length-take-le t.count t.tasks h

-- what is returned of a component whose stored value is right is the same component
pub returned_same : (c : Component) → length c.table.tasks ≡ most_tasks → c.table.count ≤ most_tasks → Right c → Same (with_tasks c (tasks_of c.table)) c
unfolding with_tasks table_of
returned_same c l h r =
    record {
      number = refl;
      period = refl;
      capacity = refl;
      deadline = refl;
      common = sym r;
      count = count_of_tasks c.table (rw l h);
      tasks = tasks_of_table _;
    }

-- tables with the same count and tasks get the same demand
pub same_demand : (s t : Table) → s.count ≡ t.count → tasks_of s ≡ tasks_of t → (at : ℕ) → demand_answer s at ≡ demand_answer t at
unfolding demand_answer demand_refusal table_refusal
same_demand s t n k at = rw (k, n)

-- what the operations on a component answer, the same for both
pub record SameAnswers (a b : Component) : Type 0 where
  pub refusal : component_refusal a ≡ component_refusal b
  pub common_period : common_period_answer a ≡ common_period_answer b
  pub demand : (t : ℕ) → demand_answer a.table t ≡ demand_answer b.table t
  pub adding : (k : Task) → adding_answer a k ≡ adding_answer b k
  pub removing : (at : ℕ) → removing_answer a at ≡ removing_answer b at

-- components that are the same get the same answers: none reads the places from the count on
pub same_answers : (a b : Component) → Same a b → SameAnswers a b
unfolding component_refusal common_period_answer common_period_of valid_component is_right interface_of adding_answer adding_refusal removing_answer removing_refusal edited with_tasks
same_answers a b s =
    record {
      refusal = rw (s.tasks, s.count, s.period, s.capacity, s.deadline, s.common);
      common_period = rw (s.tasks, s.count, s.period, s.capacity, s.deadline, s.common);
      demand = same_demand a.table b.table s.count s.tasks;
      adding = λ k. rw (s.tasks, s.count, s.period, s.capacity, s.deadline, s.common, s.number);
      removing = λ at. rw (s.tasks, s.count, s.period, s.capacity, s.deadline, s.common, s.number);
    }

valid_added : (ks : List Task) (k : Task) → valid_tasks ks ≡ true → valid_task k ≡ true → valid_tasks (added ks k) ≡ true
unfolding valid_tasks added
valid_added [] k e h = and_true h refl
valid_added (j ∷ ks) k e h = let r = both (valid_task j) _ e in and_true {a = valid_task j} r.0 (valid_added ks k r.1 h)

-- what an adding that is not refused has passed
pub record Addable (c : Component) (k : Task) : Type 0 where
  pub room : c.table.count < most_tasks
  pub interface : valid_interface (interface_of c) ≡ true
  pub tasks : valid_tasks (tasks_of c.table) ≡ true
  pub task : valid_task k ≡ true
  pub common : Right c

pub addable : (c : Component) (k : Task) → adding_refusal c k ≡ refusal.none → Addable c k
unfolding adding_refusal valid_component
addable c k e =
    let a = asked_passed (leb most_tasks c.table.count) (valid_component c && valid_task k) (is_right c) refusal.none e in
    let r = ranges_passed (leb most_tasks c.table.count) (valid_component c && valid_task k) a.0 in
    let s = both (valid_component c) _ r.1 in
    let i = both (valid_interface (interface_of c)) _ s.0 in
    record { room = leb-false _ _ r.0; interface = i.0; tasks = i.1; task = s.1; common = right c a.1 }

length_added : (ks : List Task) (k : Task) → length (added ks k) ≡ suc (length ks)
unfolding added
length_added ks k = length-append ks (k ∷ []) ∙ add-one (length ks)

-- the last of what was added is removed
pub removed_added : (ks : List Task) (k : Task) → removed (added ks k) (length ks) ≡ ks
unfolding removed added
removed_added ks k = rw (take-append_seam ks (k ∷ []), drop_of_length-le (ks ++ (k ∷ [])) (le_of_eq (length_added ks k))) (append-nil ks)

module _ (c : Component) (k : Task) (ks : List Task) (i : valid_interface (interface_of c) ≡ true) (v : valid_tasks (added ks k) ≡ true) (room : length ks < most_tasks) where
  removing_passes : removing_refusal (with_tasks c (added ks k)) (length ks) ≡ refusal.none
  unfolding removing_refusal with_tasks valid_component interface_of table_of
  removing_passes =
      rw (
        is_right_lem (with_tasks c (added ks k)) (with_tasks_right c (added ks k)),
        tasks_of_table (added ks k),
        v,
        i,
        length_added ks k,
        le-ltb most_tasks (suc (length ks)) room,
        lt-ltb (length ks) (suc (length ks)) (le_refl _),
      )

  removing_added : removing_answer (with_tasks c (added ks k)) (length ks) ≡ edited refusal.none c ks
  unfolding removing_answer edited with_tasks
  removing_added = rw (removing_passes, tasks_of_table (added ks k), removed_added ks k)

-- removing the last task of what adding answered gives the component back
pub add_then_remove : (c : Component) (k : Task) → length c.table.tasks ≡ most_tasks → adding_refusal c k ≡ refusal.none
    → removing_answer (adding_answer c k).component c.table.count ≡ edited refusal.none c (tasks_of c.table)
unfolding adding_answer edited
add_then_remove c k whole taken =
    let a = addable c k taken in
    let n = count_of_tasks c.table (omega (arith, whole, a.room)) in
    let more : (adding_answer c k).component ≡ with_tasks c (added (tasks_of c.table) k) = rw (eq-eqb (adding_refusal c k) refusal.none taken) in
    ap₂ removing_answer more (sym n) ∙ removing_added c k (tasks_of c.table) a.interface (valid_added _ k a.tasks a.task) (rw n a.room)
