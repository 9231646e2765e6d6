-- The sheet of the figure is read back by the law of the round trip, and what its components are answered is computed from them.
use Prim.Native.Nat.{ℕ, zero, suc}
use mathlib.Core.Bool.{Bool, true, cond, ◌&&◌}
use mathlib.Core.List.{List, [], ◌∷◌, ◌++◌, map}
use mathlib.Core.Path.{◌≡◌, refl, ap, ap₂, ◌∙◌}
use lib.Dec.{eqb, leb, ltb, lit<, lit≤}
use lib.IntN.{pos}
use lib.ListN.{get_or}
use borrow.Author.Tests.{ltb-true}
use Rattle.budget.specs.declared.component.Component.{Component}
use Rattle.budget.specs.declared.interface.Interface.{Interface}
use Rattle.budget.specs.declared.task.Task.{Task}
use Rattle.budget.specs.Common.{capped, common_of, grown, grown_by, same_common}
use Rattle.budget.specs.CommonPeriod.{common_divisor, common_multiple, common_period, euclid}
use Rattle.budget.specs.Component.{common_period_of, component_refusal, interface_at, interface_of, is_right, range_refusal, refused, valid_component, with_tasks}
use Rattle.budget.specs.Demand.{demand, jobs_by}
use Rattle.budget.specs.Interface.{dedicated, interface, valid_interface}
use Rattle.budget.specs.Supply.{supply, whole_periods}
use Rattle.budget.specs.Task.{table_of, tasks_of, valid_task, valid_tasks}
use Rattle.budget.proofs.Valid.{both}
use Rattle.judge.specs.numbers.Judged.{Answered}
use Rattle.judge.specs.numbers.Margined as Margin
use Rattle.judge.specs.declared.answer.Verdict.TheVariants as Verdict
use Rattle.judge.specs.Judged.{judged_at, verdict_answer}
use Rattle.judge.specs.Margin.{margin_answer, margin_on, margined_at, tight_at, tight_instant, tried}
use Rattle.judge.specs.Search.{smallest}
use Rattle.judge.specs.Verdict.{accepts, first_short, is_short, verdict_on}
use Rattle.record.specs.declared.layout.Pair.{Pair}
use Rattle.record.specs.Field.{Bytes, encode}
use Rattle.record.specs.Layout.{end_bytes, head_bytes, pair_bytes, task_bytes, task_bytes_by}
use Rattle.sheet.specs.Check.{Checked}
use Rattle.sheet.specs.Check.{check, pairs_of}
use Rattle.sheet.specs.Pairs.{Nested, named, own_tasks, pair_refusal, pairs, registered, rises}
use Rattle.transfer.specs.Reading.{Reading}
use Rattle.transfer.specs.Reading.{reading}
use Rattle.transfer.specs.RoundTrip.{Rising, components_bytes, entries_of, pairs_bytes, sheet_bytes}
use Rattle.transfer.specs.Writing.{component_bytes, tasks_bytes}
use Rattle.transfer.proofs.ReadsBack.{Fitting, pairs_are, reading_back, sheet_accepted}
use Rattle.tree.specs.numbers.Outcome.{Outcome}
use Rattle.tree.specs.numbers.Offer.{Offer}
use Rattle.tree.specs.Offer.{offer_in, offer_of, offering}
use Rattle.tree.specs.Outcome.{outcome_of}
use Rattle.tree.specs.Tree.{load_at, offers_to, outcome_at}
use Rattle.tree.specs.Workload.{all_offered, children, load_on, tasks_from, workload}
use Rattle.nesting.specs.InSheet.{capacity_at, child_numbers, child_places, place_among, tree_of}
use Rattle.nesting.specs.SheetFigure as Figure
use Rattle.nesting.specs.Tree.{as_task, fed}
use Rattle.nesting.specs.Tree as Tree

-- each number of a list is that of a byte
unfoldable all_bytes : List ℕ → Bool
all_bytes [] = true
all_bytes (n ∷ ns) = ltb n 256 && all_bytes ns

all_bytes_lem : (ns : List ℕ) → all_bytes ns ≡ true → Bytes ns
unfolding all_bytes
all_bytes_lem [] e i = lit< tt
all_bytes_lem (n ∷ ns) e zero = ltb-true n 256 (both (ltb n 256) (all_bytes ns) e).0
all_bytes_lem (n ∷ ns) e (suc i) = all_bytes_lem ns (both (ltb n 256) (all_bytes ns) e).1 i

bytes : Bytes Figure.sheet
unfolding all_bytes sheet_bytes components_bytes pairs_bytes component_bytes tasks_bytes tasks_of table_of head_bytes task_bytes task_bytes_by pair_bytes end_bytes encode
bytes = all_bytes_lem Figure.sheet refl

rising : Rising 0 Figure.components
unfolding range_refusal valid_component interface_of valid_interface valid_tasks valid_task tasks_of table_of
rising =
    (lit≤ tt, record { ranges = refl; common = refl; number = lit< tt; places = refl }, (lit≤ tt, record { ranges = refl; common = refl; number = lit< tt; places = refl }, tt))

nested : Nested (entries_of Figure.components) [] Figure.pairs
unfolding pair_refusal pairs rises registered own_tasks named entries_of tasks_of table_of
nested = (refl, tt)

fitting : Fitting Figure.components Figure.pairs
unfolding sheet_bytes components_bytes pairs_bytes component_bytes tasks_bytes tasks_of table_of head_bytes task_bytes task_bytes_by pair_bytes end_bytes encode
fitting = record { rising = rising; nested = nested; few = lit≤ tt; short = lit≤ tt }

abbrev child : Component
child = get_or Figure.components 0 refused

abbrev parent : Component
parent = get_or Figure.components 1 refused

-- ---- what is read of the sheet

pairs_is : pairs_of Figure.sheet ≡ Figure.pairs
pairs_is = pairs_are Figure.components Figure.pairs fitting

count_is : (check Figure.sheet).count ≡ 2
count_is = ap (λ (x : Checked). x.count) (sheet_accepted Figure.components Figure.pairs fitting)

child_is : (reading Figure.sheet 0).component ≡ child
unfolding with_tasks tasks_of table_of
child_is = ap (λ (x : Reading). x.component) (reading_back Figure.components Figure.pairs fitting 0 (lit< tt))

parent_is : (reading Figure.sheet 1).component ≡ parent
unfolding with_tasks tasks_of table_of
parent_is = ap (λ (x : Reading). x.component) (reading_back Figure.components Figure.pairs fitting 1 (lit< tt))

-- ---- what the two are answered

-- accepted with this capacity, and the margin is 0 at an instant
abbrev accepted : ℕ → ℕ → Outcome
accepted q t = Outcome.Judged (record { verdict = Answered (record { 0 = q }) Verdict.Accepted; margin = Margin.Least (pos 0) (record { 0 = t }) })

abbrev offers : List Offer
offers = offering child 2 ∷ []

child_answered : outcome_of (load_on Figure.pairs [] child) ≡ accepted 2 8
unfolding outcome_of load_on all_offered children workload tasks_from with_tasks table_of tasks_of verdict_answer component_refusal valid_component interface_of valid_interface valid_tasks valid_task is_right same_common common_of grown_by grown capped common_period_of common_period common_multiple common_divisor euclid judged_at verdict_on accepts first_short smallest is_short supply whole_periods demand jobs_by margin_answer margined_at margin_on tight_instant tight_at tried
child_answered = refl

parent_answered : outcome_of (load_on Figure.pairs offers parent) ≡ accepted 1 4
unfolding outcome_of load_on all_offered children offer_in workload tasks_from with_tasks table_of tasks_of verdict_answer component_refusal valid_component interface_of valid_interface valid_tasks valid_task is_right same_common common_of grown_by grown capped common_period_of common_period common_multiple common_divisor euclid judged_at verdict_on accepts first_short smallest is_short supply whole_periods demand jobs_by margin_answer margined_at margin_on tight_instant tight_at tried
parent_answered = refl

child_outcome : outcome_at Figure.sheet 0 ≡ accepted 2 8
unfolding outcome_at load_at offers_to
child_outcome = ap₂ (λ (ps : List Pair) (c : Component). outcome_of (load_on ps [] c)) pairs_is child_is ∙ child_answered

offers_are : offers_to Figure.sheet 1 ≡ offers
unfolding offers_to offer_of outcome_at load_at
offers_are = ap₂ (λ (c : Component) (o : Outcome). offer_of c o ∷ []) child_is child_outcome

parent_outcome : outcome_at Figure.sheet 1 ≡ accepted 1 4
unfolding outcome_at load_at
parent_outcome =
    ap₂ (λ (ps : List Pair) (os : List Offer). outcome_of (load_on ps os (reading Figure.sheet 1).component)) pairs_is offers_are
    ∙ (ap (λ (c : Component). outcome_of (load_on Figure.pairs offers c)) parent_is ∙ parent_answered)

-- ---- the tree

capacity_of_child : capacity_at Figure.sheet 0 ≡ 2
unfolding capacity_at offer_of
capacity_of_child = ap (λ (o : Outcome). (offer_of (reading Figure.sheet 0).component o).capacity) child_outcome

capacity_of_parent : capacity_at Figure.sheet 1 ≡ 1
unfolding capacity_at offer_of
capacity_of_parent = ap (λ (o : Outcome). (offer_of (reading Figure.sheet 1).component o).capacity) parent_outcome

child_interface : (tree_of Figure.sheet).interface 0 ≡ interface 6 2 4
child_interface = ap₂ interface_at child_is capacity_of_child

parent_interface : (tree_of Figure.sheet).interface 1 ≡ dedicated
parent_interface = ap₂ interface_at parent_is capacity_of_parent

child_place : place_among Figure.sheet 2 1 ≡ 0
unfolding place_among
child_place = ap₂ (λ (c d : Component). cond (eqb c.number 1) 1 (cond (eqb d.number 1) 0 0)) parent_is child_is

children_are : (tree_of Figure.sheet).children 1 ≡ 0 ∷ []
unfolding child_places child_numbers
children_are =
    ap (λ (n : ℕ). map (place_among Figure.sheet n) (child_numbers (pairs_of Figure.sheet) (reading Figure.sheet 1).component.number)) count_is
    ∙ (ap₂ (λ (ps : List Pair) (c : Component). map (place_among Figure.sheet 2) (child_numbers ps c.number)) pairs_is parent_is
    ∙ ap (λ (k : ℕ). k ∷ []) child_place)

child_fed : fed (tree_of Figure.sheet) (0 ∷ []) ≡ 0 ∷ []
unfolding fed
child_fed = ap (λ (q : ℕ). cond (leb 1 q) (0 ∷ []) []) capacity_of_child

workload_is : Tree.workload (tree_of Figure.sheet) 1 ≡ as_task (interface 4 2 4) ∷ as_task (interface 6 2 4) ∷ []
unfolding Tree.workload tasks_of table_of
workload_is =
    let tree = tree_of Figure.sheet in
    let task_at : ℕ → Task = λ k. as_task (tree.interface k) in
    ap₂ (λ (c : Component) (ks : List ℕ). tasks_of c.table ++ map task_at (fed tree ks)) parent_is children_are
    ∙ (ap (λ (ks : List ℕ). as_task (interface 4 2 4) ∷ map task_at ks) child_fed ∙ ap (λ (i : Interface). as_task (interface 4 2 4) ∷ as_task i ∷ []) child_interface)

pub sheet_figure : Figure.SheetFigure
sheet_figure =
    record {
      bytes = bytes;
      taken = ap (λ (x : Checked). x.refusal) (sheet_accepted Figure.components Figure.pairs fitting);
      accepted = record { inside = rw count_is (lit< tt); capacity = record { 0 = 1 }; margin = Margin.Least (pos 0) (record { 0 = 4 }); outcome = parent_outcome };
      children = children_are;
      interface_of_child = child_interface;
      interface_of_parent = parent_interface;
      workload = workload_is;
    }
