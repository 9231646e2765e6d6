-- Figures of a sheet with two levels, computed: component 1 stated (6, 2, 4) inside component 2 stated (1, 1, 1), which has the task (4, 2, 4). With
-- the task (8, 2, 8) both are accepted; with (8, 2, 7) component 1 is short at 7, and 2 waits. So it is with (8, 2, 8) where a job may be 1 slot late.
use Prim.Native.Nat.{ℕ}
use mathlib.Core.List.{List, [], ◌∷◌}
use mathlib.Core.Path.{◌≡◌, refl}
use lib.IntN.{pos, negsuc}
use Rattle.budget.specs.declared.component.Capacity.TheVariants.{Stated}
use Rattle.budget.specs.declared.component.Component.{Component}
use Rattle.budget.specs.declared.task.Task.{Task}
use Rattle.budget.specs.Common.{capped, common_of, grown, grown_by, same_common}
use Rattle.budget.specs.CommonPeriod.{common_divisor, common_multiple, common_period, euclid}
use Rattle.budget.specs.Component.{common_period_of, component_refusal, interface_of, is_right, valid_component, with_tasks}
use Rattle.budget.specs.Demand.{demand, jobs_by}
use Rattle.budget.specs.Interface.{valid_interface, interface_refusal}
use Rattle.budget.specs.Supply.{supply, whole_periods}
use Rattle.budget.specs.Task.{table_of, tasks_of, valid_task, valid_tasks, task_refusal}
use Rattle.judge.specs.numbers.Judged.{Answered}
use Rattle.judge.specs.numbers.Margined as Margin
use Rattle.judge.specs.declared.answer.Verdict.TheVariants as Verdict
use Rattle.judge.specs.Judged.{judged_at, verdict_answer}
use Rattle.judge.specs.Margin.{margin_answer, margined_at, margin_on, tight_at, tight_instant, tried}
use Rattle.judge.specs.Search.{smallest}
use Rattle.judge.specs.Verdict.{accepts, first_short, is_short, verdict_on}
use Rattle.record.specs.Field.{encode, field}
use Rattle.record.specs.Layout.{head_bytes, task_bytes_by, task_bytes, pair_bytes, end_bytes, head_size, task_size, size_of, row_of, record_with, of_kind, record_of}
use Rattle.sheet.specs.Check.{checked_of, check, pairs_of}
use Rattle.sheet.specs.Contents.{edge_of}
use Rattle.sheet.specs.Judging.{start, refuse, ended, opened, head_refusal, form_refusal, standing_refusal, record_refusal, after_head, after_task, after, judged}
use Rattle.sheet.specs.Pairs.{registered, own_tasks, named, rises, pairs, pair_refusal, ending_refusal, stopped, after_pair, pair_judged, pair_step, pair_walk, paired_from, paired}
use Rattle.sheet.specs.Part.{chosen, part_check, span_of, part_of}
use Rattle.sheet.specs.Register.{walked, held_of, entry_of, entries_from, register_of}
use Rattle.sheet.specs.Walk.{step, walk, held}
use Rattle.transfer.specs.Reading.{reading, component_from, with_head, tasks_in, task_then}
use Rattle.transfer.specs.RoundTrip.{sheet_bytes, components_bytes, pairs_bytes}
use Rattle.transfer.specs.Writing.{component_bytes, tasks_bytes}
use Rattle.tree.specs.numbers.Outcome as Outcome
use Rattle.tree.specs.numbers.Placed as Placed
use Rattle.tree.specs.Offer.{offer_in, offer_of}
use Rattle.tree.specs.Outcome.{outcome_of}
use Rattle.tree.specs.Tree.{placing, outcome_at, load_at, offers_to}
use Rattle.tree.specs.Workload.{all_offered, children, load_on, ready, tasks_from, workload}

abbrev task : ℕ → ℕ → ℕ → ℕ → Task
task t c d j = record { period = record { 0 = t }; work = record { 0 = c }; deadline = record { 0 = d }; lateness = record { 0 = j } }

abbrev stated : ℕ → ℕ → ℕ → ℕ → List Task → Component
stated n p q d ks = record { number = n; period = record { 0 = p }; capacity = Stated (record { 0 = q }); deadline = record { 0 = d }; common = common_of p ks; table = table_of ks }

-- component 1, whose task is due within d and up to j late, and component 2
abbrev child : ℕ → ℕ → Component
child d j = stated 1 6 2 4 (task 8 2 d j ∷ [])

abbrev parent : Component
parent = stated 2 1 1 1 (task 4 2 4 0 ∷ [])

-- the sheet of the two and of the pair that puts the one inside the other
sheet : ℕ → ℕ → List ℕ
sheet d j = sheet_bytes (child d j ∷ parent ∷ []) (record { child = 1; parent = 2 } ∷ [])

child_accepted : placing (sheet 8 0) 0
    ≡ Placed.Found 1 (Outcome.Judged (record { verdict = Answered (record { 0 = 2 }) Verdict.Accepted; margin = Margin.Least (pos 0) (record { 0 = 8 }) }))
unfolding sheet sheet_bytes components_bytes component_bytes pairs_bytes tasks_bytes placing outcome_at load_at offers_to offer_of reading part_check chosen part_of span_of edge_of component_from with_head tasks_in task_then check walked walk step opened start judged record_refusal after head_refusal size_of head_size task_size interface_refusal after_head standing_refusal form_refusal task_refusal after_task ended refuse record_of of_kind row_of record_with encode field head_bytes task_bytes task_bytes_by pair_bytes end_bytes paired paired_from pair_walk pair_step pair_judged pair_refusal pairs rises registered own_tasks named after_pair stopped register_of entries_from entry_of held_of held ending_refusal checked_of pairs_of outcome_of load_on all_offered children offer_in workload tasks_from with_tasks table_of tasks_of verdict_answer component_refusal valid_component interface_of valid_interface valid_tasks valid_task is_right same_common common_of grown_by grown capped common_period_of common_period common_multiple common_divisor euclid judged_at verdict_on accepts first_short smallest is_short supply whole_periods demand jobs_by margin_answer margined_at margin_on tight_instant tight_at tried
child_accepted = refl

-- the parent's own task, then the child's interface
parent_loaded : load_at (sheet 8 0) 1 ≡ ready (with_tasks parent (task 4 2 4 0 ∷ task 6 2 4 0 ∷ []))
unfolding sheet sheet_bytes components_bytes component_bytes pairs_bytes tasks_bytes placing outcome_at load_at offers_to offer_of reading part_check chosen part_of span_of edge_of component_from with_head tasks_in task_then check walked walk step opened start judged record_refusal after head_refusal size_of head_size task_size interface_refusal after_head standing_refusal form_refusal task_refusal after_task ended refuse record_of of_kind row_of record_with encode field head_bytes task_bytes task_bytes_by pair_bytes end_bytes paired paired_from pair_walk pair_step pair_judged pair_refusal pairs rises registered own_tasks named after_pair stopped register_of entries_from entry_of held_of held ending_refusal checked_of pairs_of outcome_of load_on all_offered children offer_in workload tasks_from with_tasks table_of tasks_of verdict_answer component_refusal valid_component interface_of valid_interface valid_tasks valid_task is_right same_common common_of grown_by grown capped common_period_of common_period common_multiple common_divisor euclid judged_at verdict_on accepts first_short smallest is_short supply whole_periods demand jobs_by margin_answer margined_at margin_on tight_instant tight_at tried
parent_loaded = refl

parent_accepted : placing (sheet 8 0) 1
    ≡ Placed.Found 2 (Outcome.Judged (record { verdict = Answered (record { 0 = 1 }) Verdict.Accepted; margin = Margin.Least (pos 0) (record { 0 = 4 }) }))
unfolding sheet sheet_bytes components_bytes component_bytes pairs_bytes tasks_bytes placing outcome_at load_at offers_to offer_of reading part_check chosen part_of span_of edge_of component_from with_head tasks_in task_then check walked walk step opened start judged record_refusal after head_refusal size_of head_size task_size interface_refusal after_head standing_refusal form_refusal task_refusal after_task ended refuse record_of of_kind row_of record_with encode field head_bytes task_bytes task_bytes_by pair_bytes end_bytes paired paired_from pair_walk pair_step pair_judged pair_refusal pairs rises registered own_tasks named after_pair stopped register_of entries_from entry_of held_of held ending_refusal checked_of pairs_of outcome_of load_on all_offered children offer_in workload tasks_from with_tasks table_of tasks_of verdict_answer component_refusal valid_component interface_of valid_interface valid_tasks valid_task is_right same_common common_of grown_by grown capped common_period_of common_period common_multiple common_divisor euclid judged_at verdict_on accepts first_short smallest is_short supply whole_periods demand jobs_by margin_answer margined_at margin_on tight_instant tight_at tried
parent_accepted = refl

child_short : placing (sheet 7 0) 0
    ≡ Placed.Found 1 (Outcome.Judged (record { verdict = Answered (record { 0 = 2 }) (Verdict.Short (record { 0 = 7 })); margin = Margin.Least (negsuc 0) (record { 0 = 7 }) }))
unfolding sheet sheet_bytes components_bytes component_bytes pairs_bytes tasks_bytes placing outcome_at load_at offers_to offer_of reading part_check chosen part_of span_of edge_of component_from with_head tasks_in task_then check walked walk step opened start judged record_refusal after head_refusal size_of head_size task_size interface_refusal after_head standing_refusal form_refusal task_refusal after_task ended refuse record_of of_kind row_of record_with encode field head_bytes task_bytes task_bytes_by pair_bytes end_bytes paired paired_from pair_walk pair_step pair_judged pair_refusal pairs rises registered own_tasks named after_pair stopped register_of entries_from entry_of held_of held ending_refusal checked_of pairs_of outcome_of load_on all_offered children offer_in workload tasks_from with_tasks table_of tasks_of verdict_answer component_refusal valid_component interface_of valid_interface valid_tasks valid_task is_right same_common common_of grown_by grown capped common_period_of common_period common_multiple common_divisor euclid judged_at verdict_on accepts first_short smallest is_short supply whole_periods demand jobs_by margin_answer margined_at margin_on tight_instant tight_at tried
child_short = refl

parent_waits : placing (sheet 7 0) 1 ≡ Placed.Found 2 Outcome.Waiting
unfolding sheet sheet_bytes components_bytes component_bytes pairs_bytes tasks_bytes placing outcome_at load_at offers_to offer_of reading part_check chosen part_of span_of edge_of component_from with_head tasks_in task_then check walked walk step opened start judged record_refusal after head_refusal size_of head_size task_size interface_refusal after_head standing_refusal form_refusal task_refusal after_task ended refuse record_of of_kind row_of record_with encode field head_bytes task_bytes task_bytes_by pair_bytes end_bytes paired paired_from pair_walk pair_step pair_judged pair_refusal pairs rises registered own_tasks named after_pair stopped register_of entries_from entry_of held_of held ending_refusal checked_of pairs_of outcome_of load_on all_offered children offer_in workload tasks_from with_tasks table_of tasks_of verdict_answer component_refusal valid_component interface_of valid_interface valid_tasks valid_task is_right same_common common_of grown_by grown capped common_period_of common_period common_multiple common_divisor euclid judged_at verdict_on accepts first_short smallest is_short supply whole_periods demand jobs_by margin_answer margined_at margin_on tight_instant tight_at tried
parent_waits = refl

-- a job due within 8 that may be 1 late is judged as one due within 7
late_child_short : placing (sheet 8 1) 0
    ≡ Placed.Found 1 (Outcome.Judged (record { verdict = Answered (record { 0 = 2 }) (Verdict.Short (record { 0 = 7 })); margin = Margin.Least (negsuc 0) (record { 0 = 7 }) }))
unfolding sheet sheet_bytes components_bytes component_bytes pairs_bytes tasks_bytes placing outcome_at load_at offers_to offer_of reading part_check chosen part_of span_of edge_of component_from with_head tasks_in task_then check walked walk step opened start judged record_refusal after head_refusal size_of head_size task_size interface_refusal after_head standing_refusal form_refusal task_refusal after_task ended refuse record_of of_kind row_of record_with encode field head_bytes task_bytes task_bytes_by pair_bytes end_bytes paired paired_from pair_walk pair_step pair_judged pair_refusal pairs rises registered own_tasks named after_pair stopped register_of entries_from entry_of held_of held ending_refusal checked_of pairs_of outcome_of load_on all_offered children offer_in workload tasks_from with_tasks table_of tasks_of verdict_answer component_refusal valid_component interface_of valid_interface valid_tasks valid_task is_right same_common common_of grown_by grown capped common_period_of common_period common_multiple common_divisor euclid judged_at verdict_on accepts first_short smallest is_short supply whole_periods demand jobs_by margin_answer margined_at margin_on tight_instant tight_at tried
late_child_short = refl
