-- Figures of the sheet, computed: no bytes are refused at 0, an end record alone is a sheet without components, a small sheet of each kind of record with its edges, pairs that are refused where they stand, and a J that is stated (RULES 10, 13, 16).
use Prim.Native.Nat.{ℕ}
use mathlib.Core.Path.{◌≡◌, refl}
use mathlib.Core.Bool.{true}
use mathlib.Core.List.{List, [], ◌∷◌, ◌++◌}
use Rattle.budget.specs.declared.component.Capacity.TheVariants.{Stated, Asked}
use Rattle.budget.specs.declared.task.Task.{Task}
use Rattle.budget.specs.Interface.{interface_refusal, valid_interface}
use Rattle.budget.specs.Task.{task_refusal, valid_task}
use Rattle.record.specs.declared.layout.Pair.{Pair}
use Rattle.record.specs.Field.{encode, field}
use Rattle.record.specs.Layout.{head_bytes, task_bytes_by, task_bytes, pair_bytes, end_bytes, head_size, task_size, size_of, row_of, record_with, of_kind, record_of}
use Rattle.sheet.specs.Judging.{start, refuse, ended, opened, head_refusal, form_refusal, standing_refusal, record_refusal, after_head, after_task, after, judged}
use Rattle.sheet.specs.Walk.{step, walk, held}
use Rattle.sheet.specs.Register.{walked, held_of, entry_of, entries_from, register_of}
use Rattle.sheet.specs.Pairs.{registered, own_tasks, named, rises, pairs, pair_refusal, ending_refusal, stopped, after_pair, pair_judged, pair_step, pair_walk, paired_from, paired}
use Rattle.sheet.specs.Check.{Checked, checked_of, check, pairs_of}
use Rattle.sheet.specs.Contents.{edge_of}

abbrev answer : ℕ → ℕ → ℕ → Checked
answer n p count = record { refusal = n; place = p; count = count }

empty : check [] ≡ answer 1 0 0
unfolding check walked walk step opened start judged record_refusal refuse record_of checked_of
empty = refl

end_alone : check (6 ∷ 0 ∷ 3 ∷ 0 ∷ 0 ∷ 0 ∷ []) ≡ answer 0 0 0
unfolding check walked walk step opened start judged record_refusal after size_of ended refuse record_of of_kind row_of record_with field paired paired_from pair_walk pair_step pair_judged stopped register_of entries_from ending_refusal checked_of
end_alone = refl

abbrev task : ℕ → Task
task late = record { period = record { 0 = 8 }; work = record { 0 = 2 }; deadline = record { 0 = 8 }; lateness = record { 0 = late } }

abbrev pair : ℕ → ℕ → Pair
pair child parent = record { child = child; parent = parent }

-- component 1 stated (6, 2, 4) with task (8, 2, 8), component 2 asked with period 6 and deadline 4, and what stands behind them; what it opens, all that a sheet is judged by, is opened with it
small : List ℕ → List ℕ
unfolding check walked walk step opened start judged record_refusal refuse record_of checked_of after size_of ended of_kind row_of record_with field paired paired_from pair_walk pair_step pair_judged stopped register_of entries_from ending_refusal head_refusal head_size task_size interface_refusal valid_interface after_head standing_refusal form_refusal task_refusal valid_task after_task encode head_bytes task_bytes task_bytes_by pair_bytes end_bytes pair_refusal pairs rises registered own_tasks named after_pair entry_of held_of held pairs_of edge_of
small rest = head_bytes 1 6 (Stated (record { 0 = 2 })) 4 ++ (task_bytes (task 0) ++ (head_bytes 2 6 Asked 4 ++ rest))

two : check (small (end_bytes 2)) ≡ answer 0 0 2
unfolding small
two = refl

wrong_count : check (small (end_bytes 3)) ≡ answer 8 48 0
unfolding small
wrong_count = refl

-- the first component inside the second
inside : pairs_of (small (pair_bytes (pair 1 2) ++ end_bytes 2)) ≡ pair 1 2 ∷ []
unfolding small
inside = refl

-- a parent that is not there, a parent that is not the larger, a child named twice, a task behind a pair
no_parent : check (small (pair_bytes (pair 1 3) ++ end_bytes 2)) ≡ answer 16 48 0
unfolding small
no_parent = refl

smaller_parent : check (small (pair_bytes (pair 2 1) ++ end_bytes 2)) ≡ answer 16 48 0
unfolding small
smaller_parent = refl

twice : check (small (pair_bytes (pair 1 2) ++ (pair_bytes (pair 1 2) ++ end_bytes 2))) ≡ answer 16 56 0
unfolding small
twice = refl

task_behind : check (small (pair_bytes (pair 1 2) ++ (task_bytes (task 0) ++ end_bytes 2))) ≡ answer 16 56 0
unfolding small
task_behind = refl

edges : edge_of (small (end_bytes 2)) 0 ∷ edge_of (small (end_bytes 2)) 1 ∷ edge_of (small (end_bytes 2)) 2 ∷ [] ≡ 0 ∷ 34 ∷ 48 ∷ []
unfolding small
edges = refl

-- component 1 stated (6, 2, 4) with task (8, 2, 8) in the kind that states J, which J = 0 may not use
late : ℕ → List ℕ
unfolding small
late j = head_bytes 1 6 (Stated (record { 0 = 2 })) 4 ++ (task_bytes_by true (task j) ++ end_bytes 1)

late_none : check (late 0) ≡ answer 9 18 0
unfolding late
late_none = refl

late_one : check (late 1) ≡ answer 0 0 1
unfolding late
late_one = refl
