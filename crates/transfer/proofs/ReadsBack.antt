-- The sheet of valid components and pairs is accepted with the components' count, and a reading of each gives it back: a component's part lies between two edges, which are its bytes, and those are read by the laws of one record.
use Prim.Native.Nat.{ℕ, zero, suc, ◌+◌, ◌-◌, ◌*◌, ◌^◌, ◌≤◌, ◌<◌}
use mathlib.Core.Path.{◌≡◌, refl, sym, ap, ◌∙◌}
use mathlib.Core.Bool.{true, false}
use mathlib.Core.List.{List, [], ◌∷◌, ◌++◌, append_assoc}
use native.Mathlib.Numerals.{add-one}
use native.Mathlib.Omega.{arith}
use lib.ListN.{length, get_or, take, drop}
use lib.Seq.{drop_at, drop-drop, take-append_seam, drop-append_seam}
use borrow.Author.Tests.{lt-ltb, le-ltb}
use Rattle.budget.specs.declared.component.Component.{Component}
use Rattle.budget.specs.declared.task.Task.{Task}
use Rattle.budget.specs.Component.{units_of, interface_of, refused, with_tasks}
use Rattle.budget.specs.Interface.{interface}
use Rattle.budget.specs.Task.{T, C, D, J, valid_task, valid_tasks, tasks_of}
use Rattle.budget.proofs.Ranges.{in_range}
use Rattle.budget.proofs.Valid.{valid_task_lem, valid_interface_lem, both}
use Rattle.record.specs.declared.layout.Pair.{Pair}
use Rattle.record.specs.Layout.{head_bytes, task_bytes, end_bytes, size_of, record_of}
use Rattle.record.proofs.RoundRecord.{head_back, task_back}
use Rattle.sheet.specs.Check.{Checked}
use Rattle.sheet.specs.Check.{most_bytes, checked_of, check, pairs_of}
use Rattle.sheet.specs.Pairs.{Nested, paired_from, paired}
use Rattle.sheet.specs.Part.{part_check, part_of}
use Rattle.sheet.specs.Register.{walked}
use Rattle.sheet.proofs.PairLaws.{Closed, walk_takes}
use Rattle.sheet.proofs.PartLaws.{part_accepted, span_is}
use Rattle.transfer.specs.Pairing.{no_pair, pair_reading}
use Rattle.transfer.specs.Reading.{task_then, tasks_in, with_head, component_from, reading}
use Rattle.transfer.specs.RoundTrip.{components_bytes, pairs_bytes, sheet_bytes, returned, Sound, Rising, entries_of}
use Rattle.transfer.specs.Writing.{tasks_bytes, component_bytes}
use Rattle.transfer.proofs.Accepts.{Stops, pair_stops, end_stops, behind, head_size_lem, before, few_tasks}
use Rattle.transfer.proofs.PairBytes.{pairs_length, small_numbers, pairs_stand, end_closed}
use Rattle.transfer.proofs.StoreLaws.{formed, task_length}
use Rattle.transfer.proofs.Register.{Fronted, unrefused, count_is, edge_is, tail_is, register_is}

-- ---- one component from its own bytes

-- nothing is read from no bytes
none_left : (n : ℕ) → tasks_in n [] ≡ []
unfolding tasks_in task_then record_of
none_left zero = refl
none_left (suc n) = refl

tasks_back : (n : ℕ) (ks : List Task) → length ks ≤ n → valid_tasks ks ≡ true → tasks_in n (tasks_bytes ks) ≡ ks
unfolding tasks_in task_then tasks_bytes valid_tasks
tasks_back n [] h v = none_left n
tasks_back zero (k ∷ ks) h v = absurd (omega arith)
tasks_back (suc n) (k ∷ ks) h v =
    let valid = both (valid_task k) (valid_tasks ks) v in
    let w = valid_task_lem k valid.0 in
    let t : T k < 256 ^ 4 = omega arith in
    let c : C k < 256 ^ 4 = omega arith in
    let d : D k < 256 ^ 4 = omega arith in
    let j : J k < 256 ^ 4 = omega arith in
    rw (task_back (tasks_bytes ks) k t c d j)
    (ap (λ (l : List Task). k ∷ l)
    (ap (tasks_in n) (drop_at (task_bytes k) (tasks_bytes ks) (size_of (formed k)) (task_length k)) ∙ tasks_back n ks (omega arith) valid.1))

pub component_back : (c : Component) → Sound c → component_from (component_bytes c) (record_of (component_bytes c)) ≡ returned c
unfolding component_bytes component_from with_head with_tasks interface_of
component_back c sound =
    let range = in_range c sound.ranges in
    let ks : List Task = tasks_of c.table in
    let w = valid_interface_lem (interface c.period.0 (units_of c.capacity) c.deadline.0) range.interface in
    let g : c.period.0 < 256 ^ 4 = omega arith in
    let h : units_of c.capacity < 256 ^ 4 = omega arith in
    let i : c.deadline.0 < 256 ^ 4 = omega arith in
    let H : List ℕ = head_bytes c.number c.period.0 c.capacity c.deadline.0 in
    let size = head_size_lem c.number c.period.0 c.capacity c.deadline.0 in
    rw (head_back (tasks_bytes ks) c.number c.period.0 c.capacity c.deadline.0 sound.number g h i, drop_at H (tasks_bytes ks) _ (sym size))
    (ap (with_tasks c) (tasks_back 64 ks (few_tasks c sound) range.tasks))

-- ---- the part of each component, between two edges

part_at : (cs : List Component) (rest : List ℕ) (j : ℕ) → j < length cs → take (before (suc j) cs - before j cs) (drop (before j cs) (components_bytes cs ++ rest)) ≡ component_bytes (get_or cs j refused)
unfolding before components_bytes
part_at [] rest j h = absurd (omega arith)
part_at (c ∷ cs) rest zero h =
    let b = component_bytes c in
    let n : length b + 0 - 0 ≡ length b = omega arith in
    rw (n, append_assoc b (components_bytes cs) rest) (take-append_seam b (components_bytes cs ++ rest))
part_at (c ∷ cs) rest (suc j) h =
    let b = component_bytes c in
    let n : length b + before (suc j) cs - (length b + before j cs) ≡ before (suc j) cs - before j cs = omega arith in
    rw (n, ← drop-drop (before j cs) (length b) ((b ++ components_bytes cs) ++ rest), append_assoc b (components_bytes cs) rest, drop-append_seam b (components_bytes cs ++ rest))
    (part_at cs rest j (omega arith))

pub sound_at : (cs : List Component) (l : ℕ) → Rising l cs → (k : ℕ) → k < length cs → Sound (get_or cs k refused)
sound_at [] l r k h = absurd (omega arith)
sound_at (c ∷ cs) l r zero h = r.1
sound_at (c ∷ cs) l r (suc k) h = sound_at cs (c.number + 1) r.2 k (omega arith)

-- ---- the whole sheet

-- valid components whose numbers rise and pairs that the rules take, as many as one sheet holds
pub record Fitting (cs : List Component) (ps : List Pair) : Type 0 where
  pub rising : Rising 0 cs
  pub nested : Nested (entries_of cs) [] ps
  pub few : length cs ≤ 256
  pub short : length (sheet_bytes cs ps) ≤ most_bytes

abbrev whole : ℕ → Checked
whole n = record { refusal = 0; place = 0; count = n }

pub entries_long : (cs : List Component) → length (entries_of cs) ≡ length cs
unfolding entries_of
entries_long [] = refl
entries_long (c ∷ cs) = ap suc (entries_long cs)

-- what stands behind the components
abbrev behind_them : List Component → List Pair → List ℕ
behind_them cs ps = pairs_bytes ps ++ end_bytes (length cs)

pairs_stop : (cs : List Component) (ps : List Pair) → Rising 0 cs → Nested (entries_of cs) [] ps → length cs ≤ 256 → Stops (record_of (behind_them cs ps))
unfolding pairs_bytes
pairs_stop cs [] r t few =
    rw (end_closed (end_bytes (length cs)) (entries_of cs) 0 (omega (arith, entries_long cs)) (ap end_bytes (sym (entries_long cs)))).reads (end_stops (length (entries_of cs)))
pairs_stop cs (p ∷ ps) r t few =
    rw (pairs_stand (behind_them cs (p ∷ ps)) (entries_of cs) (small_numbers cs 0 r) [] (p ∷ ps) t 0 (end_bytes (length cs)) refl).0 (pair_stops p)

module _ (cs : List Component) (ps : List Pair) (v : Fitting cs ps) where
  abbrev s : List ℕ
  s = sheet_bytes cs ps

  front : Fronted s cs (behind_them cs ps)
  unfolding sheet_bytes
  front = record { bytes = refl; rising = v.rising; few = v.few; short = v.short; stops = pairs_stop cs ps v.rising v.nested v.few }

  closed : Closed (entries_of cs) s ((walked s).place + 8 * length ps)
  closed =
      let e = behind s (walked s).place (pairs_bytes ps) (end_bytes (length cs)) (tail_is s cs (behind_them cs ps) front) in
      end_closed s (entries_of cs) ((walked s).place + 8 * length ps) (omega (arith, entries_long cs, v.few))
      (rw (pairs_length ps) at e ∙ ap end_bytes (sym (entries_long cs)))

  paired_is : paired s ≡ record { going = false; refusal = 0; place = (walked s).place + 8 * length ps; pairs = ps }
  unfolding paired paired_from
  paired_is =
      let es = entries_of cs in
      let c = closed in
      let stand = pairs_stand s es (small_numbers cs 0 v.rising) [] ps v.nested (walked s).place (end_bytes (length cs)) (tail_is s cs (behind_them cs ps) front) in
      rw (register_is s cs (behind_them cs ps) front)
      (walk_takes es s ps (suc (length s)) (record { going = true; refusal = 0; place = (walked s).place; pairs = [] }) refl stand v.nested c (omega (arith, c.last)))

  pub sheet_accepted : check s ≡ whole (length cs)
  unfolding check checked_of
  sheet_accepted = rw (unrefused s cs (behind_them cs ps) front, paired_is, count_is s cs (behind_them cs ps) front)

  pub pairs_are : pairs_of s ≡ ps
  unfolding pairs_of
  pairs_are = rw (sheet_accepted, paired_is)

  part_chosen : (k : ℕ) → k < length cs → part_check s k ≡ whole (length cs)
  part_chosen k h = part_accepted s k (ap (λ (x : Checked). x.refusal) sheet_accepted) (rw sheet_accepted h) ∙ sheet_accepted

  pub part_is : (k : ℕ) → k < length cs → part_of s k ≡ component_bytes (get_or cs k refused)
  unfolding part_of sheet_bytes
  part_is k h =
      let e = sheet_accepted in
      let i = span_is s k (ap (λ (x : Checked). x.refusal) e) (rw e h) in
      let edge = edge_is s cs (behind_them cs ps) front in
      rw (i, edge k (omega arith), edge (k + 1) (omega arith), add-one k) (part_at cs (behind_them cs ps) k h)

  pub reading_back : (k : ℕ) → k < length cs → reading s k ≡ record { refusal = 0; place = 0; component = returned (get_or cs k refused) }
  unfolding reading
  reading_back k h = rw (part_chosen k h, part_is k h, component_back (get_or cs k refused) (sound_at cs 0 v.rising k h))

  pub pair_reading_lem : (k : ℕ) → k < length ps → pair_reading s k ≡ record { refusal = 0; place = 0; pair = get_or ps k no_pair }
  unfolding pair_reading
  pair_reading_lem k h = rw (sheet_accepted, pairs_are, lt-ltb k (length ps) h)

  pub pair_missing : pair_reading s (length ps) ≡ record { refusal = 15; place = 0; pair = no_pair }
  unfolding pair_reading
  pair_missing = rw (sheet_accepted, pairs_are, le-ltb (length ps) (length ps) (omega arith))
