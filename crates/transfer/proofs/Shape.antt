-- A sheet whose walk is not refused begins with valid components in rising number, up to a record that ends them: undone record by record, the walk's last steps first.
use Prim.Native.Nat.{ℕ, zero, suc, ◌+◌, ◌-◌, ◌≤◌, ◌<◌}
use mathlib.Core.Path.{◌≡◌, refl, sym, ap, ap₂, ◌∙◌}
use mathlib.Core.Bool.{Bool, true, false}
use mathlib.Core.List.{List, [], ◌∷◌, ◌++◌, map, append_assoc}
use native.Mathlib.Omega.{arith}
use lib.ListN.{length, drop, replicate, length-append, length-replicate}
use lib.Seq.{drop-drop, get_or-drop}
use lib.Dec.{eqb}
use borrow.Author.Tests.{lt-ltb, le-ltb, eqb-true, eqb-false}
use Rattle.budget.specs.declared.component.Component.{Component}
use Rattle.budget.specs.declared.task.Task.{Task}
use Rattle.budget.specs.Component.{units_of, interface_of, with_tasks}
use Rattle.budget.specs.Interface.{interface, valid_interface, interface_refusal}
use Rattle.budget.specs.Task.{J, valid_task, valid_tasks, task_refusal, tasks_of, table_of, no_task}
use Rattle.budget.proofs.Answers.{passed}
use Rattle.budget.proofs.TableLaws.{tasks_of_table}
use Rattle.budget.proofs.Ranges.{range_in}
use Rattle.budget.proofs.Valid.{and_true}
use Rattle.transfer.proofs.ReadRight.{head_right}
use Rattle.sheet.specs.Judging.{State}
use Rattle.record.specs.declared.layout.Head.{Head}
use Rattle.record.specs.Record.{Record, ComponentRecord, TaskRecord, PairRecord, EndRecord, NoRecord}
use Rattle.record.specs.Field.{Bytes}
use Rattle.record.specs.Layout.{head_bytes, head_size, task_bytes_by, task_bytes, task_size, record_bytes, size_of, record_of}
use Rattle.sheet.specs.Judging.{most_bytes, start, refuse, opened, record_refusal, after_head, after_task, after, judged}
use Rattle.sheet.specs.Walk.{step, walk}
use Rattle.sheet.specs.Register.{walked}
use Rattle.sheet.proofs.JudgingLaws.{some_head, some_task, HeadTaken, head_taken, TaskTaken, task_taken}
use Rattle.transfer.specs.RoundTrip.{components_bytes, returned, Sound, Rising}
use Rattle.transfer.specs.Reading.{with_head}
use Rattle.transfer.specs.Writing.{tasks_bytes, component_bytes}
use Rattle.record.proofs.Cases.{cases}
use Rattle.record.proofs.RoundRecord.{Faithful, faithful}
use Rattle.sheet.proofs.HeldLaws.{unrefused_short}
use Rattle.sheet.proofs.WalkLaws.{walk_on, walk_stopped, room_of}
use Rattle.transfer.proofs.Accepts.{Stops, pair_stops, end_stops}

-- what stands from a place on, where the walk goes on from there and accepts: tasks of the last component, further components, a record that ends them
pub record Shape (s : List ℕ) (p count lowest tasks : ℕ) : Type 0 where
  pub ks : List Task
  pub cs : List Component
  pub tail : List ℕ
  pub bytes : drop p s ≡ tasks_bytes ks ++ (components_bytes cs ++ tail)
  pub valid : valid_tasks ks ≡ true
  pub few : tasks + length ks ≤ 64
  pub none : count ≡ 0 → ks ≡ []
  pub rising : Rising lowest cs
  pub most : count + length cs ≤ 256
  pub same : map returned cs ≡ cs
  pub stops : Stops (record_of tail)

-- a walk that stopped with a refusal does not accept, so a record that it went on from was taken
module _ (f : ℕ) (s : List ℕ) where
  Accepts : State → Type 0
  Accepts st = (walk judged f s st).refusal ≡ 0

  refused_not : (n : ℕ) (st : State) → (n ≡ 0 → ⊥) → Accepts (refuse n st) → ⊥
  unfolding Accepts refuse
  refused_not n st h a = h (sym (ap (λ (x : State). x.refusal) (walk_stopped judged f s (refuse n st) refl)) ∙ a)

  taken : (st : State) (r : Record) → Accepts (judged st r) → (record_refusal st r ≡ 0) × Accepts (after st r)
  unfolding judged
  taken st r =
      let n : ℕ = record_refusal st r in
      cases (λ (x : State). Accepts x → (n ≡ 0) × Accepts (after st r)) (eqb n 0) (λ p a. (eqb-true n 0 p, a)) (λ p a. absurd (refused_not n st (eqb-false n 0 p) a))

-- ---- each task has one form: a J that is stated is not 0, and one that is not stated is 0

one_form : (k : Task) (stated : Bool) → (stated ≡ false → J k ≡ 0) → (stated ≡ true → 0 < J k) → task_bytes_by stated k ≡ task_bytes k
unfolding task_bytes
one_form k true z l = rw (lt-ltb 0 (J k) (l refl))
one_form k false z l = rw (le-ltb 0 (J k) (omega (arith, z refl)))

-- ---- one record that is taken, by its kind; what stands behind it has a shape

module _ (s : List ℕ) (st : State) where
  Here : Type 0
  Here = Shape s st.place st.count st.lowest st.tasks

  end_shape : (r : Record) → record_of (drop st.place s) ≡ r → Stops r → st.count ≤ 256 → st.tasks ≤ 64 → Here
  unfolding Here tasks_bytes components_bytes valid_tasks
  end_shape r e o most few =
      record {
        ks = [];
        cs = [];
        tail = drop st.place s;
        bytes = refl;
        valid = refl;
        few = omega arith;
        none = λ z. refl;
        rising = tt;
        most = omega arith;
        same = refl;
        stops = rw e o;
      }

  task_shape : (k : Task) (stated : Bool) → TaskTaken st k stated → Faithful (drop st.place s) (TaskRecord stated k)
      → Shape s (st.place + size_of (TaskRecord stated k)) st.count st.lowest (st.tasks + 1) → Here
  unfolding Here tasks_bytes valid_tasks task_refusal size_of
  task_shape k stated t w n =
      record {
        ks = k ∷ n.ks;
        cs = n.cs;
        tail = n.tail;
        bytes =
            w.1
            ∙ (ap₂ ◌++◌ (one_form k stated w.0 t.late) (drop-drop (task_size stated) st.place s ∙ n.bytes)
            ∙ sym (append_assoc (task_bytes k) (tasks_bytes n.ks) (components_bytes n.cs ++ n.tail)));
        valid = and_true (passed (valid_task k) t.ranges) n.valid;
        few = omega (arith, n.few);
        none = λ e. absurd (t.some e);
        rising = n.rising;
        most = n.most;
        same = n.same;
        stops = n.stops;
      }

regroup : (h ts cs c tail : List ℕ) → c ≡ h ++ ts → h ++ (ts ++ (cs ++ tail)) ≡ (c ++ cs) ++ tail
regroup h ts cs c tail e = rw e (simp append_assoc)

-- ---- the component of a record and the tasks behind it

sound_head : (h : Head) (ks : List Task) → h.number < 65_536 → interface_refusal (interface h.period.0 (units_of h.capacity) h.deadline.0) ≡ 0 → length ks ≤ 64 → valid_tasks ks ≡ true → Sound (with_head h ks)
unfolding with_head interface_refusal interface_of table_of
sound_head h ks n r few v =
    record {
      ranges =
          range_in (with_head h ks)
          (record { count = few; interface = passed (valid_interface (interface_of (with_head h ks))) r; tasks = ap valid_tasks (tasks_of_table ks) ∙ v });
      common = head_right h ks;
      number = n;
      places = length-append ks (replicate (64 - length ks) no_task) ∙ (ap (λ (x : ℕ). length ks + x) (length-replicate (64 - length ks) no_task) ∙ omega arith);
    }

head_bytes_lem : (h : Head) (ks : List Task) → component_bytes (with_head h ks) ≡ record_bytes (ComponentRecord h) ++ tasks_bytes ks
unfolding with_head component_bytes record_bytes
head_bytes_lem h ks = ap (λ (x : List Task). head_bytes h.number h.period.0 h.capacity h.deadline.0 ++ tasks_bytes x) (tasks_of_table ks)

same_head : (h : Head) (ks : List Task) → with_tasks (with_head h ks) (tasks_of (with_head h ks).table) ≡ with_head h ks
unfolding with_head with_tasks
same_head h ks = ap (λ (x : List Task). with_head h x) (tasks_of_table ks)

head_shape : (s : List ℕ) (st : State) (h : Head) → HeadTaken st h → Faithful (drop st.place s) (ComponentRecord h) → st.tasks ≤ 64 → Shape s (st.place + size_of (ComponentRecord h)) (st.count + 1) (h.number + 1) 0 → Here s st
unfolding Here tasks_bytes components_bytes valid_tasks with_head size_of
head_shape s st h t w low n =
    let c = with_head h n.ks in
    record {
      ks = [];
      cs = c ∷ n.cs;
      tail = n.tail;
      bytes =
          w.1
          ∙ (ap (λ (x : List ℕ). record_bytes (ComponentRecord h) ++ x) (drop-drop (head_size h.capacity) st.place s ∙ n.bytes)
          ∙ regroup (record_bytes (ComponentRecord h)) (tasks_bytes n.ks) (components_bytes n.cs) (component_bytes c) n.tail (head_bytes_lem h n.ks));
      valid = refl;
      few = omega arith;
      none = λ e. refl;
      rising = (t.rises, sound_head h n.ks w.0 t.ranges (omega (arith, n.few)) n.valid, n.rising);
      most = omega (arith, n.most);
      same = ap₂ ◌∷◌ (same_head h n.ks) n.same;
      stops = n.stops;
    }

-- ---- the whole walk

-- an accepted walk begins with a sheet that is not too long
begun : (s : List ℕ) → (walked s).refusal ≡ 0 → Accepts (suc (length s)) s start
unfolding Accepts walked opened
begun s a = rw (le-ltb most_bytes (length s) (unrefused_short s a)) at a

module _ (s : List ℕ) (b : Bytes s) where
  bytes_from : (p : ℕ) → Bytes (drop p s)
  bytes_from p i = rw get_or-drop (b (p + i))

  record_shape : (f : ℕ) (st : State) (r : Record) → record_of (drop st.place s) ≡ r → Faithful (drop st.place s) r → st.place + size_of r ≤ length s → st.tasks ≤ 64 → st.count ≤ 256
      → record_refusal st r ≡ 0 → Accepts f s (after st r)
      → ((next : State) → next.going ≡ true → next.place ≤ length s → st.place < next.place → next.tasks ≤ 64 → next.count ≤ 256 → Accepts f s next → Shape s next.place next.count next.lowest next.tasks)
      → Shape s st.place st.count st.lowest st.tasks
  unfolding record_refusal after Here size_of after_head after_task
  record_shape f st (ComponentRecord h) i w room few most e a next =
      let some = some_head h.capacity in
      let t = head_taken st h e in
      head_shape s st h t w few (next (after_head st h) refl room (omega arith) (omega arith) (omega (arith, t.few)) a)
  record_shape f st (TaskRecord stated k) i w room few most e a next =
      let some = some_task stated in
      let t = task_taken st k stated e in
      task_shape s st k stated t w (next (after_task st k stated) refl room (omega arith) (omega (arith, t.few)) most a)
  record_shape f st (PairRecord p) i w room few most e a next = end_shape s st (PairRecord p) i (pair_stops p) most few
  record_shape f st (EndRecord n) i w room few most e a next = end_shape s st (EndRecord n) i (end_stops n) most few
  record_shape f st (NoRecord n) i w room few most e a next = absurd (w e)

  shape : (f : ℕ) (st : State) → st.going ≡ true → st.place ≤ length s → length s - st.place < f → st.tasks ≤ 64 → st.count ≤ 256 → Accepts f s st → Shape s st.place st.count st.lowest st.tasks
  unfolding Accepts step
  shape zero st g h l few most a = absurd (omega arith)
  shape (suc f) st g h l few most a =
      let r : Record = record_of (drop st.place s) in
      let t = taken f s st r (sym (ap (λ (x : State). x.refusal) (walk_on judged f s st g)) ∙ a) in
      record_shape f st r refl (faithful (drop st.place s) (bytes_from st.place)) (room_of s st.place h) few most t.0 t.1
      (λ next g' h' m' few' most' a'. shape f next g' h' (omega arith) few' most' a')

  pub accepted_shape : (walked s).refusal ≡ 0 → Shape s 0 0 0 0
  unfolding start
  accepted_shape a = shape (suc (length s)) start refl (omega arith) (omega arith) (omega arith) (omega arith) (begun s a)
