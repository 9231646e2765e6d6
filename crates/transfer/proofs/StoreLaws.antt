-- Laws of the bytes of tasks and components, and of storing them. Records are written one after the other: what is left to store, put onto the buffer as it stands, always gives the same last buffer.
use Prim.Native.Nat.{ℕ, ◌+◌, ◌*◌, ◌≤◌, ◌<◌}
use mathlib.Core.Path.{◌≡◌, refl, sym, ap, ap₂, ◌∙◌}
use mathlib.Core.Bool.{Bool, true, false}
use mathlib.Core.List.{List, [], ◌∷◌, ◌++◌}
use native.Mathlib.Omega.{arith}
use lib.ListN.{length, take, drop, get_or, length-append, length-take}
use lib.Seq.{sets, sets-eq, length-sets}
use Rattle.std.proofs.lemmas.List.{at_drop_more, at_drop_all}
use lib.Dec.{ltb}
use borrow.Author.Tests.{ne_eqb}
use Rattle.budget.specs.declared.component.Capacity.{Capacity}
use Rattle.budget.specs.declared.component.Capacity.TheVariants.{Stated, Asked}
use Rattle.budget.specs.declared.component.Component.{Component}
use Rattle.budget.specs.declared.task.Table.{Table}
use Rattle.budget.specs.declared.refusal.Refusal.{Refusal}
use Rattle.budget.specs.declared.task.Task.{Task}
use Rattle.std.specs.Prelude.{Ok, Err}
use Rattle.budget.specs.Component.{held_refusal}
use Rattle.budget.specs.Refusal.{number_of}
use Rattle.budget.proofs.Refusals.{some}
use Rattle.budget.specs.Task.{J, no_task, tasks_of}
use Rattle.record.specs.declared.layout.Pair.{Pair}
use Rattle.record.specs.Record.{Record, ComponentRecord, TaskRecord, PairRecord, EndRecord}
use Rattle.record.specs.Writing.{Written, written_in}
use Rattle.record.specs.Layout.{head_bytes, head_size, task_bytes, task_size, pair_bytes, end_bytes, record_bytes, size_of}
use Rattle.record.specs.Writing.{stored, room_refusal, written, buffered}
use Rattle.transfer.specs.Writing.{tasks_bytes, component_bytes, writing_refusal}
use Rattle.record.proofs.RecordLaws.{record_length}
use Rattle.record.proofs.StoreLaws.{room_free, written_place, written_bytes}
pub use Rattle.record.proofs.StoreLaws.{sets_append}

-- a task's record in the form that is written
abbrev pub formed : Task → Record
formed k = TaskRecord (ltb 0 (J k)) k

formed_bytes : (k : Task) → record_bytes (formed k) ≡ task_bytes k
unfolding record_bytes task_bytes
formed_bytes k = refl

pub task_length : (k : Task) → length (task_bytes k) ≡ size_of (formed k)
task_length k = ap length (sym (formed_bytes k)) ∙ record_length (formed k)

most_task : (stated : Bool) → task_size stated ≤ 20
unfolding task_size
most_task true = omega arith
most_task false = omega arith

tasks_short : (ks : List Task) → length (tasks_bytes ks) ≤ 20 * length ks
unfolding tasks_bytes size_of
tasks_short [] = omega arith
tasks_short (k ∷ ks) = rw (length-append, task_length) (omega (arith, most_task (ltb 0 (J k)), tasks_short ks))

-- the tasks of a component have few bytes
pub table_short : (table : Table) → table.count ≤ 64 → length (tasks_bytes (tasks_of table)) ≤ 1_280
unfolding tasks_of
table_short table h = let n = length-take table.count table.tasks in omega (arith, tasks_short (take table.count table.tasks))

-- ---- what a writer answers

-- a refusal leaves the buffer as it is
pub refused_answer : (n at : ℕ) (bytes : List ℕ) (e : Refusal) → number_of e ≡ n → written_in (Err e) ≡ written n at bytes
unfolding written
refused_answer n at bytes e h = rw (← h, ne_eqb (number_of e) 0 (some e))

pub refused_bytes : (n : ℕ) (buffer : List ℕ) (at : ℕ) (bytes : List ℕ) (e : Refusal) → number_of e ≡ n → buffer ≡ buffered n buffer at bytes
unfolding buffered
refused_bytes n buffer at bytes e h = rw (← h, ne_eqb (number_of e) 0 (some e))

-- bytes for which there is room are not refused
pub never_refused : (l : List ℕ) (at : ℕ) (bytes : List ℕ) → at + length bytes ≤ length l → (e : Refusal) → written_in (Err e) ≡ written (room_refusal (length l) at (length bytes)) at bytes → ⊥
unfolding written
never_refused l at bytes h e a = some e (ap (λ (w : Written). w.refusal) a ∙ room_free (length l) at (length bytes) h)

-- ---- tasks one after the other

module _ (ks : List Task) where
  next_bytes : (i : ℕ) → i < length ks → tasks_bytes (drop i ks) ≡ task_bytes (get_or ks i no_task) ++ tasks_bytes (drop (i + 1) ks)
  unfolding tasks_bytes
  next_bytes i h = at_drop_more tasks_bytes ks i no_task h

  pub no_bytes : (i : ℕ) → length ks ≤ i → tasks_bytes (drop i ks) ≡ []
  unfolding tasks_bytes
  no_bytes i h = at_drop_all tasks_bytes ks i h

  pub next_length : (i : ℕ) → i < length ks → length (tasks_bytes (drop i ks)) ≡ size_of (formed (get_or ks i no_task)) + length (tasks_bytes (drop (i + 1) ks))
  next_length i h = rw (next_bytes i h, length-append, task_length)

-- the tasks from place i on are still to be stored
pub record Storing (start : List ℕ) (at : ℕ) (ks : List Task) (buffer : List ℕ) (place i : ℕ) : Type 0 where
  pub todo : sets buffer place (tasks_bytes (drop i ks)) ≡ sets start at (tasks_bytes ks)
  pub long : length buffer ≡ length start
  pub here : place + length (tasks_bytes (drop i ks)) ≡ at + length (tasks_bytes ks)

module _ (start : List ℕ) (at : ℕ) (ks : List Task) where
  module _ (buffer : List ℕ) (place i : ℕ) (w : Storing start at ks buffer place i) where
    -- there is room for the next
    pub storing_room : (r : Record) → i < length ks → at + length (tasks_bytes ks) ≤ length start → r ≡ formed (get_or ks i no_task) → place + length (record_bytes r) ≤ length buffer
    storing_room r h room k =
        let d : tasks_bytes (drop i ks) ≡ record_bytes r ++ tasks_bytes (drop (i + 1) ks) = rw (k, formed_bytes) (next_bytes ks i h) in
        omega (arith, w.here, w.long, ap length d ∙ length-append (record_bytes r) (tasks_bytes (drop (i + 1) ks)))

    pub storing_more : (new : List ℕ) (a : Written) (r : Record) → i < length ks → at + length (tasks_bytes ks) ≤ length start → r ≡ formed (get_or ks i no_task)
        → a ≡ written (room_refusal (length buffer) place (length (record_bytes r))) place (record_bytes r)
        → new ≡ buffered (room_refusal (length buffer) place (length (record_bytes r))) buffer place (record_bytes r)
        → Storing start at ks new a.place (i + 1)
    storing_more new a r h room k e f =
        let bytes = record_bytes r in
        let rest = tasks_bytes (drop (i + 1) ks) in
        let d : tasks_bytes (drop i ks) ≡ bytes ++ rest = rw (k, formed_bytes) (next_bytes ks i h) in
        let n = ap length d ∙ length-append bytes rest in
        let g = storing_room r h room k in
        let s : new ≡ sets buffer place bytes = written_bytes buffer place bytes g new f in
        let p : a.place ≡ place + length bytes = written_place buffer place bytes g a e in
        record {
          todo =
              ap₂ (λ (l : List ℕ) (q : ℕ). sets l q rest) s p
              ∙ (sym (sets_append buffer place bytes rest)
              ∙ (ap (sets buffer place) (sym d) ∙ w.todo));
          long = ap length s ∙ (length-sets buffer place bytes ∙ w.long);
          here = omega (arith, w.here);
        }

    pub storing_all : length ks ≤ i → (place ≡ at + length (tasks_bytes ks)) × (buffer ≡ sets start at (tasks_bytes ks))
    storing_all h =
        let e = no_bytes ks i h in
        let n = ap length e in
        (omega (arith, w.here), ap (sets buffer place) (sym e) ∙ w.todo)

-- ---- whole components, pairs and the end record

pub head_length : (number period : ℕ) (c : Capacity) (deadline : ℕ) → length (head_bytes number period c deadline) ≡ head_size c
unfolding record_bytes size_of
head_length number period c deadline = record_length (ComponentRecord (record { number = number; period = record { 0 = period }; capacity = c; deadline = record { 0 = deadline } }))

pub pair_length : (p : Pair) → length (pair_bytes p) ≡ 8
unfolding record_bytes size_of
pair_length p = record_length (PairRecord p)

pub end_length : (count : ℕ) → length (end_bytes count) ≡ 6
unfolding record_bytes size_of
end_length count = record_length (EndRecord count)

pub most_head : (c : Capacity) → head_size c ≤ 18
unfolding head_size
most_head (Stated u) = omega arith
most_head Asked = omega arith

pub component_length : (c : Component) → length (component_bytes c) ≡ head_size c.capacity + length (tasks_bytes (tasks_of c.table))
unfolding component_bytes
component_length c = rw (length-append, head_length)

-- a component that is not refused when it is handed in is refused for the room alone, and one that is refused is for that
pub held_passed : (room at : ℕ) (c : Component) → held_refusal c ≡ 0 → writing_refusal room at c ≡ room_refusal room at (length (component_bytes c))
unfolding writing_refusal
held_passed room at c h = rw h

pub held_first : (room at : ℕ) (c : Component) (e : Refusal) → number_of e ≡ held_refusal c → number_of e ≡ writing_refusal room at c
unfolding writing_refusal
held_first room at c e h = rw (← h, ne_eqb (number_of e) 0 (some e))

-- the component's record is written, then its tasks behind it
module _ (l : List ℕ) (at : ℕ) (c : Component) (h : at + length (component_bytes c) ≤ length l) where
  abbrev bytes : List ℕ
  bytes = head_bytes c.number c.period.0 c.capacity c.deadline.0

  fits : at + length bytes ≤ length l
  unfolding component_bytes
  fits = let n = length-append bytes (tasks_bytes (tasks_of c.table)) in omega arith

  pub head_given : (e : Refusal) → written_in (Err e) ≡ written (room_refusal (length l) at (length bytes)) at bytes → ⊥
  head_given e a = never_refused l at bytes fits e a

  pub head_place : (a : Written) → a ≡ written (room_refusal (length l) at (length bytes)) at bytes → a.place ≡ at + head_size c.capacity
  head_place a e = written_place l at bytes fits a e ∙ ap (λ (n : ℕ). at + n) (head_length c.number c.period.0 c.capacity c.deadline.0)

  pub head_long : (new : List ℕ) → new ≡ buffered (room_refusal (length l) at (length bytes)) l at bytes → length new ≡ length l
  head_long new e = ap length (written_bytes l at bytes fits new e) ∙ length-sets l at bytes

  pub stored_component : (new last : List ℕ) → new ≡ buffered (room_refusal (length l) at (length bytes)) l at bytes
      → last ≡ sets new (at + head_size c.capacity) (tasks_bytes (tasks_of c.table))
      → last ≡ stored l at (component_bytes c)
  unfolding stored component_bytes
  stored_component new last e f =
      let rest = tasks_bytes (tasks_of c.table) in
      f
      ∙ (rw (written_bytes l at bytes fits new e, ← head_length c.number c.period.0 c.capacity c.deadline.0) (sym (sets_append l at bytes rest))
      ∙ sets-eq (bytes ++ rest) l at h)

-- the whole component is written
module _ (l : List ℕ) (at : ℕ) (c : Component) (held : held_refusal c ≡ 0) (room : room_refusal (length l) at (length (component_bytes c)) ≡ 0) where
  pub stored_answer : (n : ℕ) → n ≡ at + length (component_bytes c) → written_in (Ok n) ≡ written (writing_refusal (length l) at c) at (component_bytes c)
  unfolding written
  stored_answer n e = rw (held_passed (length l) at c held, room, e)

  pub stored_bytes : (new : List ℕ) → new ≡ stored l at (component_bytes c) → new ≡ buffered (writing_refusal (length l) at c) l at (component_bytes c)
  unfolding buffered
  stored_bytes new e = rw (held_passed (length l) at c held, room) e
