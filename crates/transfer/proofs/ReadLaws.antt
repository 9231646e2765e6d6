-- Reading tasks one after the other: those read so far, and those still to be read from the place reached, are all the tasks. And what is read between two edges.
use Prim.Native.Nat.{ℕ, zero, suc, ◌+◌, ◌-◌, ◌≤◌, ◌<◌}
use mathlib.Core.Path.{◌≡◌, refl, sym, ap, ap₂, ◌∙◌}
use mathlib.Core.Bool.{Bool}
use mathlib.Core.List.{List, [], ◌∷◌, ◌++◌, append-nil}
use native.Mathlib.Omega.{arith}
use lib.ListN.{length, get_or, take, drop, length-append}
use lib.Seq.{append_snoc}
use Rattle.budget.specs.declared.task.Table.{Table}
use Rattle.budget.specs.declared.task.Task.{Task}
use Rattle.budget.specs.Component.{refused}
use Rattle.budget.specs.Task.{table_of, appended}
use Rattle.budget.proofs.TableLaws.{append_returned}
use Rattle.record.specs.declared.layout.Head.{Head}
use Rattle.record.specs.declared.layout.Record as code
use Rattle.record.specs.declared.layout.Record.TheVariants as variant
use Rattle.record.specs.Record.{said}
use Rattle.record.specs.Record.{Record}
use Rattle.record.specs.Record.{ComponentRecord, TaskRecord, PairRecord, EndRecord, NoRecord}
use Rattle.record.specs.Layout.{size_of, record_of}
use Rattle.sheet.specs.Check.{Checked}
use Rattle.sheet.specs.Check.{check}
use Rattle.sheet.specs.Contents.{contents_of}
use Rattle.sheet.specs.Part.{part_check}
use Rattle.sheet.proofs.PartLaws.{part_accepted, part_between}
use Rattle.transfer.specs.Reading.{task_then, tasks_in, component_from, reading}
use Rattle.transfer.proofs.RecordHere.{read_here, room_here, rest_here}

-- a record that is no task ends them
none_then : (r : Record) → ((stated : Bool) (k : Task) → r ≡ TaskRecord stated k → ⊥) → (ks : List Task) → task_then r ks ≡ []
unfolding task_then
none_then (TaskRecord stated k) h ks = absurd (h stated k refl)
none_then (ComponentRecord c) h ks = refl
none_then (PairRecord p) h ks = refl
none_then (EndRecord count) h ks = refl
none_then (NoRecord n) h ks = refl

-- and so is a record of the code
pub no_task_said : (r : code.Record) → ((stated : Bool) (k : Task) → r ≡ variant.Task stated k → ⊥) → (stated : Bool) (k : Task) → said r ≡ TaskRecord stated k → ⊥
no_task_said (variant.Task s t) h stated k e = h s t refl
no_task_said (variant.Component c) h stated k e = cc
no_task_said (variant.Pair p) h stated k e = cc
no_task_said (variant.End count) h stated k e = cc

pub no_task_none : (n : ℕ) (stated : Bool) (k : Task) → NoRecord n ≡ TaskRecord stated k → ⊥
no_task_none n stated k e = cc

-- a part that does not begin with a component record
pub no_component_said : (s : List ℕ) (r : code.Record) → ((h : Head) → r ≡ variant.Component h → ⊥) → refused ≡ component_from s (said r)
unfolding component_from
no_component_said s (variant.Component h) other = absurd (other h refl)
no_component_said s (variant.Task stated k) other = refl
no_component_said s (variant.Pair p) other = refl
no_component_said s (variant.End count) other = refl

pub record Taking (part : List ℕ) (start : ℕ) (table : Table) (place left : ℕ) : Type 0 where
  pub ks : List Task
  pub held : table ≡ table_of ks
  pub todo : ks ++ tasks_in left (drop place part) ≡ tasks_in 64 (drop start part)
  pub here : place ≤ length part
  pub few : length ks + left ≡ 64

module _ (part : List ℕ) (start : ℕ) where
  module _ (table : Table) (place : ℕ) where
    -- a task record is read there, with this size
    pub taking_more : (r : Record) (task : Task) (stated : Bool) (size : ℕ) → r ≡ record_of (take (length part - place) (drop place part)) → r ≡ TaskRecord stated task → size ≡ size_of (TaskRecord stated task)
        → (left : ℕ) → Taking part start table place left → 0 < left → (longer : Table) → longer ≡ appended table task → Taking part start longer (place + size) (left - 1)
    unfolding tasks_in task_then
    taking_more r task stated size e f g zero w h longer a = absurd (omega arith)
    taking_more r task stated size e f g (suc m) w h longer a =
        let n : suc m - 1 ≡ m = omega arith in
        record {
          ks = w.ks ++ (task ∷ []);
          held = a ∙ append_returned table w.ks task w.held (omega (arith, w.few));
          todo =
              append_snoc w.ks task (tasks_in (suc m - 1) (drop (place + size) part))
              ∙ (ap (λ (l : List Task). w.ks ++ l)
              (ap₂ (λ (i : ℕ) (l : List ℕ). task ∷ tasks_in i l) n (rest_here part place r e (TaskRecord stated task) size f g)
              ∙ ap (λ (x : Record). task_then x (tasks_in m (drop (size_of (record_of (drop place part))) (drop place part)))) (sym (read_here part place r e ∙ f)))
              ∙ w.todo);
          here = room_here part place r e (TaskRecord stated task) size f g w.here;
          few = let l = length-append w.ks (task ∷ []) in omega (arith, l, w.few);
        }

    -- no more tasks, or no place for one
    ended : (left : ℕ) (w : Taking part start table place left) → tasks_in left (drop place part) ≡ [] → table ≡ table_of (tasks_in 64 (drop start part))
    ended left w e = w.held ∙ ap table_of (sym (append-nil w.ks) ∙ (ap (λ (l : List Task). w.ks ++ l) (sym e) ∙ w.todo))

    -- a record that is no task ends them
    pub taken_short : (left : ℕ) → Taking part start table place left → 0 < left → (r : Record) → r ≡ record_of (take (length part - place) (drop place part)) → ((stated : Bool) (k : Task) → r ≡ TaskRecord stated k → ⊥)
        → table ≡ table_of (tasks_in 64 (drop start part))
    unfolding tasks_in
    taken_short zero w h r e other = absurd (omega arith)
    taken_short (suc m) w h r e other = ended (suc m) w (rw (read_here part place r e) (none_then r other _))

    pub taken : (left : ℕ) → Taking part start table place left → left ≤ 0 → table ≡ table_of (tasks_in 64 (drop start part))
    unfolding tasks_in
    taken zero w h = ended zero w refl
    taken (suc m) w h = absurd (omega arith)

-- each component of an accepted sheet is the one of the bytes between its two edges, so that one walk serves all readings
pub read_between : (s : List ℕ) (k : ℕ) → (check s).refusal ≡ 0 → k < (check s).count
    → let part = take (get_or (contents_of s).edges (k + 1) 0 - get_or (contents_of s).edges k 0) (drop (get_or (contents_of s).edges k 0) s) in
    (reading s k).component ≡ component_from part (record_of part)
unfolding reading
read_between s k e h =
    let p : (part_check s k).refusal ≡ 0 = ap (λ (x : Checked). x.refusal) (part_accepted s k e h) ∙ e in
    rw p (ap (λ (l : List ℕ). component_from l (record_of l)) (part_between s k e h))
