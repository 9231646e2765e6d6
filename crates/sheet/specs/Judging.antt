-- How the records of components and tasks are judged, each against what was read before it: what may stand where in a sheet (RULES 10)
-- and which refusal comes first (13). The first record of another kind ends them; Pairs.antt judges it and what follows.
use Rattle.std.specs.Prelude.{ℕ, ◌+◌, Bool, true, false, cond, ◌&&◌, leb, ltb, eqb}
use Rattle.budget.specs.declared.task.Task.{Task}
use Rattle.budget.specs.Component.{units_of}
use Rattle.budget.specs.Interface.{interface, interface_refusal}
use Rattle.budget.specs.Limits.{most_tasks}
use Rattle.budget.specs.Refusal as refusal
use Rattle.budget.specs.Task.{J, task_refusal}
use Rattle.record.specs.declared.layout.Head.{Head}
use Rattle.record.specs.Record.{Record, ComponentRecord, TaskRecord, PairRecord, EndRecord, NoRecord}
use Rattle.record.specs.Layout.{size_of}

-- the largest sheet (RULES 10)
abbrev pub most_bytes : ℕ
most_bytes = 65_536

abbrev pub most_components : ℕ
most_components = 256

-- where a walk stands: whether it goes on, its refusal, the byte where the next record begins, the components so far, the lowest number that the
-- next one may have, and the tasks of the last one so far
pub record State : Type 0 where
  pub going : Bool
  pub refusal : ℕ
  pub place : ℕ
  pub count : ℕ
  pub lowest : ℕ
  pub tasks : ℕ

-- nothing is read so far
unfoldable pub start : State
start = record { going = true; refusal = refusal.none; place = 0; count = 0; lowest = 0; tasks = 0 }

-- the walk stops at this record with a refusal
unfoldable pub refuse : ℕ → State → State
refuse n st = record { going = false; refusal = n; place = st.place; count = st.count; lowest = st.lowest; tasks = st.tasks }

-- the walk stops behind the last component: a pair or the end record stands here
unfoldable pub ended : State → State
ended st = refuse refusal.none st

-- before the first record of a sheet of n bytes: too many are refused (RULES 13: 14 comes before every record)
unfoldable pub opened : ℕ → State
opened n = cond (ltb most_bytes n) (refuse refusal.sheet start) start

-- a component record (RULES 13): too many components, then a number that does not rise, then its ranges, a capacity that is asked taken as 0
unfoldable pub head_refusal : State → Head → ℕ
head_refusal st h =
    cond (leb most_components st.count) refusal.components
    (cond (ltb h.number st.lowest) refusal.number
    (interface_refusal (interface h.period.0 (units_of h.capacity) h.deadline.0)))

-- the ranges of a task record: those of its task, and a J that is stated is at least 1, so that each task has one form
unfoldable pub form_refusal : Task → Bool → ℕ
form_refusal k stated = cond (stated && eqb (J k) 0) refusal.range (task_refusal k)

-- a task record (RULES 13): no component before it, then too many tasks, then its ranges
unfoldable pub standing_refusal : State → Task → Bool → ℕ
standing_refusal st k stated =
    cond (eqb st.count 0) refusal.no_component
    (cond (leb most_tasks st.tasks) refusal.tasks
    (form_refusal k stated))

-- of one record; where none was read, the refusal is the one of its layout
unfoldable pub record_refusal : State → Record → ℕ
record_refusal st (ComponentRecord h) = head_refusal st h
record_refusal st (TaskRecord stated k) = standing_refusal st k stated
record_refusal st (PairRecord p) = refusal.none
record_refusal st (EndRecord count) = refusal.none
record_refusal st (NoRecord n) = n

-- behind a component record: one component more, without tasks, and the next number is at least one more
unfoldable pub after_head : State → Head → State
after_head st h =
    record {
      going = true;
      refusal = refusal.none;
      place = st.place + size_of (ComponentRecord h);
      count = st.count + 1;
      lowest = h.number + 1;
      tasks = 0;
    }

-- behind a task record: the last component has one task more
unfoldable pub after_task : State → Task → Bool → State
after_task st k stated =
    record {
      going = true;
      refusal = refusal.none;
      place = st.place + size_of (TaskRecord stated k);
      count = st.count;
      lowest = st.lowest;
      tasks = st.tasks + 1;
    }

-- behind a record that is taken; one that is neither a component's nor a task's ends the walk where it begins
unfoldable pub after : State → Record → State
after st (ComponentRecord h) = after_head st h
after st (TaskRecord stated k) = after_task st k stated
after st (PairRecord p) = ended st
after st (EndRecord count) = ended st
after st (NoRecord n) = ended st

-- a record is taken, or refused where it begins
unfoldable pub judged : State → Record → State
judged st r = cond (eqb (record_refusal st r) refusal.none) (after st r) (refuse (record_refusal st r) st)
