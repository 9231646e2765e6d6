-- What is read stores the right common period, whatever the bytes: reading works it out from the numbers that it answers.
use Prim.Native.Nat.{ℕ}
use mathlib.Core.List.{List}
use mathlib.Core.Path.{sym, ap}
use lib.Dec.{eqb}
use Rattle.budget.specs.declared.task.Task.{Task}
use Rattle.budget.specs.Common.{common_of}
use Rattle.budget.specs.Component.{Right}
use Rattle.budget.specs.Refusal as refusal
use Rattle.budget.proofs.CommonLaws.{refused_right}
use Rattle.budget.proofs.TableLaws.{tasks_of_table}
use Rattle.record.specs.declared.layout.Head.{Head}
use Rattle.record.specs.Record.{Record, ComponentRecord, TaskRecord, PairRecord, EndRecord, NoRecord}
use Rattle.record.specs.Layout.{record_of}
use Rattle.record.proofs.Cases.{cases}
use Rattle.sheet.specs.Part.{part_check, part_of}
use Rattle.transfer.specs.ReadAt.{read_at}
use Rattle.transfer.specs.Reading.{with_head, component_from, reading}

pub head_right : (h : Head) (ks : List Task) → Right (with_head h ks)
unfolding with_head
head_right h ks = ap (common_of h.period.0) (sym (tasks_of_table ks))

pub part_right : (s : List ℕ) (r : Record) → Right (component_from s r)
unfolding component_from
part_right s (ComponentRecord h) = head_right h _
part_right s (TaskRecord stated k) = refused_right
part_right s (PairRecord p) = refused_right
part_right s (EndRecord count) = refused_right
part_right s (NoRecord n) = refused_right

pub reading_right : (s : List ℕ) (k : ℕ) → Right (reading s k).component
unfolding reading
reading_right s k = cases Right (eqb (part_check s k).refusal refusal.none) (λ p. part_right (part_of s k) (record_of (part_of s k))) (λ p. refused_right)

pub read_at_right : (s edges : List ℕ) (k : ℕ) → Right (read_at s edges k)
unfolding read_at
read_at_right s edges k = part_right _ _
