-- The record at the front of the part decides; it is no longer than the part.
use mathlib.Core.Path.{sym, ap, ◌∙◌}
use Rattle.std.specs.Prelude.{Ok}
use Rattle.budget.proofs.TableLaws.{tasks_of_table}
use Rattle.record.specs.Layout.{size_of}
use Rattle.record.specs.Record.{record_in}
use Rattle.record.proofs.RecordLaws.{size_within}
use Rattle.transfer.specs.Reading.{with_head, component_from}
use Rattle.transfer.proofs.read.read_part.Goals as goal

pub read_tasks-requires : goal.read_tasks-requires
read_tasks-requires c =
    let is = ap record_in (sym (c.in-Ok-Component.is ∙ ap Ok c.in-Ok-Component.field-0-is)) ∙ c.record_of.ensures in
    rw (c.size_of-size.ensures ∙ ap size_of is) (size_within c.args.part.now)

pub returns-in-Ok-Component : goal.returns-in-Ok-Component
unfolding component_from with_head
returns-in-Ok-Component c =
    let is = ap record_in (sym (c.in-Ok-Component.is ∙ ap Ok c.in-Ok-Component.field-0-is)) ∙ c.record_of.ensures in
    rw (c.with_head.ensures, c.read_tasks.ensures, c.size_of-size.ensures, tasks_of_table) (ap (component_from c.args.part.now) is)
