-- The tasks are copied as one piece behind those of a table as it is returned.
use Rattle.budget.specs.Task.{tasks_of}
use Rattle.budget.proofs.TableLaws.{extended}
use Rattle.budget.proofs.edit.append_all.Goals as goal

pub returns : goal.returns
returns c =
    rw c.copy_from_slice.ensures.after
    (extended c.args.table (tasks_of c.args.table) c.args.tasks.now c.requires.returned c.requires.room)
