-- No more tasks can be taken than there are places.
use mathlib.Core.Path.{◌≡◌}
use lib.ListN.{length}
use Rattle.std.proofs.lemmas.List.{take_min}
use borrow.Author.Rules.{rules}
use Rattle.budget.specs.Limits.{most_tasks}
use Rattle.budget.specs.Task.{tasks_of}
use Rattle.budget.proofs.Places.{length_mapped}
use Rattle.budget.proofs.task.Table.tasks.Goals as goal

pub returns : goal.returns
unfolding tasks_of
returns c =
    let places : length c.args.self.now.tasks ≡ most_tasks = search (rules, length_mapped) in
    rw (c.min-count.ensures, ← places) (take_min _ _)
