-- The places from the count on are cleared, and before the count the table's tasks stand.
use mathlib.Core.Path.{◌≡◌}
use native.Mathlib.Omega.{arith}
use lib.ListN.{length}
use borrow.Author.Rules.{rules}
use Rattle.budget.specs.Task.{tasks_of}
use Rattle.budget.proofs.Places.{length_mapped}
use Rattle.tree.proofs.WorkloadLaws.{cleared_all, cleared_put}
use Rattle.tree.proofs.workload.own_tasks.Goals as goal
use Rattle.tree.proofs.workload.own_tasks.Goals.{After-min-count}

whole : (c : After-min-count) → length c.args.table.tasks ≡ 64
whole c = search (rules, length_mapped)

pub returns : goal.returns
unfolding tasks_of
returns c =
    let a = c.args.table in
    let count = c.min-count.result in
    let w = whole (goal.at.returns c).After-min-count in
    rw (cleared_put a.tasks count c.fill.new.self w (omega (arith, c.min-count.ensures)) (c.fill.ensures.after (λ y h. h)))
    (cleared_all a.tasks a.count count w c.min-count.ensures)
