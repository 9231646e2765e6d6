-- At most 64 tasks, so the size does not wrap; it is that of the component's record and of its tasks.
use native.Mathlib.Omega.{arith}
use Rattle.transfer.proofs.StoreLaws.{most_head, table_short, component_length}
use mathlib.Core.Path.{◌≡◌, ap, ◌∙◌}
use Rattle.record.specs.declared.layout.Head.{Head}
use Rattle.record.specs.Layout.{head_size, size_of}
use Rattle.transfer.proofs.write.component_size.Goals as goal
use Rattle.transfer.proofs.write.component_size.Goals.{After-size_of}

-- the head's size
size : (c : After-size_of) → c.size_of.result ≡ head_size c.args.component.capacity
unfolding size_of
size c = c.size_of.ensures ∙ ap (λ (h : Head). head_size h.capacity) c.from.ensures

pub overflow_add-result : goal.overflow_add-result
overflow_add-result c = let h = most_head c.args.component.capacity in
    let t = table_short c.args.component.table c.requires in
    omega (arith, size (goal.at.overflow_add-result c).After-size_of, c.tasks_size.ensures)

pub returns : goal.returns
returns c = let n = component_length c.args.component in omega (arith, size (goal.at.returns c).After-size_of, c.tasks_size.ensures)
