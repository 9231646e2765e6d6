-- The steps of an edit: what adding is refused before the stored value is looked at, and what removing answers of a component that is taken.
use Rattle.std.specs.Prelude.{ℕ, cond, ◌&&◌, leb, ltb}
use Rattle.budget.specs.declared.component.Component.{Component}
use Rattle.budget.specs.Edit.{Edited}
use Rattle.budget.specs.declared.task.Task.{Task}
use Rattle.budget.specs.Component.{valid_component}
use Rattle.budget.specs.Edit.{edited, removed}
use Rattle.budget.specs.Limits.{most_tasks}
use Rattle.budget.specs.Refusal as refusal
use Rattle.budget.specs.Task.{tasks_of, valid_task}

-- 6 for a table without room for one more, then 9 for any number out of range
unfoldable pub adding_ranges : Component → Task → ℕ
adding_ranges c k =
    cond (leb most_tasks c.table.count) refusal.tasks
    (cond (valid_component c && valid_task k) refusal.none refusal.range)

-- 15 where no task stands at the place
unfoldable pub removed_answer : Component → ℕ → Edited
removed_answer c at =
    edited (cond (ltb at c.table.count) refusal.none refusal.place) c (removed (tasks_of c.table) at)
