-- Adding and removing a task (RULES 11, and 13 for what is refused first).
use Rattle.std.specs.Prelude.{ℕ, suc, cond, Result, Ok, Err, ◌≡◌, ◌&&◌, List, [], ◌∷◌, ◌++◌, take, drop, leb, ltb, eqb}
use Rattle.budget.specs.declared.component.Component.{Component}
use Rattle.budget.specs.declared.task.Task.{Task}
use Rattle.budget.specs.declared.refusal.Refusal.{Refusal}
use Rattle.budget.specs.Component.{valid_component, is_right, with_tasks, refused}
use Rattle.budget.specs.Limits.{most_tasks}
use Rattle.budget.specs.Refusal as refusal
use Rattle.budget.specs.Task.{valid_task, tasks_of}

-- adding: a table that has no room for one more is 6, then any number out of range, the new task's too, is 9, then a stored value that is not right 17
unfoldable pub adding_refusal : Component → Task → ℕ
adding_refusal c k =
    cond (leb most_tasks c.table.count) refusal.tasks
    (cond (valid_component c && valid_task k)
    (cond (is_right c) refusal.none refusal.common)
    refusal.range)

-- the new task stands behind the others
unfoldable pub added : List Task → Task → List Task
added ks k = ks ++ (k ∷ [])

-- removing: the ranges and the stored value as ever, then a place at which no task stands is 15
unfoldable pub removing_refusal : Component → ℕ → ℕ
removing_refusal c at =
    cond (ltb most_tasks c.table.count) refusal.tasks
    (cond (valid_component c)
    (cond (is_right c)
    (cond (ltb at c.table.count) refusal.none refusal.place)
    refusal.common)
    refusal.range)

-- the tasks behind the place close the gap
unfoldable pub removed : List Task → ℕ → List Task
removed ks at = take at ks ++ drop (suc at) ks

-- what an edit answers in the numbers of RULES 11 and 12: the refusal's number, 0 for none, and the component, or the one that stands for none
pub record Edited : Type 0 where
  pub refusal : ℕ
  pub component : Component

abbrev pub edited_in : Result Component Refusal → Edited
edited_in (Ok c) = record { refusal = refusal.none; component = c }
edited_in (Err r) = record { refusal = refusal.number_of r; component = refused }

-- no two answers of an edit have the same number and component
abbrev pub EditsApart : Type 0
EditsApart = (a b : Result Component Refusal) → edited_in a ≡ edited_in b → a ≡ b

-- what an edit answers: the component with its new tasks and their common period, or the refusal and the component that stands for none
unfoldable pub edited : ℕ → Component → List Task → Edited
edited n c ks = record { refusal = n; component = cond (eqb n refusal.none) (with_tasks c ks) refused }

unfoldable pub adding_answer : Component → Task → Edited
adding_answer c k = edited (adding_refusal c k) c (added (tasks_of c.table) k)

unfoldable pub removing_answer : Component → ℕ → Edited
removing_answer c at = edited (removing_refusal c at) c (removed (tasks_of c.table) at)
