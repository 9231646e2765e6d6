-- Making a component from plain numbers (RULES 11): its common period is worked out.
use Rattle.std.specs.Prelude.{ℕ}
use Rattle.budget.specs.declared.common.Common.TheVariants.{Above}
use Rattle.budget.specs.declared.component.Capacity.{Capacity}
use Rattle.budget.specs.declared.component.Component.{Component}
use Rattle.budget.specs.Edit.{Edited}
use Rattle.budget.specs.declared.quantity.Time.{Time}
use Rattle.budget.specs.declared.task.Table.{Table}
use Rattle.budget.specs.Component.{range_refusal}
use Rattle.budget.specs.Edit.{edited}
use Rattle.budget.specs.Task.{tasks_of}

-- the numbers as they are given; what stands in place of the stored value is not looked at
abbrev pub unmade : ℕ → Time → Capacity → Time → Table → Component
unmade n p q d t = record { number = n; period = p; capacity = q; deadline = d; common = Above; table = t }

-- the ranges as ever, then the component with these tasks
unfoldable pub making_answer : ℕ → Time → Capacity → Time → Table → Edited
making_answer n p q d t = edited (range_refusal (unmade n p q d t)) (unmade n p q d t) (tasks_of t)
