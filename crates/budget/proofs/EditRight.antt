-- What an edit or a making answers stores the right common period, whatever was handed in: it is the component with its new tasks, or the stand-in.
use Prim.Native.Nat.{ℕ}
use mathlib.Core.Bool.{Bool, true, false, cond}
use mathlib.Core.List.{List}
use lib.Dec.{eqb}
use Rattle.budget.specs.declared.component.Capacity.{Capacity}
use Rattle.budget.specs.declared.component.Component.{Component}
use Rattle.budget.specs.declared.quantity.Time.{Time}
use Rattle.budget.specs.declared.task.Table.{Table}
use Rattle.budget.specs.declared.task.Task.{Task}
use Rattle.budget.specs.Component.{Right, refused, with_tasks}
use Rattle.budget.specs.Edit.{edited, adding_answer, removing_answer}
use Rattle.budget.specs.Make.{making_answer}
use Rattle.budget.specs.Refusal as refusal
use Rattle.budget.specs.inner.Edits.{removed_answer}
use Rattle.budget.proofs.CommonLaws.{with_tasks_right, refused_right}

-- whichever of the two is answered
pub edited_right : (n : ℕ) (c : Component) (ks : List Task) → Right (edited n c ks).component
unfolding edited
edited_right n c ks = by (eqb n refusal.none)
  where
    by : (b : Bool) → Right (cond b (with_tasks c ks) refused)
    by true = with_tasks_right c ks
    by false = refused_right

pub adding_right : (c : Component) (k : Task) → Right (adding_answer c k).component
unfolding adding_answer
adding_right c k = edited_right _ _ _

pub removing_right : (c : Component) (at : ℕ) → Right (removing_answer c at).component
unfolding removing_answer
removing_right c at = edited_right _ _ _

pub removed_right : (c : Component) (at : ℕ) → Right (removed_answer c at).component
unfolding removed_answer
removed_right c at = edited_right _ _ _

pub making_right : (n : ℕ) (p : Time) (q : Capacity) (d : Time) (t : Table) → Right (making_answer n p q d t).component
unfolding making_answer
making_right n p q d t = edited_right _ _ _
