-- Demand of some tasks is summed as defined: the task at the place, those after it, and what the task asks for.
use Prim.Native.Nat.{ℕ, ◌+◌, ◌*◌, ◌≤◌}
use mathlib.Core.Bool.{true}
use mathlib.Core.List.{List}
use mathlib.Core.Path.{◌≡◌, sym, ◌∙◌, ap}
use native.Mathlib.Nat.{add-zero, add_assoc}
use native.Mathlib.Omega.{arith}
use lib.ListN.{get_or, drop, drop_of_length-le}
use Rattle.budget.specs.declared.task.Task.{Task}
use Rattle.budget.specs.Demand.{demand, jobs_by}
use Rattle.budget.specs.Limits.{limit}
use Rattle.budget.specs.Task.{C, valid_tasks, no_task}
use Rattle.budget.proofs.DemandLaws.{jobs_work}
use Rattle.budget.proofs.Places.{from_place, valid_from}
use Rattle.budget.proofs.Valid.{ValidTask, task_valid}
use Rattle.budget.proofs.demand.units_due.Goals as goal
use Rattle.budget.proofs.demand.units_due.Goals.{In-loop-task}

module _ (c : In-loop-task) where
  abbrev tasks : List Task
  tasks = c.args.tasks.now

  abbrev here : Task
  here = get_or tasks c.loop-task.task-index no_task

  abbrev rest : List Task
  rest = drop (c.loop-task.task-index + 1) tasks

  abbrev asked : ℕ
  asked = jobs_by here c.args.at * C here

  valid : ValidTask here × (valid_tasks rest ≡ true)
  valid = valid_from tasks _ c.loop-task-test.true c.loop-task.invariant.1

  asked_bound : asked ≤ 2 * limit
  asked_bound = omega (arith, jobs_work here valid.0 c.args.at, c.requires.2)

  whole : demand tasks c.args.at ≡ c.loop-task.units + asked + demand rest c.args.at
  unfolding demand
  whole =
      c.loop-task.invariant.2
      ∙ ap (λ (ks : List Task). c.loop-task.units + demand ks c.args.at) (from_place tasks _ c.loop-task-test.true)
      ∙ sym (add_assoc _ _ _)

pub units_of-units-requires : goal.units_of-units-requires
units_of-units-requires c = (task_valid _ (valid (goal.at.units_of-units-requires c).In-loop-task).0, c.requires.2)

pub overflow_add-units : goal.overflow_add-units
overflow_add-units c =
    omega (arith, c.loop-task.invariant.0, c.loop-task-test.true, c.requires.0, c.units_of-units.ensures, asked_bound (goal.at.overflow_add-units c).In-loop-task)

pub loop-task-preserved : goal.loop-task-preserved
loop-task-preserved c =
    let t = (goal.at.loop-task-preserved c).In-loop-task in
    (omega (arith, c.units_of-units.ensures, asked_bound t), (valid t).1, rw c.units_of-units.ensures (whole t))

pub returns : goal.returns
unfolding demand
returns c =
    sym
    (c.loop-task.invariant.2
    ∙ ap (λ (ks : List Task). c.loop-task.units + demand ks c.args.at) (drop_of_length-le c.args.tasks.now {i = c.loop-task.task-index} c.loop-task-test.false)
    ∙ add-zero _)
