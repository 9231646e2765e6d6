-- Tasks are refused as defined: the first one out of range refuses them, and in range they all are where the one at the place and those after it are.
use Prim.Native.Nat.{◌+◌}
use mathlib.Core.Path.{◌≡◌, sym, ◌∙◌, ap}
use mathlib.Core.Bool.{true, false, ◌&&◌}
use lib.ListN.{get_or, drop, drop_of_length-le}
use Rattle.std.proofs.lemmas.Result.{err_from_is_err_and}
use Rattle.budget.specs.declared.task.Task.{Task}
use Rattle.budget.specs.Task.{task_refusal, valid_task, valid_tasks, no_task}
use Rattle.budget.proofs.Answers.{passed, failed}
use Rattle.budget.proofs.Places.{from_place}
use Rattle.budget.proofs.Refusals.{some}
use Rattle.budget.proofs.task.check_tasks.Goals as goal
use Rattle.budget.proofs.task.check_tasks.Goals.{In-loop-task}

abbrev here : In-loop-task → Task
here c = get_or c.args.tasks.now c.loop-task.task-index no_task

step : (c : In-loop-task) → let ks = c.args.tasks.now in valid_tasks ks ≡ (valid_task (here c) && valid_tasks (drop (c.loop-task.task-index + 1) ks))
unfolding valid_tasks
step c = c.loop-task.invariant ∙ ap valid_tasks (from_place c.args.tasks.now _ c.loop-task-test.true)

pub returns-in_err-check_task : goal.returns-in_err-check_task
unfolding task_refusal
returns-in_err-check_task c =
    let t = (goal.at.returns-in_err-check_task c).In-loop-task in
    let p = err_from_is_err_and c.from_residual.result c.from_residual.ensures.1 in
    let e = c.in_err-check_task.ensures in
    let out : valid_task (here t) ≡ false = failed (valid_task (here t)) (λ z. some c.in_err-check_task.field-0.0 (e ∙ z)) in
    rw (p.1, p.2, e, step t, out)

pub loop-task-preserved : goal.loop-task-preserved
unfolding task_refusal
loop-task-preserved c =
    let t = (goal.at.loop-task-preserved c).In-loop-task in
    let in_range : valid_task (here t) ≡ true = passed (valid_task (here t)) (sym c.in_ok-check_task.ensures) in
    rw in_range at (step t)

pub returns : goal.returns
unfolding valid_tasks
returns c = rw (c.loop-task.invariant, drop_of_length-le c.args.tasks.now {i = c.loop-task.task-index} c.loop-task-test.false)
