-- Of a record that is taken the counts still fit, by what it was checked for.
use mathlib.Core.Path.{sym}
use borrow.Author.Rules.{rules}
use Rattle.sheet.proofs.JudgingLaws.{head_taken, task_taken}
use Rattle.sheet.proofs.judging.judge.Goals as goal

pub overflow_add-result : goal.overflow_add-result
overflow_add-result c = let few = (head_taken _ _ (sym c.in_ok-check_head-in-Component.ensures)).few in search rules

pub overflow_add-result-in-Task : goal.overflow_add-result-in-Task
overflow_add-result-in-Task c = let few = (task_taken _ _ _ (sym c.in_ok-check_standing-in-Task.ensures)).few in search rules
