-- Three numbers, and what is left behind them: by the component's refusal its reply, or zeros.
use native.Mathlib.Omega.{arith}
use mathlib.Core.Path.{◌≡◌, sym, ◌∙◌}
use lib.ListN.{length-drop}
use Rattle.budget.proofs.Refusals.{some}
use Rattle.jougsilver.specs.Answer.{refusal_of, reply_on}
use Rattle.tree.specs.Outcome.{outcome_in}
use Rattle.record.proofs.StoreLaws.{lent}
use Rattle.jougsilver.proofs.EntryLaws.{half_long, reply_put, zeros_put}
use Rattle.jougsilver.proofs.all.put_entry.Goals as goal
use Rattle.jougsilver.proofs.all.put_entry.Goals.{After-write_numbers}

first : (c : After-write_numbers) → c.number_in-first.result ≡ refusal_of (outcome_in c.args.placed.outcome)
first c = c.number_in-first.ensures ∙ c.reply_of-reply.ensures.refusal

pub returns-in-Ok : goal.returns-in-Ok
unfolding reply_on
returns-in-Ok c =
    let a = c.args in
    let e = rw (first (goal.at.returns-in-Ok c).After-write_numbers, c.from.ensures) at c.write_numbers.ensures.bytes in
    reply_put a.entry.now a.placed.number a.byte (outcome_in a.placed.outcome) c.requires.0 e (sym c.in-Ok.ensures.refusal) (rw c.in-Ok.ensures.reply at c.write_reply.ensures.bytes)

pub returns-in-Err : goal.returns-in-Err
returns-in-Err c =
    let a = c.args in
    let e = rw (first (goal.at.returns-in-Err c).After-write_numbers, c.from.ensures) at c.write_numbers.ensures.bytes in
    let long = half_long a.entry.now a.placed.number a.byte (outcome_in a.placed.outcome) c.requires.0 e in
    zeros_put a.entry.now a.placed.number a.byte (outcome_in a.placed.outcome) c.requires.0 e (λ z. some c.in-Err.field-0 (c.in-Err.ensures.refusal ∙ z))
    _ _ (omega arith) (simp (lent, length-drop) (omega arith)) (c.fill.ensures.after (λ y e. e))
