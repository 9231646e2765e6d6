-- The reply on one component (RULES 14), from what it is answered in its tree.
use Rattle.std.specs.Prelude.{ℕ, cond, List, ◌≡◌, eqb}
use Rattle.budget.specs.declared.component.Component.{Component}
use Rattle.budget.specs.Component.{component_refusal}
use Rattle.budget.specs.Refusal as refusal
use Rattle.judge.specs.numbers.Answer.{Answer}
use Rattle.judge.specs.numbers.Judged.{Judged}
use Rattle.judge.specs.numbers.Judged.{Refused, Answered}
use Rattle.judge.specs.declared.answer.Verdict.{Verdict}
use Rattle.judge.specs.declared.answer.Verdict.TheVariants as Variant
use Rattle.judge.specs.Answer.{judge_answer}
use Rattle.judge.specs.Judged.{code_of, instant_of}
use Rattle.judge.specs.Margin.{margin_of, margin_instant_of}
use Rattle.judge.specs.Signed.{signed_bits}
use Rattle.record.specs.declared.reply.Reply.{Reply}
use Rattle.transfer.specs.Reply.{reply_bytes}
use Rattle.transfer.specs.Writing.{room_refusal}
use Rattle.tree.specs.numbers.Outcome.{Outcome}

-- the capacity and the verdict of an answer; a refused component gets no reply, so what stands here for it is never written
abbrev pub capacity_in : Judged → ℕ
capacity_in (Refused n) = 0
capacity_in (Answered u v) = u.0

abbrev pub verdict_in : Judged → Verdict
verdict_in (Refused n) = Variant.None
verdict_in (Answered u v) = v

-- the fields in the reply's order; a margin instant of 0 stands where there is no margin
unfoldable pub judged_reply : ℕ → Answer → Reply
judged_reply number a =
    record {
      number = number;
      code = code_of (verdict_in a.verdict);
      capacity = record { 0 = capacity_in a.verdict };
      instant = record { 0 = instant_of (verdict_in a.verdict) };
      margin = signed_bits (margin_of a.margin);
      stands = record { 0 = margin_instant_of a.margin };
    }

-- a number and a code, and zeros behind them
abbrev pub bare_reply : ℕ → ℕ → Reply
bare_reply number code =
    record {
      number = number;
      code = code;
      capacity = record { 0 = 0 };
      instant = record { 0 = 0 };
      margin = 0;
      stands = record { 0 = 0 };
    }

-- one that waits has code 3
unfoldable pub reply_of : ℕ → Outcome → Reply
reply_of number Outcome.Waiting = bare_reply number 3
reply_of number (Outcome.Judged a) = judged_reply number a

-- the bytes of the reply on a component of this number
unfoldable pub reply_on : ℕ → Outcome → List ℕ
reply_on number o = reply_bytes (reply_of number o)

-- the refusal of what a component is answered; one that waits has none
abbrev pub refusal_in : Judged → ℕ
refusal_in (Refused n) = n
refusal_in (Answered u v) = refusal.none

abbrev pub refusal_of : Outcome → ℕ
refusal_of Outcome.Waiting = refusal.none
refusal_of (Outcome.Judged a) = refusal_in a.verdict

-- the component's own refusal comes before that of the room (RULES 13)
unfoldable pub answer_refusal : Outcome → ℕ → ℕ → ℕ
answer_refusal o room at = cond (eqb (refusal_of o) refusal.none) (room_refusal room at 24) (refusal_of o)

-- a component that is answered none has a number and a code, and zeros behind them
abbrev pub NoneIsZero : Type 0
NoneIsZero =
    (c : Component) → component_refusal c ≡ refusal.none → code_of (verdict_in (judge_answer c).verdict) ≡ 2
    → judged_reply c.number (judge_answer c) ≡ bare_reply c.number 2
