-- No two answers of the code have the same numbers: each is said back from what it is read as, and a refusal has a number that no judgement has.
use Prim.Native.Nat.{ℕ}
use mathlib.Core.Path.{◌≡◌, refl, sym, ap, ◌∙◌}
use Rattle.std.proofs.Common.{Ok, Err}
use Rattle.std.specs.Prelude.{Option, Some, None}
use Rattle.budget.specs.declared.quantity.Units.{Units}
use Rattle.budget.proofs.Refusals.{some, numbers_apart}
use Rattle.judge.specs.declared.answer.Judgement.{Judgement}
use Rattle.judge.specs.declared.answer.Margin.{Margin}
use Rattle.judge.specs.declared.answer.Verdict.{Verdict}
use Rattle.judge.specs.numbers.Answer.{Answer}
use Rattle.judge.specs.numbers.Judged.{Judged}
use Rattle.judge.specs.numbers.Margined.{Margined}
use Rattle.judge.specs.numbers.Smallest.{Smallest}
use Rattle.judge.specs.Answer.{AnswersApart}
use Rattle.judge.specs.Capacity.{CapacitiesApart}
use Rattle.judge.specs.Margin.{margin_in}

-- the code's margin, capacity and verdict of what is read
abbrev margin : Margined → Option Margin
margin (Margined.Refused n) = None
margin (Margined.Least m t) = Some (record { units = m; at = t })
margin Margined.None = None

abbrev capacity : Judged → Units
capacity (Judged.Refused n) = record { 0 = 0 }
capacity (Judged.Answered q v) = q

abbrev verdict : Judged → Verdict
verdict (Judged.Refused n) = Verdict.None
verdict (Judged.Answered q v) = v

-- the refusal's number, or 0
abbrev number : Judged → ℕ
number (Judged.Refused n) = n
number (Judged.Answered q v) = 0

back : (m : Option Margin) → margin (margin_in m) ≡ m
back None = refl
back (Some m) = refl

abbrev given : Answer → Judgement
given a = record { capacity = capacity a.verdict; verdict = verdict a.verdict; margin = margin a.margin }

again : (j : Judgement) → record { capacity = j.capacity; verdict = j.verdict; margin = margin (margin_in j.margin) } ≡ j
again j = ap (λ (m : Option Margin). record { capacity = j.capacity; verdict = j.verdict; margin = m }) (back j.margin)

pub answers_apart : AnswersApart
answers_apart (Ok i) (Ok j) e = ap Ok (sym (again i) ∙ ap given e ∙ again j)
answers_apart (Ok i) (Err s) e = absurd (some s (sym (ap (λ (a : Answer). number a.verdict) e)))
answers_apart (Err r) (Ok j) e = absurd (some r (ap (λ (a : Answer). number a.verdict) e))
answers_apart (Err r) (Err s) e = ap Err (numbers_apart r s (ap (λ (a : Answer). number a.verdict) e))

-- the code's capacity of what is read, and the refusal's number, or 0
abbrev found : Smallest → Option Units
found (Smallest.Refused n) = None
found (Smallest.Found u) = Some u
found Smallest.None = None

abbrev refused : Smallest → ℕ
refused (Smallest.Refused n) = n
refused (Smallest.Found u) = 0
refused Smallest.None = 0

pub capacities_apart : CapacitiesApart
capacities_apart (Ok (Some u)) (Ok (Some v)) e = ap Ok (ap found e)
capacities_apart (Ok (Some u)) (Ok None) e = ap Ok (ap found e)
capacities_apart (Ok None) (Ok (Some v)) e = ap Ok (ap found e)
capacities_apart (Ok None) (Ok None) e = refl
capacities_apart (Ok (Some u)) (Err s) e = absurd (some s (sym (ap refused e)))
capacities_apart (Ok None) (Err s) e = absurd (some s (sym (ap refused e)))
capacities_apart (Err r) (Ok (Some v)) e = absurd (some r (ap refused e))
capacities_apart (Err r) (Ok None) e = absurd (some r (ap refused e))
capacities_apart (Err r) (Err s) e = ap Err (numbers_apart r s (ap refused e))
