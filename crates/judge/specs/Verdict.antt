-- The verdict: accepted, or short with its first short instant (RULES 7).
use Rattle.std.specs.Prelude.{ℕ, suc, ◌≤◌, ◌<◌, Bool, cond, List, ltb}
use Rattle.budget.specs.declared.interface.Interface.{Interface}
use Rattle.budget.specs.declared.task.Task.{Task}
use Rattle.budget.specs.Demand.{demand}
use Rattle.budget.specs.Supply.{supply}
use Rattle.judge.specs.declared.answer.Verdict.TheVariants as Variant
use Rattle.judge.specs.declared.answer.Verdict.{Verdict}
use Rattle.judge.specs.Search.{smallest}

-- accepted: short at no instant from 1 on
unfoldable pub Accepted : List Task → Interface → Type 0
Accepted ks i = (t : ℕ) → 1 ≤ t → demand ks t ≤ supply i t

-- short, and t is the first instant at which demand is above supply
pub record ShortAt (ks : List Task) (i : Interface) (t : ℕ) : Type 0 where
  pub some : 1 ≤ t
  pub short : supply i t < demand ks t
  pub first : (u : ℕ) → 1 ≤ u → u < t → demand ks u ≤ supply i u

-- what each verdict on a stated capacity says; none is no answer there
abbrev pub Judgement : List Task → Interface → Verdict → Type 0
Judgement ks i Variant.Accepted = Accepted ks i
Judgement ks i (Variant.Short t) = ShortAt ks i t.0
Judgement ks i Variant.None = ⊥

-- demand exceeds supply at t
unfoldable pub is_short : List Task → Interface → ℕ → Bool
is_short ks i t = ltb (supply i t) (demand ks t)

-- the first short instant from 1 to n, or n + 1 where there is none
unfoldable pub first_short : List Task → Interface → ℕ → ℕ
first_short ks i n = suc (smallest (λ u. is_short ks i (suc u)) n)

-- there is no short instant from 1 to n
unfoldable pub accepts : List Task → Interface → ℕ → Bool
accepts ks i n = ltb n (first_short ks i n)

-- the verdict on a stated capacity, worked out over the instants up to L, which has the first short one if there is any
unfoldable pub verdict_on : List Task → Interface → ℕ → Verdict
verdict_on ks i l = cond (accepts ks i l) Variant.Accepted (Variant.Short (record { 0 = first_short ks i l }))
