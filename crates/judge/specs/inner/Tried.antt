-- What trying one instant does to what a scan has found, what a scan finds, and what is read from it in the end.
use Rattle.std.specs.Prelude.{ℕ, ◌+◌, cond, ltb, eqb, List, Option, Some, None}
use Rattle.std.specs.Option.{option_or}
use Rattle.std.proofs.Math.IntN.{sub_ℕ}
use Rattle.budget.specs.declared.interface.Interface.{Interface}
use Rattle.budget.specs.declared.quantity.Time.{Time}
use Rattle.budget.specs.declared.task.Task.{Task}
use Rattle.budget.specs.Demand.{demand}
use Rattle.budget.specs.Supply.{supply}
use Rattle.judge.specs.declared.answer.Margin.{Margin}
use Rattle.judge.specs.declared.answer.Verdict.{Verdict}
use Rattle.judge.specs.declared.margin.Tight.{Tight}
use Rattle.judge.specs.declared.steps.Step.{Step}
use Rattle.judge.specs.Margin.{tight_instant}
use Rattle.judge.specs.Verdict.{accepts, first_short}

-- the first short instant, once a later one with these units and this demand has been tried
unfoldable pub sooner_short : Option Time → ℕ → ℕ → ℕ → Option Time
sooner_short short at units asked = cond (ltb units asked) (option_or short (Some (record { 0 = at }))) short

-- the same for an instant of a scan, which counts if demand rises there
unfoldable pub short_tried : Option Time → Interface → Step → Option Time
short_tried short i s = cond (ltb s.before s.demand) (sooner_short short s.at (supply i s.at) s.demand) short

-- the first short instant from 1 to n
unfoldable pub short_on : List Task → Interface → ℕ → Option Time
short_on ks i n = cond (accepts ks i n) None (Some (record { 0 = first_short ks i n }))

-- the tighter of the tightest step instant so far and a later one, the first of equals
unfoldable pub tighter_of : Option Tight → Tight → Tight
tighter_of None here = here
tighter_of (Some best) here = cond (ltb (here.units + best.demand) (best.units + here.demand)) here best

-- the tightest step instant, once an instant of a scan has been tried
unfoldable pub tight_tried : Option Tight → Interface → Step → Option Tight
tight_tried best i s =
    cond (ltb s.before s.demand) (Some (tighter_of best (record { at = s.at; units = supply i s.at; demand = s.demand }))) best

-- the tightest step instant from 1 to n
unfoldable pub tight_on : List Task → Interface → ℕ → Option Tight
tight_on ks i n =
    let t = tight_instant ks i n in
    cond (eqb t 0) None (Some (record { at = t; units = supply i t; demand = demand ks t }))

-- the verdict, from the first short instant
unfoldable pub verdict_from : Option Time → Verdict
verdict_from None = Verdict.Accepted
verdict_from (Some t) = Verdict.Short t

-- the margin, from the tightest step instant
unfoldable pub margin_from : Option Tight → Option Margin
margin_from None = None
margin_from (Some best) = Some (record { units = sub_ℕ best.units best.demand; at = record { 0 = best.at } })
