-- No refusal has the number that stands for none, and no two have the same: by a way back from each number. So the numbers of an answer settle it.
use Prim.Native.Nat.{ℕ}
use mathlib.Core.Bool.{cond}
use mathlib.Core.Path.{◌≡◌, refl, sym, ◌∙◌, ap}
use native.Mathlib.Omega.{arith}
use lib.Dec.{eqb}
use Rattle.std.proofs.Common.{Ok, Err}
use Rattle.budget.specs.declared.refusal.Refusal.{Refusal}
use Rattle.budget.specs.Answered.{Amount, AmountsApart, CommonPeriod, CommonPeriodsApart}
use Rattle.budget.specs.Edit.{Edited, EditsApart}
use Rattle.budget.specs.Refusal as refusal
use Rattle.budget.specs.Refusal.{SomeNumber, NumbersApart}

pub some : SomeNumber
some Refusal.Cut e = omega (arith, e)
some Refusal.Kind e = omega (arith, e)
some Refusal.Length e = omega (arith, e)
some Refusal.NoComponent e = omega (arith, e)
some Refusal.Number e = omega (arith, e)
some Refusal.Tasks e = omega (arith, e)
some Refusal.Components e = omega (arith, e)
some Refusal.End e = omega (arith, e)
some Refusal.Range e = omega (arith, e)
some Refusal.Long e = omega (arith, e)
some Refusal.Room e = omega (arith, e)
some Refusal.Jobs e = omega (arith, e)
some Refusal.Trace e = omega (arith, e)
some Refusal.Sheet e = omega (arith, e)
some Refusal.Place e = omega (arith, e)
some Refusal.Pair e = omega (arith, e)
some Refusal.Common e = omega (arith, e)

-- the refusal of a number
abbrev named : ℕ → Refusal
named n =
    cond (eqb n 1) Refusal.Cut
    (cond (eqb n 2) Refusal.Kind
    (cond (eqb n 3) Refusal.Length
    (cond (eqb n 4) Refusal.NoComponent
    (cond (eqb n 5) Refusal.Number
    (cond (eqb n 6) Refusal.Tasks
    (cond (eqb n 7) Refusal.Components
    (cond (eqb n 8) Refusal.End
    (cond (eqb n 9) Refusal.Range
    (cond (eqb n 10) Refusal.Long
    (cond (eqb n 11) Refusal.Room
    (cond (eqb n 12) Refusal.Jobs
    (cond (eqb n 13) Refusal.Trace
    (cond (eqb n 14) Refusal.Sheet
    (cond (eqb n 15) Refusal.Place
    (cond (eqb n 16) Refusal.Pair
    Refusal.Common)))))))))))))))

back : (r : Refusal) → named (refusal.number_of r) ≡ r
back Refusal.Cut = refl
back Refusal.Kind = refl
back Refusal.Length = refl
back Refusal.NoComponent = refl
back Refusal.Number = refl
back Refusal.Tasks = refl
back Refusal.Components = refl
back Refusal.End = refl
back Refusal.Range = refl
back Refusal.Long = refl
back Refusal.Room = refl
back Refusal.Jobs = refl
back Refusal.Trace = refl
back Refusal.Sheet = refl
back Refusal.Place = refl
back Refusal.Pair = refl
back Refusal.Common = refl

pub numbers_apart : NumbersApart
numbers_apart a b e = sym (back a) ∙ ap named e ∙ back b

pub amounts_apart : AmountsApart
amounts_apart (Ok u) (Ok v) e = ap Ok (ap (λ (a : Amount). a.units) e)
amounts_apart (Ok u) (Err s) e = absurd (some s (sym (ap (λ (a : Amount). a.refusal) e)))
amounts_apart (Err r) (Ok v) e = absurd (some r (ap (λ (a : Amount). a.refusal) e))
amounts_apart (Err r) (Err s) e = ap Err (numbers_apart r s (ap (λ (a : Amount). a.refusal) e))

pub common_periods_apart : CommonPeriodsApart
common_periods_apart (Ok l) (Ok m) e = ap Ok (ap (λ (a : CommonPeriod). a.length) e)
common_periods_apart (Ok l) (Err s) e = absurd (some s (sym (ap (λ (a : CommonPeriod). a.refusal) e)))
common_periods_apart (Err r) (Ok m) e = absurd (some r (ap (λ (a : CommonPeriod). a.refusal) e))
common_periods_apart (Err r) (Err s) e = ap Err (numbers_apart r s (ap (λ (a : CommonPeriod). a.refusal) e))

pub edits_apart : EditsApart
edits_apart (Ok c) (Ok d) e = ap Ok (ap (λ (a : Edited). a.component) e)
edits_apart (Ok c) (Err s) e = absurd (some s (sym (ap (λ (a : Edited). a.refusal) e)))
edits_apart (Err r) (Ok d) e = absurd (some r (ap (λ (a : Edited). a.refusal) e))
edits_apart (Err r) (Err s) e = ap Err (numbers_apart r s (ap (λ (a : Edited). a.refusal) e))
