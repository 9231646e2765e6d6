-- Supply in range is computed without overflow and as defined: the whole periods take no more slots than lie behind the wait, so the rest is what they leave, and every product is within the limit.
use Prim.Native.Nat.{ℕ, ◌+◌, ◌-◌, ◌*◌, ◌≤◌, ◌<◌}
use mathlib.Core.Path.{◌≡◌, sym}
use native.Mathlib.Nat.{mul-le-mul_left, le_of_lt, sub-eq-zero_of_le, add-zero}
use native.Mathlib.Omega.{arith}
use Rattle.budget.specs.Interface.{Π, Θ, Δ}
use Rattle.budget.specs.Supply.{supply, whole_periods}
use Rattle.budget.specs.declared.interface.Interface.{Interface}
use Rattle.budget.proofs.SupplyLaws.{fitting, whole_fits, supply_by_rest}
use Rattle.budget.proofs.Tests.{tests}
use Rattle.budget.proofs.Valid.{ValidInterface, valid_interface_lem}
use Rattle.budget.proofs.supply.units_by.Goals as goal
use Rattle.budget.proofs.supply.units_by.Goals.{Start}

module _ (s : Start) where
  abbrev i : Interface
  i = s.args.interface

  abbrev whole : ℕ
  whole = whole_periods i s.args.at

  in_range : ValidInterface i
  in_range = valid_interface_lem i s.requires.in_range

  -- the whole periods take no more slots than lie behind the wait, and their capacities no more than they
  bounds : (whole * Π i ≤ s.args.at - (Δ i - Θ i)) × (whole * Θ i ≤ whole * Π i)
  bounds = (whole_fits i in_range s.args.at, mul-le-mul_left whole (fitting i in_range))

  abbrev rest : ℕ
  rest = s.args.at - (Δ i - Θ i) - whole * Π i

  units : supply i s.args.at ≡ whole * Θ i + (rest - (Π i - Θ i))
  units = supply_by_rest i in_range s.args.at

  -- within the pause the whole periods are all there is
  paused : rest < Π i - Θ i → supply i s.args.at ≡ whole * Θ i
  paused h = rw (units, sub-eq-zero_of_le (le_of_lt h)) (add-zero _)

pub overflow_sub-wait : goal.overflow_sub-wait
overflow_sub-wait c = omega (arith, in_range c)

pub nonzero_div-whole : goal.nonzero_div-whole
nonzero_div-whole c = omega (arith, in_range (goal.at.nonzero_div-whole c).Start)

pub overflow_mul-rest : goal.overflow_mul-rest
unfolding whole_periods
overflow_mul-rest c = omega (arith, bounds (goal.at.overflow_mul-rest c).Start)

pub overflow_sub-rest : goal.overflow_sub-rest
unfolding whole_periods
overflow_sub-rest c = omega (arith, bounds (goal.at.overflow_sub-rest c).Start)

pub overflow_sub-pause : goal.overflow_sub-pause
overflow_sub-pause c = omega (arith, in_range (goal.at.overflow_sub-pause c).Start)

pub overflow_mul-units : goal.overflow_mul-units
unfolding whole_periods
overflow_mul-units c = omega (arith, bounds (goal.at.overflow_mul-units c).Start)

pub returns-then-rest-pause : goal.returns-then-rest-pause
unfolding whole_periods
returns-then-rest-pause c = sym (paused (goal.at.returns-then-rest-pause c).Start (omega (arith, c.if-rest-pause.true, in_range (goal.at.returns-then-rest-pause c).Start)))

pub overflow_add-result : goal.overflow_add-result
unfolding whole_periods
overflow_add-result c = omega (arith, bounds (goal.at.overflow_add-result c).Start)

pub returns : goal.returns
unfolding whole_periods
returns c = sym (units (goal.at.returns c).Start)

pub returns-then-at-wait : goal.returns-then-at-wait
unfolding supply
returns-then-at-wait c = search tests
