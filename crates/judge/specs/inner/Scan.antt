-- What a scan of the instants up to n, and the trial of one instant in it, are asked with: numbers in their ranges.
use Rattle.std.specs.Prelude.{ℕ, ◌*◌, ◌≤◌, ◌<◌, true, List, length, Option, Some, None, is_some, ◌≡◌}
use Rattle.budget.specs.declared.interface.Interface.{Interface}
use Rattle.budget.specs.declared.quantity.Time.{Time}
use Rattle.budget.specs.declared.task.Task.{Task}
use Rattle.budget.specs.Interface.{valid_interface}
use Rattle.budget.specs.Limits.{limit, most_tasks}
use Rattle.budget.specs.Task.{valid_tasks}
use Rattle.judge.specs.declared.margin.Tight.{Tight}
use Rattle.judge.specs.declared.steps.Step.{Step}

pub record Scannable (ks : List Task) (i : Interface) (n : ℕ) : Type 0 where
  pub few : length ks ≤ most_tasks
  pub tasks : valid_tasks ks ≡ true
  pub interface : valid_interface i ≡ true
  pub bounded : n ≤ limit

-- an interface and an instant at which its supply is not refused
pub record Supplied (i : Interface) (at : ℕ) : Type 0 where
  pub interface : valid_interface i ≡ true
  pub bounded : at ≤ limit

-- supply and demand of a step instant up to the limit
pub record Small (best : Tight) : Type 0 where
  pub units : best.units ≤ limit
  pub demand : best.demand ≤ most_tasks * (2 * limit)

-- the same of the tightest step instant so far, if there is one
abbrev pub SmallBest : Option Tight → Type 0
SmallBest None = Unit {0}
SmallBest (Some best) = Small best

-- the tightest instant so far and the one to be tried
pub record Triable (best : Option Tight) (i : Interface) (step : Step) : Type 0 where
  pub supplied : Supplied i step.at
  pub asked_fits : step.demand ≤ most_tasks * (2 * limit)
  pub best_fits : SmallBest best

-- where the tightest step instant so far is short, a first short one has been found
abbrev pub Telling : Option Time → Option Tight → Type 0
Telling short None = Unit {0}
Telling short (Some best) = best.units < best.demand → is_some short ≡ true
