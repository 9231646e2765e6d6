-- What one slot does. Only contracts of inner functions cite it: what the walk answers is in Walk.
use Rattle.std.specs.Prelude.{ℕ, List, ◌≡◌}
use Rattle.budget.specs.declared.task.Task.{Task}
use Rattle.run.specs.declared.scan.Given.{Given}
use Rattle.run.specs.declared.scan.Given.TheVariants.{Nothing, Served, Idle}
use Rattle.run.specs.Job.{Job}
use Rattle.run.specs.Run.{slot}
use Rattle.run.specs.Walk.{served_in, idle_in}

-- the units served and idle of what a slot gives
abbrev pub served_of : Given → ℕ
served_of Nothing = 0
served_of Served = 1
served_of Idle = 0

abbrev pub idle_of : Given → ℕ
idle_of Nothing = 0
idle_of Served = 0
idle_of Idle = 1

-- what slot n with trace byte b does: the work left before and after it, and what it gave
pub record Slotted (ks : List Task) (js : List Job) (n b : ℕ) (left after : List ℕ) (served idle : ℕ) : Type 0 where
  pub leaves : after ≡ slot ks js n b left
  pub serves : served ≡ served_in ks js n b left
  pub idles : idle ≡ idle_in ks js n b left
