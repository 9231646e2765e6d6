-- Nothing is lost (RULES 9): each supplied slot is served or idle, and the work of all jobs is served or left; of what the walk answers, for
-- every call that it takes, and behind it of every run at every instant.
use Rattle.std.specs.Prelude.{ℕ, ◌+◌, true, List, [], ◌∷◌, map, ◌≡◌, ℤ, length, take}
use Rattle.budget.specs.declared.task.Table.{Table}
use Rattle.budget.specs.declared.task.Task.{Task}
use Rattle.budget.specs.Refusal as refusal
use Rattle.budget.specs.Task.{tasks_of}
use Rattle.trace.specs.Legal.{supplied, zeros_and_ones}
use Rattle.run.specs.Job.{Job}
use Rattle.run.specs.Run.{left_at}
use Rattle.run.specs.Walk.{jobs_of, served_before, idle_before, stop, walk_refusal, walk_answer, left_after}

-- all of a list of works
unfoldable pub total : List ℕ → ℕ
total [] = 0
total (w ∷ ws) = w + total ws

-- of every run at every instant
abbrev pub SlotsAreServedOrIdle : Type 0
SlotsAreServedOrIdle =
    (ks : List Task) (js : List Job) (s : List ℕ) → zeros_and_ones s ≡ true → (t : ℕ)
    → supplied (take t s) ≡ served_before ks js s t + idle_before ks js s t

abbrev pub WorkIsServedOrLeft : Type 0
WorkIsServedOrLeft =
    (ks : List Task) (js : List Job) (s : List ℕ) (t : ℕ) → total (map (λ j. j.work) js) ≡ served_before ks js s t + total (left_at ks js s t)

-- of what the walk answers and leaves in the buffer
pub record Conserved (table : Table) (ts : List ℕ) (rs : List ℤ) (ready ws s left : List ℕ) : Type 0 where
  pub slots : supplied (take (stop (tasks_of table) (jobs_of ts rs ready ws) s) s)
      ≡ (walk_answer table ts rs ready ws s (length left)).served.0 + (walk_answer table ts rs ready ws s (length left)).idle.0
  pub work : total ws ≡ (walk_answer table ts rs ready ws s (length left)).served.0 + total (left_after table ts rs ready ws s left)

abbrev pub WalkConserves : Type 0
WalkConserves =
    (table : Table) (ts : List ℕ) (rs : List ℤ) (ready ws s left : List ℕ) → walk_refusal table ts rs ready ws s (length left) ≡ refusal.none
    → Conserved table ts rs ready ws s left
