-- The miss that the walk answers is the first miss of the run, in the words of the run itself (`MissAt`): of every call that it takes.
use Rattle.std.specs.Prelude.{ℕ, ◌≤◌, ◌<◌, List, ◌≡◌, ℤ, length, get_or}
use Rattle.budget.specs.declared.task.Table.{Table}
use Rattle.budget.specs.declared.task.Task.{Task}
use Rattle.budget.specs.Refusal as refusal
use Rattle.budget.specs.Task.{tasks_of}
use Rattle.run.specs.Job.{Job, no_job}
use Rattle.run.specs.Run.{MissAt}
use Rattle.run.specs.Walk.{jobs_of, stop, walk_refusal, walk_answer}
use Rattle.run.specs.Walked.{Miss, None, At}

-- a job of task k misses at t, the trace reaches t, no job of a lower task misses then, and none misses earlier
pub record FirstMiss (ks : List Task) (js : List Job) (s : List ℕ) (t k : ℕ) : Type 0 where
  pub reached : t ≤ length s
  pub miss : MissAt ks js s t
  pub task : (get_or js miss.place no_job).task ≡ k
  pub lowest : (other : MissAt ks js s t) → k ≤ (get_or js other.place no_job).task
  pub earliest : (u : ℕ) → u < t → MissAt ks js s u → ⊥

-- no job misses up to the trace's end, a deadline at that instant judged too
abbrev pub NoMiss : List Task → List Job → List ℕ → Type 0
NoMiss ks js s = (u : ℕ) → u ≤ length s → MissAt ks js s u → ⊥

-- what a miss says of the run that stops at t
abbrev pub Says : List Task → List Job → List ℕ → ℕ → Miss → Type 0
Says ks js s t (At u k) = (u.0 ≡ t) × FirstMiss ks js s t k
Says ks js s t None = (t ≡ length s) × NoMiss ks js s

abbrev pub WalkTellsFirstMiss : Type 0
WalkTellsFirstMiss =
    (table : Table) (ts : List ℕ) (rs : List ℤ) (ready ws s : List ℕ) (room : ℕ) → walk_refusal table ts rs ready ws s room ≡ refusal.none
    → let ks = tasks_of table in
    let js = jobs_of ts rs ready ws in
    Says ks js s (stop ks js s) (walk_answer table ts rs ready ws s room).miss
