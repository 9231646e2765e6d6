-- The core of demand 3, step by step: first for any rule of service that serves urgent jobs first, then for earliest deadline first on any
-- tasks and interface in range.
use Rattle.std.specs.Prelude.{ℕ, ◌+◌, ◌≤◌, Bool, true, ◌&&◌, List, ◌≡◌, leb}
use Rattle.budget.specs.declared.interface.Interface.{Interface}
use Rattle.budget.specs.declared.task.Task.{Task}
use Rattle.budget.specs.Demand.{demand}
use Rattle.budget.specs.Interface.{valid_interface}
use Rattle.budget.specs.Supply.{supply}
use Rattle.budget.specs.Task.{valid_tasks}
use Rattle.judge.specs.Verdict.{Accepted, ShortAt}
use Rattle.run.specs.Job.{Job, legal_arrival}
use Rattle.run.specs.Run.{Rule, earliest_deadline}
use Rattle.trace.specs.Legal.{zeros_and_ones}
use Rattle.promises.specs.Demand3.{Misses, MissesFirstAt, NeverMisses, Run}
use Rattle.promises.specs.inner.Serving.{Flow, UrgentFirst, Window, asked, due_by, unit_of, waiting_at, work_of}

-- where the urgent jobs go first, the urgent work that waits is what arrives less what is given, and at each instant some window that ends
-- there balances
abbrev pub UrgentWork : Type 0
UrgentWork =
    (urgent : Job → Bool) (rule : Rule) (jobs : List Job) (trace : List ℕ) → UrgentFirst urgent jobs rule → zeros_and_ones trace ≡ true
    → Flow (waiting_at urgent rule jobs trace) (asked urgent jobs) (unit_of trace)

abbrev pub Balance : Type 0
Balance = (left work unit : ℕ → ℕ) → Flow left work unit → (n : ℕ) → Window left work unit n

-- earliest deadline first, the rule of the run, is such a rule, with the urgent jobs those due by any one instant
abbrev pub EarliestDeadlineFirst : Type 0
EarliestDeadlineFirst = (ks : List Task) (jobs : List Job) (t : ℕ) → UrgentFirst (due_by ks t) jobs (earliest_deadline ks jobs)

-- the work of the jobs that become ready at a or later and are due by a + u is at most the demand at u
abbrev pub WorkWithinDemand : Type 0
WorkWithinDemand =
    (ks : List Task) (jobs : List Job) → valid_tasks ks ≡ true → legal_arrival ks jobs ≡ true → (a u : ℕ)
    → work_of (λ j. leb a j.ready && due_by ks (a + u) j) jobs ≤ demand ks u

-- no run misses at t where demand is at most supply up to t
abbrev pub NoMissWhileFitting : Type 0
NoMissWhileFitting =
    (ks : List Task) (i : Interface) → valid_tasks ks ≡ true → valid_interface i ≡ true
    → (t : ℕ) → ((u : ℕ) → 1 ≤ u → u ≤ t → demand ks u ≤ supply i u) → (run : Run ks i) → Misses ks i run t → ⊥

abbrev pub AcceptedNeverMisses : Type 0
AcceptedNeverMisses = (ks : List Task) (i : Interface) → valid_tasks ks ≡ true → valid_interface i ≡ true → Accepted ks i → NeverMisses ks i

abbrev pub ShortMissesThen : Type 0
ShortMissesThen =
    (ks : List Task) (i : Interface) → valid_tasks ks ≡ true → valid_interface i ≡ true → (t : ℕ) → ShortAt ks i t → MissesFirstAt ks i t
