-- Demand 3: what an answer of the judge says of every run, and the run that shows a short answer right (RULES 7, 9).
use Rattle.std.specs.Prelude.{ℕ, ◌≤◌, ◌<◌, true, List, map, ◌≡◌, length}
use Rattle.budget.specs.declared.component.Capacity.{Capacity}
use Rattle.budget.specs.declared.component.Capacity.TheVariants.{Asked, Stated}
use Rattle.budget.specs.declared.component.Component.{Component}
use Rattle.budget.specs.declared.interface.Interface.{Interface}
use Rattle.budget.specs.declared.quantity.Units.{Units}
use Rattle.budget.specs.declared.task.Task.{Task}
use Rattle.budget.specs.Component.{component_refusal, interface_at}
use Rattle.budget.specs.Interface.{Π}
use Rattle.budget.specs.Refusal as refusal
use Rattle.budget.specs.Task.{tasks_of}
use Rattle.judge.specs.numbers.Judged.{Judged}
use Rattle.judge.specs.numbers.Judged.{Answered, Refused}
use Rattle.judge.specs.numbers.Smallest.{Smallest}
use Rattle.judge.specs.numbers.Smallest as Search
use Rattle.judge.specs.declared.answer.Verdict.TheVariants as Variant
use Rattle.judge.specs.Capacity.{capacity_answer}
use Rattle.judge.specs.Judged.{verdict_answer}
use Rattle.judge.specs.Verdict.{Accepted, ShortAt}
use Rattle.run.specs.Job.{Job, legal_arrival}
use Rattle.run.specs.Run.{MissAt}
use Rattle.trace.specs.Legal.{Legal, zeros_and_ones}
use Rattle.trace.specs.WorstTrace.{worst_offset, worst_trace}
use Rattle.promises.specs.Synchronous.{synchronous}

-- a run: jobs that arrive legally, and a legal trace, both of any length; nothing waits as it begins, as no job is ready before slot 0
pub record Run (ks : List Task) (i : Interface) : Type 0 where
  pub jobs : List Job
  pub offset : ℕ
  pub trace : List ℕ
  pub arrival : legal_arrival ks jobs ≡ true
  pub bits : zeros_and_ones trace ≡ true
  pub below : offset < Π i
  pub legal : Legal i offset trace

-- the run misses a deadline at t, at an instant that its trace reaches
pub record Misses (ks : List Task) (i : Interface) (run : Run ks i) (t : ℕ) : Type 0 where
  pub reached : t ≤ length run.trace
  pub miss : MissAt ks run.jobs run.trace t

-- what accepted says: there is no run in which a job misses its deadline
abbrev pub NeverMisses : List Task → Interface → Type 0
NeverMisses ks i = (run : Run ks i) (t : ℕ) → Misses ks i run t → ⊥

-- arrivals that differ at most in the slots in which their jobs become ready
pub record SameReleases (a b : List Job) : Type 0 where
  pub tasks : map (λ j. j.task) a ≡ map (λ j. j.task) b
  pub releases : map (λ j. j.release) a ≡ map (λ j. j.release) b
  pub works : map (λ j. j.work) a ≡ map (λ j. j.work) b

-- what short says: here is a run that misses at t, the synchronous arrival on the worst trace; so does every run on that trace with the same
-- releases, whenever its jobs become ready; and no run misses before t
pub record MissesFirstAt (ks : List Task) (i : Interface) (t : ℕ) : Type 0 where
  pub run : Run ks i
  pub jobs : run.jobs ≡ synchronous ks t
  pub offset : run.offset ≡ worst_offset i
  pub trace : run.trace ≡ worst_trace i t
  pub misses : Misses ks i run t
  pub whenever_ready : (other : Run ks i) → SameReleases other.jobs run.jobs → other.trace ≡ run.trace → Misses ks i other t
  pub earliest : (other : Run ks i) (u : ℕ) → u < t → Misses ks i other u → ⊥

-- q is accepted for the component's period and deadline, and every smaller capacity is short
pub record SmallestAccepted (c : Component) (q : ℕ) : Type 0 where
  pub within : q ≤ c.deadline.0
  pub accepted : Accepted (tasks_of c.table) (interface_at c q)
  pub smaller : (r : ℕ) → r < q → (t : ℕ) × ShortAt (tasks_of c.table) (interface_at c r) t

-- even the largest capacity, the deadline itself, is short
abbrev pub DeadlineShort : Component → Type 0
DeadlineShort c = (t : ℕ) × ShortAt (tasks_of c.table) (interface_at c c.deadline.0) t

-- what the search for a capacity says: one that is found is the smallest, and there is none exactly if even the largest is short
abbrev pub CapacityPromise : Component → Smallest → Type 0
CapacityPromise c (Search.Refused n) = ⊥
CapacityPromise c (Search.Found q) = SmallestAccepted c q.0 × (DeadlineShort c → ⊥)
CapacityPromise c Search.None = DeadlineShort c

-- what the judge says on a stated capacity: accepted or short, with that capacity, and no other answer
abbrev pub StatedPromise : Component → Units → Judged → Type 0
StatedPromise c u (Refused n) = ⊥
StatedPromise c u (Answered q Variant.Accepted) = (q ≡ u) × NeverMisses (tasks_of c.table) (interface_at c u.0)
StatedPromise c u (Answered q (Variant.Short t)) = (q ≡ u) × MissesFirstAt (tasks_of c.table) (interface_at c u.0) t.0
StatedPromise c u (Answered q Variant.None) = ⊥

-- what the judge says on an asked capacity: accepted, with the smallest one, or none
abbrev pub AskedPromise : Component → Judged → Type 0
AskedPromise c (Refused n) = ⊥
AskedPromise c (Answered q Variant.Accepted) =
    SmallestAccepted c q.0 × (DeadlineShort c → ⊥) × NeverMisses (tasks_of c.table) (interface_at c q.0)
AskedPromise c (Answered q (Variant.Short t)) = ⊥
AskedPromise c (Answered q Variant.None) = DeadlineShort c

abbrev pub Promise : Component → Capacity → Judged → Type 0
Promise c (Stated u) = StatedPromise c u
Promise c Asked = AskedPromise c

-- of every component that is not refused, so in its ranges and with a common period within the limit
abbrev pub Demand3 : Type 0
Demand3 = (c : Component) → component_refusal c ≡ refusal.none → Promise c c.capacity (verdict_answer c) × CapacityPromise c (capacity_answer c)
