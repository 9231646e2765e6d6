-- Demand 3, and the statements of its core: what was shown of the run, of demand and of the worst trace, put together.
use Prim.Native.Nat.{ℕ, ◌+◌, ◌≤◌, ◌<◌}
use mathlib.Core.Bool.{Bool, cond, false, true}
use mathlib.Core.List.{List, [], ◌∷◌}
use mathlib.Core.Path.{◌≡◌, refl, sym, subst, ◌∙◌}
use lib.Dec.{leb}
use lib.ListN.{length}
use borrow.Author.Tests.{eq-eqb, leb-false, leb-true}
use native.Mathlib.Decide.{dec_lt}
use native.Mathlib.Nat.{add-sub_cancel_left, le-add_right, le_of_eq, le_refl, le_trans, not-le_of_lt}
use native.Mathlib.Omega.{arith}
use Rattle.budget.specs.declared.component.Capacity.{Capacity}
use Rattle.budget.specs.declared.component.Capacity.TheVariants.{Asked, Stated}
use Rattle.budget.specs.declared.component.Component.{Component}
use Rattle.budget.specs.declared.interface.Interface.{Interface}
use Rattle.budget.specs.declared.quantity.Units.{Units}
use Rattle.budget.specs.declared.task.Task.{Task}
use Rattle.budget.specs.Component.{common_period_of, interface_at, interface_of, units_of}
use Rattle.budget.specs.Interface.{valid_interface}
use Rattle.budget.specs.Supply.{supply}
use Rattle.budget.specs.Task.{tasks_of, valid_tasks}
use Rattle.budget.proofs.Ranges.{unrefused}
use Rattle.budget.proofs.Valid.{valid_interface_lem}
use Rattle.judge.specs.numbers.Judged.{Answered}
use Rattle.judge.specs.numbers.Smallest as Search
use Rattle.judge.specs.declared.answer.Verdict.TheVariants as Variant
use Rattle.judge.specs.declared.answer.Verdict.{Verdict}
use Rattle.judge.specs.Capacity.{capacity_answer, capacity_of}
use Rattle.judge.specs.Judged.{judged_at, verdict_answer}
use Rattle.judge.specs.Verdict.{Accepted, Judgement, ShortAt, verdict_on}
use Rattle.judge.proofs.CapacityLaws.{capacity_valid}
use Rattle.judge.proofs.VerdictLaws.{verdict_right}
use Rattle.run.specs.Job.{Job, deadline, task_of}
use Rattle.run.specs.Run.{MissAt}
use Rattle.trace.specs.Units.{units}
use Rattle.trace.proofs.Units.{supplied_part}
use Rattle.trace.proofs.Windows.{window_units}
use Rattle.trace.specs.WorstTrace.{worst_offset, worst_trace}
use Rattle.trace.proofs.WorstTrace.{worst_bits, worst_legal, worst_length, worst_prefix, worst_within}
use Rattle.promises.specs.Demand3.{AskedPromise, CapacityPromise, Demand3, Misses, Promise, Run, SameReleases, StatedPromise}
use Rattle.promises.specs.inner.Core.{AcceptedNeverMisses, Balance, EarliestDeadlineFirst, NoMissWhileFitting, ShortMissesThen, UrgentWork, WorkWithinDemand}
use Rattle.promises.specs.inner.Serving.{due_by, unit_of, work_of}
use Rattle.promises.specs.Synchronous.{synchronous}
use Rattle.promises.proofs.Capacity.{least_accepted, short_none, smaller_short}
use Rattle.promises.proofs.DemandBound as DemandBound
use Rattle.promises.proofs.EarliestDeadline.{earliest_first}
use Rattle.promises.proofs.NoMiss.{late_by, no_miss, too_few}
use Rattle.promises.proofs.Serving.{flow}
use Rattle.promises.proofs.Synchronous.{synchronous_asks, synchronous_legal}
use Rattle.promises.proofs.Window.{window}

pub urgent_work : UrgentWork
urgent_work urgent rule jobs trace first bits = flow rule jobs trace urgent first bits

pub balance : Balance
balance = window

pub earliest_deadline_first : EarliestDeadlineFirst
earliest_deadline_first = earliest_first

pub work_within_demand : WorkWithinDemand
work_within_demand = DemandBound.work_within_demand

pub no_miss_while_fitting : NoMissWhileFitting
no_miss_while_fitting ks i tasks interface t fits run m =
    no_miss ks tasks run.jobs run.arrival run.trace run.bits i t fits
    (λ a n h.
    rw (add-sub_cancel_left a n)
    at (window_units i (valid_interface_lem i interface) run.offset run.trace run.bits run.legal a (a + n) (le-add_right a n) (le_trans h m.reached)))
    m.miss

pub accepted_never_misses : AcceptedNeverMisses
unfolding Accepted
accepted_never_misses ks i tasks interface accepted run t m = no_miss_while_fitting ks i tasks interface t (λ u some h. accepted u some) run m

-- a miss found by t is at t, as none misses earlier
exactly : (ks : List Task) (i : Interface) (run : Run ks i) (t : ℕ) → t ≤ length run.trace → ((u : ℕ) → u < t → Misses ks i run u → ⊥)
    → (u : ℕ) → u ≤ t → MissAt ks run.jobs run.trace u → Misses ks i run t
exactly ks i run t reached none u h m = go (dec_lt u t)
  where
    go : Dec (u < t) → Misses ks i run t
    go (yes l) = absurd (none u l (record { reached = le_trans h reached; miss = m }))
    go (no l) =
        let same : u ≡ t = omega arith in
        record { reached = reached; miss = subst (MissAt ks run.jobs run.trace) same m }

-- the work due by an instant goes by tasks, releases and works, so it is the same whenever the jobs become ready
same_work : (ks : List Task) (t : ℕ) (a b : List Job) → SameReleases a b → work_of (due_by ks t) a ≡ work_of (due_by ks t) b
unfolding work_of due_by deadline task_of
same_work ks t [] [] s = refl
same_work ks t [] (y ∷ b) s = absurd (let z : ◌≡◌ {A = ℕ} 0 1 = cc s.tasks in omega arith)
same_work ks t (x ∷ a) [] s = absurd (let z : ◌≡◌ {A = ℕ} 0 1 = cc s.tasks in omega arith)
same_work ks t (x ∷ a) (y ∷ b) s =
    let task : x.task ≡ y.task = cc s.tasks in
    let release : x.release ≡ y.release = cc s.releases in
    let work : x.work ≡ y.work = cc s.works in
    let rest = same_work ks t a b (record { tasks = cc s.tasks; releases = cc s.releases; works = cc s.works }) in
    rw (task, release, work, rest)

module _ (ks : List Task) (i : Interface) (tasks : valid_tasks ks ≡ true) (interface : valid_interface i ≡ true) where
  -- the run that misses
  abbrev missing : ℕ → Run ks i
  missing t =
      let v = valid_interface_lem i interface in
      record {
        jobs = synchronous ks t;
        offset = worst_offset i;
        trace = worst_trace i t;
        arrival = synchronous_legal ks tasks t;
        bits = worst_bits i v t;
        below = worst_within i v;
        legal = worst_legal i v t;
      }

  -- its trace gives exactly the supply
  given : (t : ℕ) → units (unit_of (worst_trace i t)) 0 t ≡ supply i t
  given t = sym (supplied_part (worst_trace i t) 0 t) ∙ worst_prefix i (valid_interface_lem i interface) t t (le_refl t)

  none_earlier : (t : ℕ) → ShortAt ks i t → (run : Run ks i) (u : ℕ) → u < t → Misses ks i run u → ⊥
  none_earlier t short run u l m = no_miss_while_fitting ks i tasks interface u (λ w some h. short.first w some (omega arith)) run m

  -- every run with its releases and its trace misses, so it does too
  it_misses : (t : ℕ) → ShortAt ks i t → (run : Run ks i) → SameReleases run.jobs (synchronous ks t) → run.trace ≡ worst_trace i t → Misses ks i run t
  it_misses t short run same on =
      let more = short.short in
      let supplied : units (unit_of run.trace) 0 t ≡ supply i t = rw on (given t) in
      let few : units (unit_of run.trace) 0 t < work_of (due_by ks t) run.jobs = omega (arith, same_work ks t run.jobs (synchronous ks t) same, synchronous_asks ks tasks t) in
      let late = late_by ks tasks run.jobs run.arrival run.trace run.bits t (too_few ks tasks run.jobs run.arrival run.trace run.bits t few) in
      let reached : t ≤ length run.trace = rw on (le_of_eq (sym (worst_length i (valid_interface_lem i interface) t))) in
      exactly ks i run t reached (none_earlier t short run) late.0 late.1 late.2

pub short_misses_then : ShortMissesThen
short_misses_then ks i tasks interface t short =
    let every = it_misses ks i tasks interface t short in
    let run = missing ks i tasks interface t in
    record {
      run = run;
      jobs = refl;
      offset = refl;
      trace = refl;
      misses = every run (record { tasks = refl; releases = refl; works = refl }) refl;
      whenever_ready = every;
      earliest = none_earlier ks i tasks interface t short;
    }

-- the judge's answer, for a stated and for an asked capacity
module _ (c : Component) (tasks : valid_tasks (tasks_of c.table) ≡ true) (a : ℕ) (range : valid_interface (interface_at c a) ≡ true) where
  on_stated : (u : Units) → valid_interface (interface_at c u.0) ≡ true → (v : Verdict) → Judgement (tasks_of c.table) (interface_at c u.0) v
      → StatedPromise c u (Answered u v)
  on_stated u valid Variant.Accepted h = (refl, accepted_never_misses _ _ tasks valid h)
  on_stated u valid (Variant.Short t) h = (refl, short_misses_then _ _ tasks valid t.0 h)
  on_stated u valid Variant.None h = h

  on_search : (b : Bool) → leb (capacity_of c) c.deadline.0 ≡ b → CapacityPromise c (cond b (Search.Found (record { 0 = capacity_of c })) Search.None)
  unfolding capacity_of common_period_of
  on_search true e =
      let ks = tasks_of c.table in
      let p = c.period.0 in
      let d = c.deadline.0 in
      let h : capacity_of c ≤ d = leb-true _ _ e in (
        record { within = h; accepted = least_accepted ks tasks p d a range h; smaller = smaller_short ks tasks p d a range },
        λ s. not-le_of_lt (short_none ks tasks p d a range s.0 s.1) h,
      )
  on_search false e = smaller_short (tasks_of c.table) tasks c.period.0 c.deadline.0 a range c.deadline.0 (leb-false _ _ e)

  on_asked : (b : Bool) → CapacityPromise c (cond b (Search.Found (record { 0 = capacity_of c })) Search.None)
      → AskedPromise c (cond b (Answered (record { 0 = capacity_of c }) Variant.Accepted) (Answered (record { 0 = 0 }) Variant.None))
  on_asked true h =
      let smallest = h.0 in
      let valid = capacity_valid c.period.0 c.deadline.0 a range (capacity_of c) smallest.within in
      (smallest, h.1, accepted_never_misses _ (interface_at c (capacity_of c)) tasks valid smallest.accepted)
  on_asked false h = h

  promised : (k : Capacity) → a ≡ units_of k → Promise c k (judged_at c k)
  unfolding judged_at common_period_of
  promised (Stated u) e =
      let valid : valid_interface (interface_at c u.0) ≡ true = rw e at range in
      on_stated u valid (verdict_on (tasks_of c.table) (interface_at c u.0) (common_period_of c))
      (verdict_right (tasks_of c.table) tasks (interface_at c u.0) (valid_interface_lem _ valid))
  promised Asked e = let b = leb (capacity_of c) c.deadline.0 in on_asked b (on_search b refl)

pub demand_3 : Demand3
unfolding verdict_answer capacity_answer interface_of
demand_3 c e =
    let v = (unrefused c e).0 in
    let a = units_of c.capacity in
    rw (eq-eqb _ _ e) (promised c v.tasks a v.interface c.capacity refl, on_search c v.tasks a v.interface _ refl)
