-- The synchronous arrival is legal, and the work of its jobs due by t is at least the demand at t.
-- Each job is ready as late as it may be, at a multiple of its task's T, so that two of one task lie T apart; of the multiples c·T with
-- c·T + span ≤ t there are as many as the demand counts, and the sum over the slots meets each.
use Prim.Native.Nat.{ℕ, zero, suc, ◌+◌, ◌-◌, ◌*◌, ◌%◌, ◌≤◌, ◌<◌}
use mathlib.Core.Bool.{Bool, true, false, cond, not, or-true, ◌&&◌, ◌||◌}
use mathlib.Core.List.{List, [], ◌∷◌}
use mathlib.Core.Path.{◌≡◌, refl, ap, ◌∙◌}
use lib.Dec.{leb, eqb}
use lib.IntN.{pos, ◌+ℤ◌, sub_ℕ}
use lib.ListN.{length, get_or}
use lib.Signed.{le_z}
use borrow.Author.Tests.{eqb-true, le-leb, lt-ltb, ne_eqb}
use native.Mathlib.Nat.{add-zero, add-suc, zero-add, suc-add, le_refl, le_trans, mul-mod_left}
use native.Mathlib.Omega.{arith}
use Rattle.budget.specs.declared.task.Task.{Task}
use Rattle.budget.specs.Demand.{demand, jobs_by}
use Rattle.budget.specs.Task.{T, C, D, J, no_task, span, valid_tasks}
use Rattle.budget.proofs.DemandLaws.{jobs_due}
use Rattle.budget.proofs.Valid.{ValidTask, and_true, span_fits, span_within, valid_at, valid_head, valid_tail}
use Rattle.run.specs.Job.{Job, apart, deadline, from_zero, in_order, legal_arrival, ready_in_time, task_of, valid_job}
use Rattle.trace.specs.Units.{units}
use Rattle.trace.proofs.Units.{units_add, units_same}
use Rattle.promises.specs.inner.Serving.{due_by, work_of}
use Rattle.promises.specs.Synchronous.{every_from_zero, most_late, released_at, released_from, synchronous}
use Rattle.promises.proofs.Joined.{Every, Follows, before_all_lem, every_append, every_map, legal_append, multiples_apart}
use Rattle.promises.proofs.SignedSlots.{on_period, period_on, slot_at, slot_later, slots_le, slots_lt}
use Rattle.promises.proofs.Sums.{sum_add, sum_longer, work_append}

-- ks are the tasks of the table `all` from number i on
record From (all ks : List Task) (i : ℕ) : Type 0 where
  count : i + length ks ≡ length all
  same : (m : ℕ) → get_or all (i + m) no_task ≡ get_or ks m no_task

from_start : (ks : List Task) → From ks ks 0
from_start ks = record { count = zero-add _; same = λ m. rw zero-add }

from_next : (all : List Task) (k : Task) (ks : List Task) (i : ℕ) → From all (k ∷ ks) i → From all ks (suc i)
from_next all k ks i f =
    let count = f.count in
    record { count = omega arith; same = λ m. rw (suc-add, ← add-suc) (f.same (suc m)) }

from_head : (all : List Task) (k : Task) (ks : List Task) (i : ℕ) → From all (k ∷ ks) i → get_or all i no_task ≡ k
from_head all k ks i f = rw add-zero at (f.same 0)

-- slots are counted from slot −early on
module _ (early : ℕ) where
  -- a job of slot index n: all of its task's work, ready as late as it may be, at a multiple of the task's period
  record Periodic (ks : List Task) (n : ℕ) (j : Job) : Type 0 where
    numbered : j.task < length ks
    whole : j.work ≡ C (task_of ks j)
    released : j.release ≡ sub_ℕ n early
    late : early + j.ready ≡ n + J (task_of ks j)
    multiple : j.ready % T (task_of ks j) ≡ 0

  -- a job of that slot whose task is numbered from i on
  record InSlot (ks : List Task) (i n : ℕ) (j : Job) : Type 0 where
    periodic : Periodic ks n j
    from : i ≤ j.task

  -- a job of a slot before n
  record Before (ks : List Task) (n : ℕ) (j : Job) : Type 0 where
    slot : ℕ
    periodic : Periodic ks slot j
    earlier : slot < n

  -- a task has a job in slot index n
  abbrev has : Task → ℕ → Bool
  has k n = every_from_zero (T k) (sub_ℕ n early +ℤ pos (J k))

  abbrev job : ℕ → ℕ → Task → Job
  job i n k = record { task = i; release = sub_ℕ n early; ready = from_zero (sub_ℕ n early +ℤ pos (J k)); work = C k }

  -- the jobs of slot index n, of tasks that are numbered from i on
  abbrev jobs_in : List Task → ℕ → ℕ → List Job
  jobs_in ks i n = released_at ks i (sub_ℕ n early)

  in_slot : (all : List Task) (k : Task) (ks : List Task) (i n : ℕ) → From all (k ∷ ks) i → has k n ≡ true → InSlot all i n (job i n k)
  unfolding task_of
  in_slot all k ks i n f e =
      let count = f.count in
      let on = on_period (T k) early (n + J k) (rw (slot_later n early (J k)) at e) in
      let at : from_zero (sub_ℕ n early +ℤ pos (J k)) ≡ on.slot = ap from_zero (slot_later n early (J k) ∙ slot_at (n + J k) early on.slot on.index) in
      record {
        periodic =
            record {
              numbered = omega arith;
              whole = rw (from_head all k ks i f);
              released = refl;
              late = rw (from_head all k ks i f, at) on.index;
              multiple = rw (from_head all k ks i f, at) on.multiple;
            };
        from = le_refl _;
      }

  slot_step : (all : List Task) (k : Task) (ks : List Task) (i n : ℕ) (b : Bool) → has k n ≡ b → From all (k ∷ ks) i
      → Every (InSlot all i n) (jobs_in ks (suc i) n)
      → Every (InSlot all i n) (cond b (job i n k ∷ jobs_in ks (suc i) n) (jobs_in ks (suc i) n))
  slot_step all k ks i n true e f rest = (in_slot all k ks i n f e, rest)
  slot_step all k ks i n false e f rest = rest

  slot_every : (all ks : List Task) (i n : ℕ) → From all ks i → Every (InSlot all i n) (jobs_in ks i n)
  unfolding released_at
  slot_every all [] i n f = tt
  slot_every all (k ∷ ks) i n f =
      slot_step all k ks i n _ refl f
      (every_map (InSlot all (suc i) n) (InSlot all i n) (λ j h. let from = h.from in record { periodic = h.periodic; from = omega arith })
      (jobs_in ks (suc i) n) (slot_every all ks (suc i) n (from_next all k ks i f)))

  -- the jobs of one slot stand by rising task number
  slot_follows : (all : List Task) (i n : ℕ) (k : Task) (b : Job) → InSlot all (suc i) n b → Follows all (job i n k) b
  unfolding in_order apart
  slot_follows all i n k b h =
      let from = h.from in
      let differ : eqb i b.task ≡ false = ne_eqb i b.task (λ e. omega arith) in
      rw (h.periodic.released, slots_le early n n (le_refl n), le-leb i b.task (omega arith), differ, or-true)

  valid_in_slot : (ks : List Task) → valid_tasks ks ≡ true → (i n : ℕ) (j : Job) → InSlot ks i n j → valid_job ks j ≡ true
  unfolding valid_job ready_in_time task_of
  valid_in_slot ks v i n j h =
      let p = h.periodic in
      let some = (valid_at ks v j.task p.numbered).works in
      let k = get_or ks j.task no_task in
      let late = p.late in
      let here = slot_at (n + J k) early j.ready late in
      let works : (leb 1 j.work && leb j.work (C k)) ≡ true = rw p.whole (and_true (le-leb _ _ some) (le-leb (C k) _ (le_refl _))) in
      let ready : (le_z j.release (pos j.ready) && le_z (pos j.ready) (j.release +ℤ pos (J k))) ≡ true
      = rw (p.released, slot_later n early (J k), ← here) (and_true (slots_le early n (n + J k) (omega arith)) (slots_le early (n + J k) (n + J k) (le_refl _))) in
      and_true (lt-ltb _ _ p.numbered) (and_true works ready)

  legal_slot_step : (all : List Task) → valid_tasks all ≡ true → (k : Task) (ks : List Task) (i n : ℕ) (b : Bool) → has k n ≡ b → From all (k ∷ ks) i
      → legal_arrival all (jobs_in ks (suc i) n) ≡ true
      → legal_arrival all (cond b (job i n k ∷ jobs_in ks (suc i) n) (jobs_in ks (suc i) n)) ≡ true
  unfolding legal_arrival
  legal_slot_step all v k ks i n true e f rest =
      let later = jobs_in ks (suc i) n in
      let behind = slot_every all ks (suc i) n (from_next all k ks i f) in
      and_true (valid_in_slot all v i n _ (in_slot all k ks i n f e))
      (and_true (before_all_lem all _ later (every_map (InSlot all (suc i) n) (Follows all (job i n k)) (slot_follows all i n k) later behind)) rest)
  legal_slot_step all v k ks i n false e f rest = rest

  legal_slot : (all : List Task) → valid_tasks all ≡ true → (ks : List Task) (i n : ℕ) → From all ks i → legal_arrival all (jobs_in ks i n) ≡ true
  unfolding released_at legal_arrival
  legal_slot all v [] i n f = refl
  legal_slot all v (k ∷ ks) i n f = legal_slot_step all v k ks i n _ refl f (legal_slot all v ks (suc i) n (from_next all k ks i f))

  same_task : (ks : List Task) (m n : ℕ) (a b : Job) → Periodic ks m a → Periodic ks n b → m < n → (same : Bool) → eqb a.task b.task ≡ same
      → (not same || le_z (a.release +ℤ pos (T (task_of ks a))) b.release) ≡ true
  unfolding task_of
  same_task ks m n a b x y l true e =
      let same : a.task ≡ b.task = eqb-true _ _ e in
      let k = get_or ks a.task no_task in
      let first : early + a.ready ≡ m + J k = x.late in
      let second : early + b.ready ≡ n + J k = rw same y.late in
      let later = multiples_apart a.ready b.ready (T k) x.multiple (rw same y.multiple) (omega arith) in
      rw (x.released, y.released, slot_later m early (T k)) (slots_le early (m + T k) n (omega arith))
  same_task ks m n a b x y l false e = refl

  -- a job of a later slot stands behind one of an earlier slot
  later_follows : (ks : List Task) (n : ℕ) (a b : Job) → Before ks n a → InSlot ks 0 n b → Follows ks a b
  unfolding in_order apart
  later_follows ks n a b x y =
      let order : in_order a b ≡ true = rw (x.periodic.released, y.periodic.released, slots_lt early x.slot n x.earlier) in
      and_true order (same_task ks x.slot n a b x.periodic y.periodic x.earlier _ refl)

  before_every : (ks : List Task) (n : ℕ) → Every (Before ks n) (released_from early ks n)
  unfolding released_from
  before_every ks zero = tt
  before_every ks (suc n) =
      every_append (Before ks (suc n)) (released_from early ks n) (jobs_in ks 0 n)
      (every_map (Before ks n) (Before ks (suc n)) (λ j h. let e = h.earlier in record { slot = h.slot; periodic = h.periodic; earlier = omega arith }) (released_from early ks n) (before_every ks n))
      (every_map (InSlot ks 0 n) (Before ks (suc n)) (λ j h. record { slot = n; periodic = h.periodic; earlier = le_refl _ }) (jobs_in ks 0 n) (slot_every ks ks 0 n (from_start ks)))

  released_legal : (ks : List Task) → valid_tasks ks ≡ true → (n : ℕ) → legal_arrival ks (released_from early ks n) ≡ true
  unfolding released_from legal_arrival
  released_legal ks v zero = refl
  released_legal ks v (suc n) =
      let slot = slot_every ks ks 0 n (from_start ks) in
      let now = jobs_in ks 0 n in
      legal_append ks (released_from early ks n) now (released_legal ks v n) (legal_slot ks v ks 0 n (from_start ks))
      (every_map (Before ks n) (λ a. Every (Follows ks a) now) (λ a x. every_map (InSlot ks 0 n) (Follows ks a) (λ b y. later_follows ks n a b x y) now slot)
      (released_from early ks n) (before_every ks n))

  -- the work of a slot's jobs, task by task
  module _ (all : List Task) (t : ℕ) where
    first : Task → ℕ → ℕ → ℕ
    first k i n = cond (has k n) (work_of (due_by all t) (job i n k ∷ [])) 0

    slot_work_step : (k : Task) (ks : List Task) (i n : ℕ) (b : Bool)
        → work_of (due_by all t) (cond b (job i n k ∷ jobs_in ks (suc i) n) (jobs_in ks (suc i) n))
        ≡ cond b (work_of (due_by all t) (job i n k ∷ [])) 0 + work_of (due_by all t) (jobs_in ks (suc i) n)
    unfolding work_of
    slot_work_step k ks i n true = omega arith
    slot_work_step k ks i n false = omega arith

    slot_work : (k : Task) (ks : List Task) (i n : ℕ)
        → work_of (due_by all t) (jobs_in (k ∷ ks) i n) ≡ first k i n + work_of (due_by all t) (jobs_in ks (suc i) n)
    unfolding released_at first
    slot_work k ks i n = slot_work_step k ks i n (has k n)

    -- the job of a task that is ready in slot n is released in slot index early − J + n
    first_work : (k : Task) (ks : List Task) (i : ℕ) → From all (k ∷ ks) i → ValidTask k → J k ≤ early
        → (n : ℕ) → n % T k ≡ 0 → n + span k ≤ t → C k ≤ first k i (early - J k + n)
    unfolding first work_of due_by deadline task_of
    first_work k ks i f v most n e h =
        let fits = v.fits in
        let late = v.late in
        let start = early - J k in
        let there : has k (start + n) ≡ true = rw (slot_later (start + n) early (J k)) (period_on (T k) early (start + n + J k) n (omega arith) e) in
        let due : from_zero (sub_ℕ (start + n) early +ℤ pos (D k)) ≡ n + span k = ap from_zero (slot_later (start + n) early (D k) ∙ slot_at (start + n + D k) early (n + span k) (omega arith)) in
        rw (there, from_head all k ks i f, due, le-leb _ _ h) (omega arith)

-- the sum over slots from `start` on meets every job of a task
module _ (k : Task) (v : ValidTask k) (t start : ℕ) (g : ℕ → ℕ) (h : (n : ℕ) → n % T k ≡ 0 → n + span k ≤ t → C k ≤ g (start + n)) where
  one : (c x : ℕ) → c * T k ≡ x → x + span k ≤ t → C k ≤ g (start + x)
  one c x e l = h x (rw (← e) (mul-mod_left c (T k))) l

  met : (c x : ℕ) → c * T k ≡ x → x + span k ≤ t → suc c * C k ≤ units g start (suc x)
  unfolding units
  met zero x e l = omega (arith, one zero x e l)
  met (suc c) x e l =
      let before = met c (c * T k) refl (omega arith) in
      let longer = sum_longer g start (suc (c * T k)) x (omega (arith, v.works, span_fits k v, span_within k v)) in
      omega (arith, one (suc c) x e l)

  met_all : (c : ℕ) → c * T k + span k ≤ t + T k → c * C k ≤ units g start t
  met_all zero l = omega arith
  met_all (suc c) l = le_trans (met c (c * T k) refl (omega arith)) (sum_longer g start (suc (c * T k)) t (omega (arith, v.works, span_fits k v)))

demand_slots : (early : ℕ) (all : List Task) (t : ℕ) (ks : List Task) → valid_tasks ks ≡ true → most_late ks ≤ early → (i : ℕ) → From all ks i
    → demand ks t ≤ units (λ n. work_of (due_by all t) (jobs_in early ks i n)) 0 (early + t)
unfolding demand most_late
demand_slots early all t [] v most i f = omega arith
demand_slots early all t (k ∷ ks) v most i f =
    let valid = valid_head k ks v in
    let start = early - J k in
    let g = first early all t k i in
    let rest = demand_slots early all t ks (valid_tail k ks v) (omega arith) (suc i) (from_next all k ks i f) in
    let jobs = met_all k valid t start g (first_work early all t k ks i f valid (omega arith)) (jobs_by k t) (jobs_due k valid t) in
    let before = units_add g 0 start t in
    let from = ap (λ (a : ℕ). units g a t) (zero-add start) in
    let longer = sum_longer g 0 (start + t) (early + t) (omega arith) in
    let sums = sum_add g (λ n. work_of (due_by all t) (jobs_in early ks (suc i) n)) 0 (early + t) in
    let same = units_same (λ n. work_of (due_by all t) (jobs_in early (k ∷ ks) i n)) (λ n. g n + work_of (due_by all t) (jobs_in early ks (suc i) n)) 0 0 (early + t)
    (λ m l. slot_work early all t k ks i (0 + m)) in
    omega arith

released_work : (early : ℕ) (p : Job → Bool) (ks : List Task) (n : ℕ) → work_of p (released_from early ks n) ≡ units (λ m. work_of p (jobs_in early ks 0 m)) 0 n
unfolding released_from units work_of
released_work early p ks zero = refl
released_work early p ks (suc n) = rw zero-add (omega (arith, work_append p (released_from early ks n) (jobs_in early ks 0 n), released_work early p ks n))

pub synchronous_legal : (ks : List Task) → valid_tasks ks ≡ true → (t : ℕ) → legal_arrival ks (synchronous ks t) ≡ true
unfolding synchronous
synchronous_legal ks v t = released_legal (most_late ks) ks v (most_late ks + t)

pub synchronous_asks : (ks : List Task) → valid_tasks ks ≡ true → (t : ℕ) → demand ks t ≤ work_of (due_by ks t) (synchronous ks t)
unfolding synchronous
synchronous_asks ks v t = rw (released_work (most_late ks) (due_by ks t) ks (most_late ks + t)) (demand_slots (most_late ks) ks t ks v (le_refl _) 0 (from_start ks))
