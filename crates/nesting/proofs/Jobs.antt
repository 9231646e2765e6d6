-- Which jobs a component's run has: each is one of its own, or the budget of a child with a capacity in a slot in which it is released.
use Prim.Native.Nat.{ℕ, zero, suc, ◌+◌, ◌-◌, ◌%◌, ◌≤◌, ◌<◌}
use mathlib.Core.Bool.{Bool, true, false, cond, false≢true}
use mathlib.Core.List.{List, [], ◌∷◌}
use mathlib.Core.Path.{◌≡◌, refl, ap}
use lib.Dec.{leb}
use lib.IntN.{ℤ, negsuc, pos}
use lib.ListN.{length, get_or}
use lib.Signed.{lt_z}
use borrow.Author.Tests.{eqb-true, leb-true, lt-ltb, ltb-true}
use native.Mathlib.Omega.{arith}
use Rattle.budget.specs.Interface.{Π, Θ}
use Rattle.budget.proofs.Valid.{both}
use Rattle.run.specs.Job.{Job, legal_arrival, no_job}
use Rattle.run.proofs.Arrival.{arrival_at}
use Rattle.promises.proofs.Joined.{Every, every_append, every_map}
use Rattle.nesting.specs.Behaviour.{Behaviour, First, arrivals, budgets_in, from, is_early, is_slot, jobs_in, jobs_where, never, released_in, slot_jobs}
use Rattle.nesting.specs.Tree.{Tree, fed}

pub every_at : (P : Job → Type 0) (js : List Job) → Every P js → (q : ℕ) → q < length js → P (get_or js q no_job)
every_at P [] a q h = absurd (omega arith)
every_at P (j ∷ js) a zero h = a.0
every_at P (j ∷ js) a (suc q) h = every_at P js a.1 q (omega arith)

every_of : (P : Job → Type 0) (js : List Job) → ((q : ℕ) → q < length js → P (get_or js q no_job)) → Every P js
every_of P [] f = tt
every_of P (j ∷ js) f = (f 0 (omega arith), every_of P js (λ q l. f (suc q) (omega arith)))

-- the job stands in the list
pub record Found (js : List Job) (j : Job) : Type 0 where
  pub place : ℕ
  pub inside : place < length js
  pub there : get_or js place no_job ≡ j

-- slot m is one in which a budget of period p is released
pub record Release (first : First) (p m : ℕ) : Type 0 where
  pub start : ℕ
  pub begins : first ≡ from start
  pub after : start ≤ m
  pub periods : (m - start) % p ≡ 0

release_of : (first : First) (p m : ℕ) → released_in first p m ≡ true → Release first p m
unfolding released_in
release_of never p m e = let z : ◌≡◌ {A = Bool} false true = e in absurd (false≢true z)
release_of (from f) p m e =
    record { start = f; begins = refl; after = leb-true _ _ (both _ _ e).0; periods = eqb-true _ _ (both (leb f m) _ e).1 }

-- one of c's own jobs
pub record OwnJob (tree : Tree) (b : Behaviour) (c : ℕ) (j : Job) : Type 0 where
  pub found : Found (b.jobs c) j
  pub numbered : j.task < length (tree.own c)

-- a budget of one of some children, where their tasks are numbered from i on, with the slot in which it is released and ready
pub record Budget (tree : Tree) (b : Behaviour) (ks : List ℕ) (i : ℕ) (j : Job) : Type 0 where
  pub place : ℕ
  pub inside : place < length ks
  pub numbered : j.task ≡ i + place
  pub work : j.work ≡ Θ (tree.interface (get_or ks place 0))
  pub slot : ℕ
  pub released : j.release ≡ pos slot
  pub at_once : j.ready ≡ slot
  pub release : Release (b.first (get_or ks place 0)) (Π (tree.interface (get_or ks place 0))) slot

pub data JobOf (tree : Tree) (b : Behaviour) (c : ℕ) (j : Job) : Type 0 where
  own : OwnJob tree b c j → JobOf tree b c j
  budget : Budget tree b (fed tree (tree.children c)) (length (tree.own c)) j → JobOf tree b c j

-- a job of a slot that is such and such
abbrev pub InSlot : (Job → Type 0) → ℕ → Job → Type 0
InSlot P m j = P j × (j.release ≡ pos m)

-- what the tests of releases show
is_slot_lem : (m : ℕ) (r : ℤ) → is_slot m r ≡ true → r ≡ pos m
is_slot_lem m (pos r) e = ap pos (eqb-true r m e)
is_slot_lem m (negsuc r) e = absurd (false≢true e)

is_early_lem : (r : ℤ) → is_early r ≡ true → lt_z r (pos 0) ≡ true
is_early_lem (pos r) e = absurd (false≢true e)
is_early_lem (negsuc r) e = refl

-- what holds of every job of a list that passes a test holds of those that are kept
module _ (P Q : Job → Type 0) (test : ℤ → Bool) (shows : (j : Job) → P j → test j.release ≡ true → Q j) where
  jobs_step : (j : Job) (rest : List Job) (z : Bool) → test j.release ≡ z → P j → Every Q rest → Every Q (cond z (j ∷ rest) rest)
  jobs_step j rest true e h all = (shows j h e, all)
  jobs_step j rest false e h all = all

  jobs_where_lem : (js : List Job) → Every P js → Every Q (jobs_where test js)
  unfolding jobs_where
  jobs_where_lem [] a = tt
  jobs_where_lem (j ∷ js) a = jobs_step j (jobs_where test js) _ refl a.0 (jobs_where_lem js a.1)

-- a release before slot m lies before the next slot, too, and so does one in slot m
still_before : (m : ℕ) (r : ℤ) → lt_z r (pos m) ≡ true → lt_z r (pos (suc m)) ≡ true
still_before m (pos r) e = lt-ltb r (suc m) (omega (arith, ltb-true r m e))
still_before m (negsuc r) e = refl

slot_before : (m : ℕ) (r : ℤ) → r ≡ pos m → lt_z r (pos (suc m)) ≡ true
slot_before m r e = rw e (lt-ltb m (suc m) (omega arith))

module _ (tree : Tree) (b : Behaviour) where
  -- the budget of the child at the head, and of those behind it
  abbrev pub budget_of : ℕ → ℕ → ℕ → Job
  budget_of k i m = record { task = i; release = pos m; ready = m; work = Θ (tree.interface k) }

  pub head_budget : (k : ℕ) (ks : List ℕ) (i m : ℕ) → released_in (b.first k) (Π (tree.interface k)) m ≡ true
      → Budget tree b (k ∷ ks) i (budget_of k i m)
  head_budget k ks i m e =
      record {
        place = 0;
        inside = omega arith;
        numbered = omega arith;
        work = refl;
        slot = m;
        released = refl;
        at_once = refl;
        release = release_of (b.first k) (Π (tree.interface k)) m e;
      }

  pub later_budget : (k : ℕ) (ks : List ℕ) (i : ℕ) (j : Job) → Budget tree b ks (suc i) j → Budget tree b (k ∷ ks) i j
  later_budget k ks i j h =
      let numbered = h.numbered in
      record {
        place = suc h.place;
        inside = omega (arith, h.inside);
        numbered = omega arith;
        work = h.work;
        slot = h.slot;
        released = h.released;
        at_once = h.at_once;
        release = h.release;
      }

  later_budgets : (k : ℕ) (ks : List ℕ) (i m : ℕ) (js : List Job) → Every (InSlot (Budget tree b ks (suc i)) m) js
      → Every (InSlot (Budget tree b (k ∷ ks) i) m) js
  later_budgets k ks i m js all =
      every_map (InSlot (Budget tree b ks (suc i)) m) (InSlot (Budget tree b (k ∷ ks) i) m) (λ j h. (later_budget k ks i j h.0, h.1)) js all

  budgets_step : (k : ℕ) (ks : List ℕ) (i m : ℕ) (rest : List Job) (z : Bool) → released_in (b.first k) (Π (tree.interface k)) m ≡ z
      → Every (InSlot (Budget tree b ks (suc i)) m) rest → Every (InSlot (Budget tree b (k ∷ ks) i) m) (cond z (budget_of k i m ∷ rest) rest)
  budgets_step k ks i m rest true e all = ((head_budget k ks i m e, refl), later_budgets k ks i m rest all)
  budgets_step k ks i m rest false e all = later_budgets k ks i m rest all

  pub budgets_in_lem : (ks : List ℕ) (i m : ℕ) → Every (InSlot (Budget tree b ks i) m) (budgets_in tree b ks i m)
  unfolding budgets_in
  budgets_in_lem [] i m = tt
  budgets_in_lem (k ∷ ks) i m = budgets_step k ks i m (budgets_in tree b ks (suc i) m) _ refl (budgets_in_lem ks (suc i) m)

  module _ (c : ℕ) (arrival : legal_arrival (tree.own c) (b.jobs c) ≡ true) where
    own_jobs : Every (OwnJob tree b c) (b.jobs c)
    own_jobs =
        every_of (OwnJob tree b c) (b.jobs c)
        (λ q l. record { found = record { place = q; inside = l; there = refl }; numbered = (arrival_at (tree.own c) (b.jobs c) arrival q l).numbered })

    pub own_in : (m : ℕ) → Every (InSlot (OwnJob tree b c) m) (jobs_in (b.jobs c) m)
    own_in m =
        jobs_where_lem (OwnJob tree b c) (InSlot (OwnJob tree b c) m) (is_slot m) (λ j h e. (h, is_slot_lem m j.release e)) (b.jobs c) own_jobs

    pub slot_jobs_lem : (m : ℕ) → Every (InSlot (JobOf tree b c) m) (slot_jobs tree b c m)
    slot_jobs_lem m =
        let ks = fed tree (tree.children c) in
        let i = length (tree.own c) in
        every_append (InSlot (JobOf tree b c) m) (jobs_in (b.jobs c) m) (budgets_in tree b ks i m)
        (every_map (InSlot (OwnJob tree b c) m) (InSlot (JobOf tree b c) m) (λ j h. (own h.0, h.1)) (jobs_in (b.jobs c) m) (own_in m))
        (every_map (InSlot (Budget tree b ks i) m) (InSlot (JobOf tree b c) m) (λ j h. (budget h.0, h.1)) (budgets_in tree b ks i m) (budgets_in_lem ks i m))

    -- a job that is released before slot n
    abbrev pub Before : ℕ → Job → Type 0
    Before n j = JobOf tree b c j × (lt_z j.release (pos n) ≡ true)

    pub every_job : (n : ℕ) → Every (Before n) (arrivals tree b c n)
    unfolding arrivals
    every_job zero = jobs_where_lem (OwnJob tree b c) (Before 0) is_early (λ j h e. (own h, is_early_lem j.release e)) (b.jobs c) own_jobs
    every_job (suc m) =
        every_append (Before (suc m)) (arrivals tree b c m) (slot_jobs tree b c m)
        (every_map (Before m) (Before (suc m)) (λ j h. (h.0, still_before m j.release h.1)) (arrivals tree b c m) (every_job m))
        (every_map (InSlot (JobOf tree b c) m) (Before (suc m)) (λ j h. (h.0, slot_before m j.release h.1)) (slot_jobs tree b c m) (slot_jobs_lem m))
