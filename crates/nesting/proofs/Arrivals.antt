-- The jobs of a component's run are a legal arrival of its workload: the own jobs are one, a child's budgets lie its Π apart and have its capacity
-- as their work, own jobs released before slot 0 come first, and within a slot the own jobs stand before the budgets, which stand by rising child.
use Prim.Native.Nat.{ℕ, zero, suc, ◌+◌, ◌-◌, ◌%◌, ◌≤◌, ◌<◌}
use mathlib.Core.Bool.{Bool, true, false, cond, not, or-true, ◌||◌}
use mathlib.Core.List.{List, [], ◌∷◌}
use mathlib.Core.Path.{◌≡◌, refl, sym, ap, subst, ◌∙◌}
use lib.Dec.{eqb, leb, ltb}
use lib.IntN.{ℤ, negsuc, pos, ◌+ℤ◌, +ℤ_idr}
use lib.ListN.{length, get_or}
use lib.Signed.{le_z, lt_z, ◌<ℤ◌, ◌≤ℤ◌, <ℤ-≤ℤ_trans, <ℤ_irrefl, clash_ℤ, le_z_yes, lt_z_yes}
use borrow.Author.Tests.{eqb-true, le-leb, lt-ltb, ltb-true, ne_eqb}
use native.Mathlib.Decide.{dec_lt}
use native.Mathlib.Nat.{le-add_right, le_of_eq, le_refl}
use native.Mathlib.Omega.{arith}
use Rattle.budget.specs.declared.task.Task.{Task}
use Rattle.budget.specs.Interface.{Π}
use Rattle.budget.specs.Task.{C, T, no_task, valid_tasks}
use Rattle.budget.proofs.Valid.{and_true, valid_at}
use Rattle.run.specs.Job.{Job, apart, in_order, legal_arrival, no_job, ready_in_time, task_of, valid_job}
use Rattle.run.proofs.Arrival.{apart_of, apart_pair, task_of_lem}
use Rattle.promises.proofs.Joined.{Every, Follows, before_all_lem, every_map, legal_append, multiples_apart}
use Rattle.nesting.specs.Behaviour.{Behaviour, First, arrivals, budgets_in, is_early, is_slot, jobs_in, released_in, slot_jobs}
use Rattle.nesting.specs.Tree.{Tree, as_task, fed, workload}
use Rattle.nesting.proofs.Jobs.{Before, Budget, Found, InSlot, JobOf, OwnJob, Release, budget, budget_of, budgets_in_lem, every_job, head_budget, later_budget, own, own_in, slot_jobs_lem}
use Rattle.nesting.proofs.Wider.{legal_where, legal_wider}
use Rattle.nesting.proofs.Workload.{task_at_lem, workload_length}

-- no slot lies after one that is some slots on, nor after itself
slots_on : (r : ℤ) (t : ℕ) → le_z r (r +ℤ pos t) ≡ true
slots_on (pos n) t = le-leb n (n + t) (le-add_right n t)
slots_on (negsuc n) t = go (ltb t (suc n))
  where
    go : (z : Bool) → le_z (negsuc n) (cond z (negsuc (suc n - suc t)) (pos (t - suc n))) ≡ true
    go true = le-leb (suc n - suc t) n (omega arith)
    go false = refl

not_after : (r : ℤ) → le_z r r ≡ true
not_after r = rw (+ℤ_idr r) at (slots_on r 0)

-- of two jobs of one slot the one of the higher task follows
slot_follows : (ks : List Task) (a b : Job) → a.release ≡ b.release → a.task < b.task → Follows ks a b
unfolding in_order apart
slot_follows ks a b e l =
    rw (e, not_after b.release, le-leb a.task b.task (omega arith), ne_eqb a.task b.task (λ h. omega arith), or-true)

-- a job of a later slot follows one of an earlier, T apart where they are of one task
later_follows : (ks : List Task) (a b : Job) → lt_z a.release b.release ≡ true
    → (a.task ≡ b.task → le_z (a.release +ℤ pos (T (task_of ks a))) b.release ≡ true) → Follows ks a b
unfolding in_order apart
later_follows ks a b l h = rw l (go _ refl)
  where
    go : (z : Bool) → eqb a.task b.task ≡ z → (not z || le_z (a.release +ℤ pos (T (task_of ks a))) b.release) ≡ true
    go true e = h (eqb-true _ _ e)
    go false e = refl

-- two jobs of a legal arrival that are of one task lie T apart, as the earlier one stands before the other
found_apart : (ks : List Task) (js : List Job) → legal_arrival ks js ≡ true → (a b : Job) → Found js a → Found js b
    → lt_z a.release b.release ≡ true → a.task ≡ b.task → le_z (a.release +ℤ pos (T (task_of ks a))) b.release ≡ true
found_apart ks js legal a b x y l same = go (dec_lt x.place y.place) (dec_lt y.place x.place)
  where
    earlier : a.release <ℤ b.release
    earlier = lt_z_yes (rw l tt)

    go : Dec (x.place < y.place) → Dec (y.place < x.place) → le_z (a.release +ℤ pos (T (task_of ks a))) b.release ≡ true
    go (yes h) d = apart_of ks a b (rw (x.there, y.there) at (apart_pair ks js legal x.place y.place h y.inside)) same
    go (no h) (yes g) =
        let turned = apart_of ks b a (rw (x.there, y.there) at (apart_pair ks js legal y.place x.place g x.inside)) (sym same) in
        let on : b.release ≤ℤ (b.release +ℤ pos (T (task_of ks b))) = le_z_yes (rw (slots_on b.release (T (task_of ks b))) tt) in
        let back : (b.release +ℤ pos (T (task_of ks b))) ≤ℤ a.release = le_z_yes (rw turned tt) in
        clash_ℤ (<ℤ-≤ℤ_trans earlier on) back
    go (no h) (no g) =
        let e : x.place ≡ y.place = omega arith in
        let one : a ≡ b = sym x.there ∙ ap (λ (q : ℕ). get_or js q no_job) e ∙ y.there in
        absurd (<ℤ_irrefl (rw one at earlier))

-- two releases of one budget
releases_apart : (first : First) (p m n : ℕ) → Release first p m → Release first p n → m < n → m + p ≤ n
releases_apart first p m n x y l =
    let same : y.start ≡ x.start = cc in
    let a = x.after in
    let multiple : (n - x.start) % p ≡ 0 = rw same at y.periods in
    omega (arith, multiples_apart (m - x.start) (n - x.start) p x.periods multiple (omega arith))

module _ (tree : Tree) (b : Behaviour) (c : ℕ) where
  abbrev kept : List ℕ
  kept = fed tree (tree.children c)

  abbrev Budgets : Job → Type 0
  Budgets = Budget tree b kept (length (tree.own c))

  -- the task of a budget is its child's interface
  budget_task : (j : Job) (h : Budgets j) → task_of (workload tree c) j ≡ as_task (tree.interface (get_or kept h.place 0))
  budget_task j h = task_of_lem (workload tree c) j _ h.numbered ∙ task_at_lem tree c h.place h.inside

  budgets_apart : (x y : Job) → Budgets x → Budgets y → lt_z x.release y.release ≡ true → x.task ≡ y.task
      → le_z (x.release +ℤ pos (T (task_of (workload tree c) x))) y.release ≡ true
  budgets_apart x y h k l same =
      let e : k.place ≡ h.place = omega (arith, h.numbered, k.numbered) in
      let release = subst (λ (p : ℕ). Release (b.first (get_or kept p 0)) (Π (tree.interface (get_or kept p 0))) k.slot) e k.release in
      let later : h.slot < k.slot = ltb-true _ _ (rw (h.released, k.released) at l) in
      rw (budget_task x h, h.released, k.released) (le-leb _ _ (releases_apart _ _ h.slot k.slot h.release release later))

  module _ (tasks : valid_tasks (workload tree c) ≡ true) (arrival : legal_arrival (tree.own c) (b.jobs c) ≡ true) where
    -- the own jobs are a legal arrival of the whole workload
    own_legal : legal_arrival (workload tree c) (b.jobs c) ≡ true
    unfolding workload
    own_legal = legal_wider (tree.own c) _ (b.jobs c) arrival

    jobs_apart : (x y : Job) → JobOf tree b c x → JobOf tree b c y → lt_z x.release y.release ≡ true → x.task ≡ y.task
        → le_z (x.release +ℤ pos (T (task_of (workload tree c) x))) y.release ≡ true
    jobs_apart x y (own h) (own k) l same = found_apart (workload tree c) (b.jobs c) own_legal x y h.found k.found l same
    jobs_apart x y (own h) (budget k) l same = absurd (omega (arith, h.numbered, k.numbered))
    jobs_apart x y (budget h) (own k) l same = absurd (omega (arith, h.numbered, k.numbered))
    jobs_apart x y (budget h) (budget k) l same = budgets_apart x y h k l same

    budget_valid : (j : Job) → Budgets j → valid_job (workload tree c) j ≡ true
    unfolding valid_job ready_in_time task_of
    budget_valid j h =
        let there : j.task < length (workload tree c) = omega (arith, workload_length tree c, h.numbered, h.inside) in
        let whole : j.work ≡ C (get_or (workload tree c) j.task no_task) = h.work ∙ sym (ap (λ (k : Task). C k) (budget_task j h)) in
        let works : leb 1 j.work ≡ true = rw whole (le-leb _ _ (valid_at (workload tree c) tasks j.task there).works) in
        let ready : ready_in_time (workload tree c) j ≡ true
        = rw (h.released, h.at_once) (and_true (le-leb _ _ (le_refl h.slot)) (le-leb _ _ (le-add_right h.slot _))) in
        and_true (lt-ltb _ _ there) (and_true (and_true works (le-leb _ _ (le_of_eq whole))) ready)

    -- the budgets of one slot, by rising child
    budgets_step : (k : ℕ) (ks : List ℕ) (i m : ℕ) (z : Bool) → released_in (b.first k) (Π (tree.interface k)) m ≡ z
        → ((j : Job) → Budget tree b (k ∷ ks) i j → valid_job (workload tree c) j ≡ true)
        → legal_arrival (workload tree c) (budgets_in tree b ks (suc i) m) ≡ true
        → legal_arrival (workload tree c) (cond z (budget_of tree b k i m ∷ budgets_in tree b ks (suc i) m) (budgets_in tree b ks (suc i) m)) ≡ true
    unfolding legal_arrival
    budgets_step k ks i m true e valid rest =
        let follows = every_map (InSlot (Budget tree b ks (suc i)) m) (Follows (workload tree c) (budget_of tree b k i m))
        (λ j h. slot_follows (workload tree c) (budget_of tree b k i m) j (sym h.1) (omega (arith, h.0.numbered))) (budgets_in tree b ks (suc i) m) (budgets_in_lem tree b ks (suc i) m) in
        and_true (valid _ (head_budget tree b k ks i m e)) (and_true (before_all_lem (workload tree c) _ (budgets_in tree b ks (suc i) m) follows) rest)
    budgets_step k ks i m false e valid rest = rest

    budgets_legal : (ks : List ℕ) (i m : ℕ) → ((j : Job) → Budget tree b ks i j → valid_job (workload tree c) j ≡ true)
        → legal_arrival (workload tree c) (budgets_in tree b ks i m) ≡ true
    unfolding budgets_in legal_arrival
    budgets_legal [] i m valid = refl
    budgets_legal (k ∷ ks) i m valid =
        budgets_step k ks i m _ refl valid (budgets_legal ks (suc i) m (λ j h. valid j (later_budget tree b k ks i j h)))

    slot_legal : (m : ℕ) → legal_arrival (workload tree c) (slot_jobs tree b c m) ≡ true
    slot_legal m =
        let budgets = budgets_in tree b kept (length (tree.own c)) m in
        legal_append (workload tree c) (jobs_in (b.jobs c) m) budgets (legal_where (workload tree c) (is_slot m) (b.jobs c) own_legal)
        (budgets_legal kept (length (tree.own c)) m budget_valid)
        (every_map (InSlot (OwnJob tree b c) m) (λ x. Every (Follows (workload tree c) x) budgets)
        (λ x h. every_map (InSlot Budgets m) (Follows (workload tree c) x)
        (λ y k. slot_follows (workload tree c) x y (h.1 ∙ sym k.1) (omega (arith, h.0.numbered, k.0.numbered))) budgets (budgets_in_lem tree b kept (length (tree.own c)) m))
        (jobs_in (b.jobs c) m) (own_in tree b c arrival m))

    pub arrivals_legal : (n : ℕ) → legal_arrival (workload tree c) (arrivals tree b c n) ≡ true
    unfolding arrivals legal_arrival
    arrivals_legal zero = legal_where (workload tree c) is_early (b.jobs c) own_legal
    arrivals_legal (suc m) =
        legal_append (workload tree c) (arrivals tree b c m) (slot_jobs tree b c m) (arrivals_legal m) (slot_legal m)
        (every_map (Before tree b c arrival m) (λ x. Every (Follows (workload tree c) x) (slot_jobs tree b c m))
        (λ x h. every_map (InSlot (JobOf tree b c) m) (Follows (workload tree c) x)
        (λ y k. let l : lt_z x.release y.release ≡ true = rw k.1 h.1 in later_follows (workload tree c) x y l (jobs_apart x y h.0 k.0 l))
        (slot_jobs tree b c m) (slot_jobs_lem tree b c arrival m))
        (arrivals tree b c m) (every_job tree b c arrival m))
