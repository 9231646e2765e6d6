-- One level: where a component has a supply, its run misses nowhere, and what it hands on serves each child. The trace is made longer by the
-- child's Δ, so that the deadline of every budget released before its end lies within it; the budget is then spent by its deadline, as nothing
-- misses, and what lies behind the end counts as supplied anyway.
use Prim.Native.Nat.{ℕ, ◌+◌, ◌*◌, ◌≤◌, ◌<◌, zero-le}
use mathlib.Core.Bool.{Bool, true, false, cond}
use mathlib.Core.List.{List}
use mathlib.Core.Path.{◌≡◌, refl, sym, ap, subst, ◌∙◌}
use lib.Dec.{leb}
use lib.ListN.{length, get_or, drop, take, length-append, length-drop, length-replicate, replicate, get_or-append}
use borrow.Author.Tests.{leb-false, leb-true}
use native.Mathlib.Decide.{dec_lt}
use native.Mathlib.Nat.{le_of_eq, le_trans}
use native.Mathlib.Omega.{arith}
use Rattle.budget.specs.Interface.{Π, Θ, Δ, valid_interface}
use Rattle.budget.specs.Task.{valid_tasks}
use Rattle.budget.proofs.Valid.{valid_interface_lem}
use Rattle.judge.specs.Verdict.{Accepted}
use Rattle.run.specs.FirstMiss.{NoMiss}
use Rattle.run.specs.Job.{Job, deadline, legal_arrival, no_job, task_of}
use Rattle.run.specs.Order.{goes_before}
use Rattle.run.specs.Run.{MissAt, Rule, earliest_deadline, left_by}
use Rattle.run.proofs.Next.{next_waits}
use Rattle.trace.specs.Legal.{counted}
use Rattle.trace.specs.Units.{units}
use Rattle.trace.specs.WorstTrace.{slots}
use Rattle.trace.proofs.WorstTrace.{slots_bits, slots_length}
use Rattle.promises.specs.Demand3.{Run}
use Rattle.promises.specs.inner.Serving.{ServedWaits}
use Rattle.promises.proofs.Demand3.{accepted_never_misses}
use Rattle.promises.proofs.Serving.{untouched}
use Rattle.nesting.specs.Behaviour.{Begun, Behaviour, First, arrivals, from, never}
use Rattle.nesting.specs.Service.{Served, given_by, handed}
use Rattle.nesting.specs.Tree.{Child, Tree, fed, task_of_child, workload}
use Rattle.nesting.proofs.Alike.{Alike, given_alike, miss_alike}
use Rattle.nesting.proofs.Arrivals.{arrivals_legal}
use Rattle.nesting.proofs.Budgets.{budget_found, released_after}
use Rattle.nesting.proofs.Counted.{counted_units, slot_gives}
use Rattle.nesting.proofs.Filled.{Supply}
use Rattle.nesting.proofs.Given.{given_most, given_ready, left_given}
use Rattle.nesting.proofs.Jobs.{Before, Found, JobOf, budget, budget_of, every_at, every_job, own}
use Rattle.nesting.proofs.Lengthened.{longer, longer_bits, longer_legal}
use Rattle.nesting.proofs.Workload.{fed_at, fed_stands, task_at_lem}

begun_later : (first : First) (m n : ℕ) → Begun first m → m ≤ n → Begun first n
begun_later never m n h l = h
begun_later (from f) m n h l = le_trans h l

-- what is known of one component of a tree
pub record Known (tree : Tree) (b : Behaviour) (c : ℕ) : Type 0 where
  pub tasks : valid_tasks (workload tree c) ≡ true
  pub interface : valid_interface (tree.interface c) ≡ true
  pub accepted : Accepted (workload tree c) (tree.interface c)
  pub arrival : legal_arrival (tree.own c) (b.jobs c) ≡ true
  pub own : (q : ℕ) → q < length (b.jobs c) → Begun (b.first c) (get_or (b.jobs c) q no_job).ready
  pub children : (k f : ℕ) → Child tree c k → b.first k ≡ from f → Begun (b.first c) f
  pub capacity : (k f : ℕ) → Child tree c k → b.first k ≡ from f → 1 ≤ Θ (tree.interface k)

module _ (tree : Tree) (b : Behaviour) (c : ℕ) (known : Known tree b c) (n : ℕ) where
  abbrev js : List Job
  js = arrivals tree b c n

  abbrev rule : Rule
  rule = earliest_deadline (workload tree c) js

  waiting : ServedWaits js rule
  waiting m left l = next_waits (goes_before (workload tree c)) m js left l

  kind : (q : ℕ) → q < length js → JobOf tree b c (get_or js q no_job)
  kind q l = (every_at (Before tree b c known.arrival n) js (every_job tree b c known.arrival n) q l).0

  -- no job is ready before the component's first release
  kind_begun : (j : Job) → JobOf tree b c j → Begun (b.first c) j.ready
  kind_begun j (own h) =
      subst (λ (x : Job). Begun (b.first c) x.ready) h.found.there (known.own h.found.place h.found.inside)
  kind_begun j (budget h) =
      let stands = fed_stands tree (tree.children c) h.place h.inside in
      let k = get_or (fed tree (tree.children c)) h.place 0 in
      let child : Child tree c k = record { place = stands.place; inside = stands.inside; there = stands.there } in
      rw h.at_once
      (begun_later (b.first c) h.release.start h.slot (known.children k h.release.start child h.release.begins) h.release.after)

  module _ (s : List ℕ) (supply : Supply (tree.interface c) (b.first c) n s) where
    alike : (d : ℕ) → Alike js s (longer supply.filled d) n
    alike d m l q h r =
        let inside : m < length supply.filled = omega (arith, supply.slots) in
        supply.same m l (begun_later (b.first c) _ _ (kind_begun _ (kind q h)) r)
        ∙ sym (get_or-append supply.filled (replicate d 1) 0 m inside)

    -- the run on the longer trace, which misses nowhere
    abbrev run : ℕ → Run (workload tree c) (tree.interface c)
    run d =
        record {
          jobs = js;
          offset = supply.offset;
          trace = longer supply.filled d;
          arrival = arrivals_legal tree b c known.tasks known.arrival n;
          bits = longer_bits supply.filled d supply.bits;
          below = supply.below;
          legal = longer_legal _ (valid_interface_lem _ known.interface) supply.offset supply.filled d supply.legal;
        }

    longer_misses : (d t : ℕ) → t ≤ n + d → MissAt (workload tree c) js (longer supply.filled d) t → ⊥
    longer_misses d t l miss =
        let reached : t ≤ length (longer supply.filled d) = rw (length-append, length-replicate) (omega (arith, supply.slots)) in
        accepted_never_misses _ _ known.tasks known.interface known.accepted (run d) t (record { reached = reached; miss = miss })

    pub no_miss : length s ≡ n → NoMiss (workload tree c) js s
    no_miss e t l miss =
        longer_misses 0 t (omega arith) (miss_alike rule js waiting s (longer supply.filled 0) n (alike 0) (workload tree c) t (omega arith) miss)

    -- the child at place p of those with a capacity, and its task
    module _ (p : ℕ) (inside : p < length (fed tree (tree.children c))) where
      abbrev k : ℕ
      k = get_or (fed tree (tree.children c)) p 0

      abbrev task : ℕ
      task = length (tree.own c) + p

      -- a job of the task is a budget of the child
      child_begun : (j : Job) → JobOf tree b c j → j.task ≡ task → Begun (b.first k) j.ready
      child_begun j (own h) e = absurd (omega (arith, h.numbered))
      child_begun j (budget h) e =
          let same : h.place ≡ p = omega (arith, h.numbered) in
          subst (λ (x : ℕ). Begun (b.first (get_or (fed tree (tree.children c)) x 0)) j.ready) same
          (rw (h.at_once, h.release.begins) h.release.after)

      given_begun : (m : ℕ) → 0 < given_by rule js s task m → Begun (b.first k) m
      given_begun m h =
          let r = given_ready rule js s waiting task m h in
          begun_later (b.first k) _ m (child_begun _ (kind r.place r.inside) r.task) r.is_ready

      module _ (r : ℕ) (before : r < n) (found : Found js (budget_of tree b k task r)) where
        abbrev trace : List ℕ
        trace = longer supply.filled (Δ (tree.interface k))

        due : deadline (workload tree c) (get_or js found.place no_job) ≡ r + Δ (tree.interface k)
        unfolding deadline task_of
        due = rw (found.there, task_at_lem tree c p inside) refl

        -- a budget is spent by its deadline
        spent : get_or (left_by rule js trace (r + Δ (tree.interface k))) found.place 0 ≡ 0
        spent = go (dec_lt 0 (get_or (left_by rule js trace (r + Δ (tree.interface k))) found.place 0))
          where
            go : Dec (0 < get_or (left_by rule js trace (r + Δ (tree.interface k))) found.place 0)
                → get_or (left_by rule js trace (r + Δ (tree.interface k))) found.place 0 ≡ 0
            go (yes l) =
                absurd
                (longer_misses (Δ (tree.interface k)) (r + Δ (tree.interface k)) (omega arith)
                (record { place = found.place; inside = found.inside; due = due; late = l }))
            go (no l) = omega arith

        paid : Θ (tree.interface k) ≤ units (given_by rule js trace task) r (Δ (tree.interface k))
        paid =
            let job = found.there in
            let ready = ap (λ (j : Job). j.ready) job in
            let all = untouched rule js trace waiting r found.place found.inside (le_of_eq (sym ready)) ∙ ap (λ (j : Job). j.work) job in
            let given = rw (ap (λ (j : Job). j.task) job) at (left_given rule js trace found.place r (Δ (tree.interface k)) found.inside) in
            omega (arith, spent)

      period_paid : (f : ℕ) → b.first k ≡ from f → (d : ℕ) → f + d * Π (tree.interface k) < n
          → Θ (tree.interface k)
          ≤ units (counted 0 (drop f (slots (given_by rule js s task) 0 n))) (d * Π (tree.interface k)) (Δ (tree.interface k))
      period_paid f e d l =
          let r = f + d * Π (tree.interface k) in
          let trace = longer supply.filled (Δ (tree.interface k)) in
          let found = budget_found tree b c p r inside (rw e (released_after f d (Π (tree.interface k)))) n l in
          le_trans (paid r l found)
          (counted_units (given_by rule js s task) (given_by rule js trace task) n f (given_most rule js trace task)
          (λ m h. sym (given_alike rule js waiting s trace n (alike (Δ (tree.interface k))) task m h)) (d * Π (tree.interface k)) (Δ (tree.interface k)))

      fed_served : Served (tree.interface k) (b.first k) n (slots (given_by rule js s task) 0 n)
      fed_served =
          let given = given_by rule js s task in
          record {
            slots = slots_length given 0 n;
            bits = slots_bits given (given_most rule js s task) 0 n;
            before = λ m h. given_begun m (slot_gives given n m h);
            legal = λ f e d touched.
                period_paid f e d (omega (arith, touched.inside, touched.from, length-drop f (slots given 0 n), slots_length given 0 n));
          }

    -- one with capacity 0 has no first release
    unfed_served : (k : ℕ) → Child tree c k → Θ (tree.interface k) < 1 → Served (tree.interface k) (b.first k) n (slots (λ m. 0) 0 n)
    unfed_served k child none =
        record {
          slots = slots_length (λ m. 0) 0 n;
          bits = slots_bits (λ m. 0) (λ m. zero-le) 0 n;
          before = λ m h. absurd (omega (arith, slot_gives (λ m. 0) n m h));
          legal = λ f e. absurd (omega (arith, known.capacity k f child e));
        }

    pub child_served : (k : ℕ) (child : Child tree c k) → Served (tree.interface k) (b.first k) n (slots (handed tree b c n s child.place k) 0 n)
    unfolding handed task_of_child
    child_served k child = go (leb 1 (Θ (tree.interface k))) refl
      where
        number : ℕ
        number = length (fed tree (take child.place (tree.children c)))

        go : (z : Bool) → leb 1 (Θ (tree.interface k)) ≡ z
            → Served (tree.interface k) (b.first k) n (slots (λ m. cond z (given_by rule js s (length (tree.own c) + number) m) 0) 0 n)
        go true e =
            let at = fed_at tree (tree.children c) child.place child.inside (rw child.there (leb-true _ _ e)) in
            subst (λ (x : ℕ). Served (tree.interface x) (b.first x) n (slots (given_by rule js s (length (tree.own c) + number)) 0 n))
            (at.there ∙ child.there) (fed_served number at.inside)
        go false e = unfed_served k child (leb-false _ _ e)
