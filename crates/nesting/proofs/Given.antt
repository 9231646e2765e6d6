-- What slots give to a task, counted by the work left of one of its jobs at two instants: a slot takes no more from a job than it gives to the
-- job's task, so a job that is done has been given all its work.
use Prim.Native.Nat.{ℕ, zero, suc, ◌+◌, ◌-◌, ◌≤◌, ◌<◌}
use mathlib.Core.Bool.{Bool, true, false, cond}
use mathlib.Core.List.{List, [], ◌∷◌}
use mathlib.Core.Path.{◌≡◌, refl}
use lib.Dec.{ltb, eqb}
use lib.ListN.{length, get_or}
use lib.Seq.{get_or-set_other}
use borrow.Author.Tests.{eq-eqb, eqb-true, lt-ltb, ltb-true}
use native.Mathlib.Decide.{ℕ_discrete}
use native.Mathlib.Nat.{add-zero, add-suc}
use native.Mathlib.Omega.{arith}
use Rattle.budget.proofs.Valid.{both}
use Rattle.run.specs.Job.{Job, no_job}
use Rattle.run.specs.Run.{Rule, left_by, serve, slot_by}
use Rattle.run.proofs.Next.{waits_then}
use Rattle.trace.specs.Units.{units}
use Rattle.promises.specs.inner.Serving.{ServedWaits}
use Rattle.nesting.specs.Service.{given_by, of_task}

-- a unit takes one from a job at most
serve_one : (left : List ℕ) (p q : ℕ) → get_or left q 0 ≤ suc (get_or (serve left p) q 0)
unfolding serve
serve_one [] p q = omega arith
serve_one (w ∷ left) zero zero = omega arith
serve_one (w ∷ left) zero (suc q) = omega arith
serve_one (w ∷ left) (suc p) zero = omega arith
serve_one (w ∷ left) (suc p) (suc q) = serve_one left p q

-- a job of task k that is ready in slot m
pub record ReadyJob (js : List Job) (k m : ℕ) : Type 0 where
  pub place : ℕ
  pub inside : place < length js
  pub task : (get_or js place no_job).task ≡ k
  pub is_ready : (get_or js place no_job).ready ≤ m

module _ (rule : Rule) (js : List Job) (s : List ℕ) where
  pub given_most : (k m : ℕ) → given_by rule js s k m ≤ 1
  unfolding given_by
  given_most k m = go (eqb (get_or s m 0) 0) (of_task js k (rule m (left_by rule js s m)))
    where
      go : (z w : Bool) → cond z 0 (cond w 1 0) ≤ 1
      go true w = omega arith
      go false true = omega arith
      go false false = omega arith

  -- a slot gives to a task only where a job of it waits
  pub given_ready : ServedWaits js rule → (k m : ℕ) → 0 < given_by rule js s k m → ReadyJob js k m
  unfolding given_by of_task
  given_ready waiting k m h = go (eqb (get_or s m 0) 0) (of_task js k p) refl h
    where
      p : ℕ
      p = rule m (left_by rule js s m)

      go : (z w : Bool) → of_task js k p ≡ w → 0 < cond z 0 (cond w 1 0) → ReadyJob js k m
      go true w e h = absurd (omega arith)
      go false false e h = absurd (omega arith)
      go false true e h =
          let l = ltb-true p (length js) (both _ _ e).0 in
          record {
            place = p;
            inside = l;
            task = eqb-true _ _ (both (ltb p (length js)) _ e).1;
            is_ready = (waits_then m _ _ (waiting m (left_by rule js s m) l)).is_ready;
          }

  left_slot : (left : List ℕ) (p q : ℕ) → q < length js → (z : Bool)
      → get_or left q 0 ≤ get_or (cond z left (serve left p)) q 0 + cond z 0 (cond (of_task js (get_or js q no_job).task p) 1 0)
  unfolding serve of_task
  left_slot left p q l true = omega arith
  left_slot left p q l false = go (ℕ_discrete q p)
    where
      go : Dec (q ≡ p) → get_or left q 0 ≤ get_or (serve left p) q 0 + cond (of_task js (get_or js q no_job).task p) 1 0
      go (yes e) =
          rw (← e, lt-ltb q (length js) l, eq-eqb (get_or js q no_job).task (get_or js q no_job).task refl) (omega (arith, serve_one left q q))
      go (no d) = omega (arith, get_or-set_other left p q (get_or left p 0 - 1) 0 d)

  left_step : (q m : ℕ) → q < length js
      → get_or (left_by rule js s m) q 0 ≤ get_or (left_by rule js s (suc m)) q 0 + given_by rule js s (get_or js q no_job).task m
  unfolding left_by slot_by given_by
  left_step q m l = left_slot (left_by rule js s m) (rule m (left_by rule js s m)) q l (eqb (get_or s m 0) 0)

  -- what a job has less at the later of two instants was given to its task between them
  pub left_given : (q r d : ℕ) → q < length js
      → get_or (left_by rule js s r) q 0 ≤ get_or (left_by rule js s (r + d)) q 0 + units (given_by rule js s (get_or js q no_job).task) r d
  unfolding units
  left_given q r zero l = rw (add-zero r) (omega arith)
  left_given q r (suc d) l = rw (add-suc r d) (omega (arith, left_given q r d l, left_step q (r + d) l))
