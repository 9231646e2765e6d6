-- The run on two traces that have the same byte in each slot in which some job is ready: it leaves and gives the same on both. In any other
-- slot no job waits, so that the unit, if there is one, is idle.
use Prim.Native.Nat.{ℕ, zero, suc, ◌≤◌, ◌<◌}
use mathlib.Core.Bool.{Bool, true, false, cond}
use mathlib.Core.List.{List}
use mathlib.Core.Path.{◌≡◌, refl, sym, ap, ◌∙◌}
use lib.Dec.{eqb}
use lib.ListN.{length, get_or}
use lib.Seq.{set_out}
use borrow.Author.Tests.{le-ltb}
use native.Mathlib.Decide.{dec_lt}
use native.Mathlib.Omega.{arith}
use Rattle.budget.specs.declared.task.Task.{Task}
use Rattle.run.specs.Job.{Job, no_job}
use Rattle.run.specs.Run.{MissBy, Rule, left_by, serve, slot_by}
use Rattle.run.proofs.Next.{waits_then}
use Rattle.run.proofs.RunLaws.{left_length}
use Rattle.promises.specs.inner.Serving.{ServedWaits}
use Rattle.nesting.specs.Service.{given_by, of_task}

-- the same in each slot before n in which some job is ready
abbrev pub Alike : List Job → List ℕ → List ℕ → ℕ → Type 0
Alike js s u n = (m : ℕ) → m < n → (q : ℕ) → q < length js → (get_or js q no_job).ready ≤ m → get_or s m 0 ≡ get_or u m 0

module _ (rule : Rule) (js : List Job) (waiting : ServedWaits js rule) where
  idle_slot : (m a : ℕ) (left : List ℕ) → length left ≡ length js → length js ≤ rule m left → slot_by rule m a left ≡ left
  unfolding slot_by serve
  idle_slot m a left e h = go (eqb a 0)
    where
      go : (z : Bool) → cond z left (serve left (rule m left)) ≡ left
      go true = refl
      go false = set_out left (rule m left) _ (omega arith)

  same_slot : (m a b : ℕ) (left : List ℕ) → length left ≡ length js → ((q : ℕ) → q < length js → (get_or js q no_job).ready ≤ m → a ≡ b)
      → Dec (rule m left < length js) → slot_by rule m a left ≡ slot_by rule m b left
  same_slot m a b left e h (yes l) = ap (λ (x : ℕ). slot_by rule m x left) (h (rule m left) l (waits_then m _ _ (waiting m left l)).is_ready)
  same_slot m a b left e h (no l) = idle_slot m a left e (omega arith) ∙ sym (idle_slot m b left e (omega arith))

  none_given : (a : ℕ) → cond {A = ℕ} (eqb a 0) 0 0 ≡ 0
  none_given a = go (eqb a 0)
    where
      go : (z : Bool) → cond {A = ℕ} z 0 0 ≡ 0
      go true = refl
      go false = refl

  same_given : (m a b k : ℕ) (left : List ℕ) → ((q : ℕ) → q < length js → (get_or js q no_job).ready ≤ m → a ≡ b) → Dec (rule m left < length js)
      → cond {A = ℕ} (eqb a 0) 0 (cond (of_task js k (rule m left)) 1 0) ≡ cond (eqb b 0) 0 (cond (of_task js k (rule m left)) 1 0)
  unfolding of_task
  same_given m a b k left h (yes l) = rw (h (rule m left) l (waits_then m _ _ (waiting m left l)).is_ready) refl
  same_given m a b k left h (no l) = rw (le-ltb (rule m left) (length js) (omega arith)) (none_given a ∙ sym (none_given b))

  module _ (s u : List ℕ) (n : ℕ) (alike : Alike js s u n) where
    pub left_alike : (t : ℕ) → t ≤ n → left_by rule js s t ≡ left_by rule js u t
    unfolding left_by
    left_alike zero l = refl
    left_alike (suc t) l =
        ap (slot_by rule t (get_or s t 0)) (left_alike t (omega arith))
        ∙ same_slot t _ _ (left_by rule js u t) (left_length rule js u t) (alike t l) (dec_lt _ _)

    pub given_alike : (k m : ℕ) → m < n → given_by rule js s k m ≡ given_by rule js u k m
    unfolding given_by
    given_alike k m l = rw (left_alike m (omega arith)) (same_given m _ _ k (left_by rule js u m) (alike m l) (dec_lt _ _))

    pub miss_alike : (ks : List Task) (t : ℕ) → t ≤ n → MissBy rule ks js s t → MissBy rule ks js u t
    miss_alike ks t l miss =
        record { place = miss.place; inside = miss.inside; due = miss.due; late = rw (left_alike t l) at miss.late }
