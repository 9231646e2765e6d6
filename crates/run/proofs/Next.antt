-- The job that a supplied slot serves by any order of service (`next_by`): it waits, no job that waits goes before it, and there is none only
-- where none waits. By induction along the list: the head is the one to serve, or the one found behind it is.
use Prim.Native.Nat.{ℕ, zero, suc, ◌≤◌, ◌<◌, suc-le-suc, zero-le}
use mathlib.Core.Bool.{Bool, true, false, cond, ◌&&◌, ◌||◌, false≢true, true≢false}
use mathlib.Core.List.{List, [], ◌∷◌}
use mathlib.Core.Path.{◌≡◌, refl}
use lib.Dec.{leb}
use lib.ListN.{length, get_or}
use borrow.Author.Tests.{leb-true, leb-false, ltb-true, not-true, not-false, le-leb, lt-leb, lt-ltb}
use native.Mathlib.Nat.{not-suc-le-zero, le_of_suc-le-suc, le_refl}
use native.Mathlib.Omega.{arith}
use Rattle.budget.proofs.Valid.{and_true, both}
use Rattle.run.specs.Job.{Job, no_job}
use Rattle.run.specs.Order.{Order, waits, head_first, next_by}

pub neither : (a b : Bool) → (a || b) ≡ false → (a ≡ false) × (b ≡ false)
neither true b e = absurd (true≢false e)
neither false b e = (refl, e)

pub not_both : (a b : Bool) → (a && b) ≡ false → a ≡ true → b ≡ false
not_both true b e p = e
not_both false b e p = absurd (false≢true p)

either : (a b : Bool) → (a || b) ≡ true → a ≡ false → b ≡ true
either true b e p = absurd (true≢false p)
either false b e p = e

-- what it is to wait, in numbers
pub record Waits (n : ℕ) (j : Job) (left : ℕ) : Type 0 where
  pub is_ready : j.ready ≤ n
  pub some : 0 < left

pub waits_then : (n : ℕ) (j : Job) (left : ℕ) → waits n j left ≡ true → Waits n j left
unfolding waits
waits_then n j left e = record { is_ready = leb-true _ _ (both _ _ e).0; some = ltb-true _ _ (both (leb j.ready n) _ e).1 }

pub then_waits : (n : ℕ) (j : Job) (left : ℕ) → Waits n j left → waits n j left ≡ true
unfolding waits
then_waits n j left w = and_true (le-leb _ _ w.is_ready) (lt-ltb _ _ w.some)

waits_none : (n : ℕ) (j : Job) → waits n j 0 ≡ true → ⊥
waits_none n j e = not-suc-le-zero (waits_then n j 0 e).some

-- the order decides between any two jobs: not both go before each other, and not to go before carries over
pub record Decides (before : Order) : Type 0 where
  pub once : (a b : Job) → before a b ≡ true → before b a ≡ false
  pub through : (a b d : Job) → before a b ≡ false → before b d ≡ false → before a d ≡ false

module _ (before : Order) (n : ℕ) where
  -- what the head's test shows: it waits and goes before the one found behind it, or something waits behind it that goes before it
  module _ (j : Job) (w : ℕ) (js : List Job) (p : ℕ) where
    head_waits : head_first before n j w js p ≡ true → waits n j w ≡ true
    unfolding head_first
    head_waits e = (both _ _ e).0

    head_before : head_first before n j w js p ≡ true → p < length js → before (get_or js p no_job) j ≡ false
    unfolding head_first
    head_before e h = not-true _ (either _ _ (both (waits n j w) _ e).1 (lt-leb _ _ h))

    behind_found : head_first before n j w js p ≡ false → waits n j w ≡ true → p < length js
    unfolding head_first
    behind_found e h = leb-false _ _ (neither _ _ (not_both _ _ e h)).0

    behind_before : head_first before n j w js p ≡ false → waits n j w ≡ true → before (get_or js p no_job) j ≡ true
    unfolding head_first
    behind_before e h = not-false _ (neither (leb (length js) p) _ (not_both _ _ e h)).1

  -- the place found is at most the count
  step_most : (b : Bool) (p c : ℕ) → p ≤ c → cond b 0 (suc p) ≤ suc c
  step_most true p c h = zero-le
  step_most false p c h = suc-le-suc h

  pub next_most : (js : List Job) (left : List ℕ) → next_by before js n left ≤ length js
  unfolding next_by
  next_most [] left = zero-le
  next_most (j ∷ js) [] = le_refl _
  next_most (j ∷ js) (w ∷ left) = step_most (head_first before n j w js (next_by before js n left)) _ _ (next_most js left)

  -- where one waits, one is found
  step_found : (j : Job) (w : ℕ) (js : List Job) (left : List ℕ) (b : Bool) → head_first before n j w js (next_by before js n left) ≡ b
      → ((q : ℕ) → q < length js → waits n (get_or js q no_job) (get_or left q 0) ≡ true → next_by before js n left < length js)
      → (q : ℕ) → q < suc (length js) → waits n (get_or (j ∷ js) q no_job) (get_or (w ∷ left) q 0) ≡ true
      → cond b 0 (suc (next_by before js n left)) < suc (length js)
  step_found j w js left true e ih q h k = suc-le-suc zero-le
  step_found j w js left false e ih zero h k = suc-le-suc (behind_found j w js _ e k)
  step_found j w js left false e ih (suc q) h k = suc-le-suc (ih q (le_of_suc-le-suc h) k)

  pub next_found : (js : List Job) (left : List ℕ) (q : ℕ) → q < length js → waits n (get_or js q no_job) (get_or left q 0) ≡ true
      → next_by before js n left < length js
  unfolding next_by
  next_found [] left q h k = absurd (not-suc-le-zero h)
  next_found (j ∷ js) [] q h k = absurd (waits_none n _ k)
  next_found (j ∷ js) (w ∷ left) q h k = step_found j w js left _ refl (next_found js left) q h k

  -- the one found waits
  step_waits : (j : Job) (w : ℕ) (js : List Job) (left : List ℕ) (p : ℕ) (b : Bool) → head_first before n j w js p ≡ b
      → (p < length js → waits n (get_or js p no_job) (get_or left p 0) ≡ true)
      → cond b 0 (suc p) < suc (length js)
      → waits n (get_or (j ∷ js) (cond b 0 (suc p)) no_job) (get_or (w ∷ left) (cond b 0 (suc p)) 0) ≡ true
  step_waits j w js left p true e ih h = head_waits j w js p e
  step_waits j w js left p false e ih h = ih (le_of_suc-le-suc h)

  pub next_waits : (js : List Job) (left : List ℕ) → next_by before js n left < length js
      → waits n (get_or js (next_by before js n left) no_job) (get_or left (next_by before js n left) 0) ≡ true
  unfolding next_by
  next_waits [] left h = absurd (not-suc-le-zero h)
  next_waits (j ∷ js) [] h = absurd (omega arith)
  next_waits (j ∷ js) (w ∷ left) h = step_waits j w js left _ _ refl (next_waits js left) h

  -- no job that waits goes before the one found
  module _ (decides : Decides before) where
    not_itself : (j : Job) (b : Bool) → before j j ≡ b → b ≡ false
    not_itself j true e = rw e at (decides.once j j e)
    not_itself j false e = refl

    step_first : (j : Job) (w : ℕ) (js : List Job) (left : List ℕ) (b : Bool) → head_first before n j w js (next_by before js n left) ≡ b
        → ((q : ℕ) → q < length js → waits n (get_or js q no_job) (get_or left q 0) ≡ true
        → before (get_or js q no_job) (get_or js (next_by before js n left) no_job) ≡ false)
        → (q : ℕ) → q < suc (length js) → waits n (get_or (j ∷ js) q no_job) (get_or (w ∷ left) q 0) ≡ true
        → before (get_or (j ∷ js) q no_job) (get_or (j ∷ js) (cond b 0 (suc (next_by before js n left))) no_job) ≡ false
    step_first j w js left true e ih zero h k = not_itself j _ refl
    step_first j w js left true e ih (suc q) h k =
        let l = le_of_suc-le-suc h in
        decides.through _ _ _ (ih q l k) (head_before j w js _ e (next_found js left q l k))
    step_first j w js left false e ih zero h k = decides.once _ _ (behind_before j w js _ e k)
    step_first j w js left false e ih (suc q) h k = ih q (le_of_suc-le-suc h) k

    pub next_first : (js : List Job) (left : List ℕ) (q : ℕ) → q < length js → waits n (get_or js q no_job) (get_or left q 0) ≡ true
        → before (get_or js q no_job) (get_or js (next_by before js n left) no_job) ≡ false
    unfolding next_by
    next_first [] left q h k = absurd (not-suc-le-zero h)
    next_first (j ∷ js) [] q h k = absurd (waits_none n _ k)
    next_first (j ∷ js) (w ∷ left) q h k = step_first j w js left _ refl (next_first js left) q h k
