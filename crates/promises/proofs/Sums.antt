-- Laws of the sums over jobs (`work_of`, `left_of`) and over slots (`units`). The chief one: the jobs whose key is below n + 1 are those whose
-- key is n and those whose key is below n, so the sum over the keys in a stretch is the work of the jobs whose keys lie there.
use Prim.Native.Nat.{ℕ, zero, suc, ◌+◌, ◌-◌, ◌≤◌, ◌<◌}
use mathlib.Core.Bool.{Bool, true, false, cond, ◌&&◌}
use mathlib.Core.List.{List, [], ◌∷◌, ◌++◌}
use mathlib.Core.Path.{◌≡◌, refl, sym, ap}
use lib.Dec.{leb, ltb, eqb}
use lib.ListN.{length, get_or}
use borrow.Author.Tests.{lt-ltb, le-ltb, le-leb, lt-leb, eq-eqb, ne_eqb}
use native.Mathlib.Decide.{dec_lt, ℕ_discrete}
use native.Mathlib.Nat.{add-zero, zero-add, add-suc, le_dest}
use native.Mathlib.Omega.{arith}
use Rattle.run.specs.Job.{Job, no_job}
use Rattle.run.specs.Run.{serve}
use Rattle.trace.specs.Units.{units}
use Rattle.trace.proofs.Units.{units_add}
use Rattle.promises.specs.inner.Serving.{work_of, left_of}

-- a value counted below n + 1 is counted at n or below n
below_suc : (k n : ℕ) (u : Bool) (w v : ℕ) → (k ≡ n → w ≡ v)
    → cond (ltb k (suc n) && u) w 0 ≡ cond (eqb k n && u) v 0 + cond (ltb k n && u) w 0
below_suc k n u w v h = go (dec_lt k n) (ℕ_discrete k n)
  where
    go : Dec (k < n) → Dec (k ≡ n) → cond (ltb k (suc n) && u) w 0 ≡ cond (eqb k n && u) v 0 + cond (ltb k n && u) w 0
    go (yes l) (yes e) = absurd (omega arith)
    go (yes l) (no d) = rw (lt-ltb k (suc n) (omega arith), lt-ltb k n l, ne_eqb k n d) (sym (zero-add _))
    go (no l) (yes e) = rw (lt-ltb k (suc n) (omega arith), le-ltb k n (omega arith), eq-eqb k n e, h e) (sym (add-zero _))
    go (no l) (no d) = rw (le-ltb k (suc n) (omega arith), le-ltb k n (omega arith), ne_eqb k n d) refl

-- a value is counted below n or from n on
below_or_from : (k n : ℕ) (u : Bool) (w : ℕ) → cond u w 0 ≡ cond (ltb k n && u) w 0 + cond (leb n k && u) w 0
below_or_from k n u w = go (dec_lt k n)
  where
    go : Dec (k < n) → cond u w 0 ≡ cond (ltb k n && u) w 0 + cond (leb n k && u) w 0
    go (yes l) = rw (lt-ltb k n l, lt-leb n k l) (sym (add-zero _))
    go (no l) = rw (le-ltb k n (omega arith), le-leb n k (omega arith)) (sym (zero-add _))

module _ (key : Job → ℕ) (p : Job → Bool) where
  work_below_suc : (js : List Job) (n : ℕ)
      → work_of (λ j. ltb (key j) (suc n) && p j) js ≡ work_of (λ j. eqb (key j) n && p j) js + work_of (λ j. ltb (key j) n && p j) js
  unfolding work_of
  work_below_suc [] n = omega arith
  work_below_suc (j ∷ js) n =
      let tail = work_below_suc js n in
      let head = below_suc (key j) n (p j) j.work j.work (λ e. refl) in
      omega arith

  -- the work of the jobs whose keys lie in a stretch, summed by key
  pub work_by_key : (js : List Job) (a n : ℕ)
      → units (λ k. work_of (λ j. eqb (key j) k && p j) js) a n + work_of (λ j. ltb (key j) a && p j) js
      ≡ work_of (λ j. ltb (key j) (a + n) && p j) js
  unfolding units
  work_by_key js a zero = rw (add-zero a, zero-add) refl
  work_by_key js a (suc n) = omega (arith, work_by_key js a n, work_below_suc js (a + n), ap (λ (m : ℕ). work_of (λ j. ltb (key j) m && p j) js) (add-suc a n))

  pub work_below_or_from : (js : List Job) (n : ℕ) → work_of p js ≡ work_of (λ j. ltb (key j) n && p j) js + work_of (λ j. leb n (key j) && p j) js
  unfolding work_of
  work_below_or_from [] n = omega arith
  work_below_or_from (j ∷ js) n =
      let tail = work_below_or_from js n in
      let head = below_or_from (key j) n (p j) j.work in
      omega arith

  -- the work left of the jobs whose key is below n + 1, where those whose key is n have all their work left
  pub left_below_suc : (js : List Job) (left : List ℕ) (n : ℕ) → length left ≡ length js
      → ((q : ℕ) → q < length js → key (get_or js q no_job) ≡ n → get_or left q 0 ≡ (get_or js q no_job).work)
      → left_of (λ j. ltb (key j) (suc n) && p j) js left
      ≡ work_of (λ j. eqb (key j) n && p j) js + left_of (λ j. ltb (key j) n && p j) js left
  unfolding work_of left_of
  left_below_suc [] left n e h = omega arith
  left_below_suc (j ∷ js) [] n e h = absurd (omega arith)
  left_below_suc (j ∷ js) (w ∷ left) n e h =
      let tail = left_below_suc js left n (omega arith) (λ q l. h (suc q) (omega arith)) in
      let head = below_suc (key j) n (p j) w j.work (h 0 (omega arith)) in
      omega arith

-- one test's jobs pass another test
one_le : (a b : Bool) (w : ℕ) → (a ≡ true → b ≡ true) → cond a w 0 ≤ cond b w 0
one_le true b w h = rw (h refl) (omega arith)
one_le false b w h = omega arith

no_work : (b : Bool) (w : ℕ) → (b ≡ true → ⊥) → cond b w 0 ≡ 0
no_work true w h = absurd (h refl)
no_work false w h = refl

pub work_le : (p r : Job → Bool) (js : List Job)
    → ((q : ℕ) → q < length js → p (get_or js q no_job) ≡ true → r (get_or js q no_job) ≡ true) → work_of p js ≤ work_of r js
unfolding work_of
work_le p r [] h = omega arith
work_le p r (j ∷ js) h =
    let head = one_le (p j) (r j) j.work (h 0 (omega arith)) in
    let tail = work_le p r js (λ q l. h (suc q) (omega arith)) in
    omega arith

pub work_none : (p : Job → Bool) (js : List Job) → ((q : ℕ) → q < length js → p (get_or js q no_job) ≡ true → ⊥) → work_of p js ≡ 0
unfolding work_of
work_none p [] h = refl
work_none p (j ∷ js) h = omega (arith, no_work (p j) j.work (h 0 (omega arith)), work_none p js (λ q l. h (suc q) (omega arith)))

pub work_append : (p : Job → Bool) (xs ys : List Job) → work_of p (xs ++ ys) ≡ work_of p xs + work_of p ys
unfolding work_of
work_append p [] ys = sym (zero-add _)
work_append p (j ∷ xs) ys = omega (arith, work_append p xs ys)

less_le : (b : Bool) (w : ℕ) → cond b (w - 1) 0 ≤ cond b w 0
less_le true w = omega arith
less_le false w = omega arith

-- a job with work left that passes the test
pub record Left (p : Job → Bool) (js : List Job) (left : List ℕ) : Type 0 where
  pub place : ℕ
  pub inside : place < length js
  pub passes : p (get_or js place no_job) ≡ true
  pub some : 0 < get_or left place 0

module _ (p : Job → Bool) where
  later : (j : Job) (js : List Job) (w : ℕ) (left : List ℕ) → Left p js left → Left p (j ∷ js) (w ∷ left)
  later j js w left f = record { place = suc f.place; inside = omega (arith, f.inside); passes = f.passes; some = f.some }

  here_or_later : (j : Job) (js : List Job) (w : ℕ) (left : List ℕ) (b : Bool) → p j ≡ b → Dec (0 < w)
      → 0 < cond b w 0 + left_of p js left → (0 < left_of p js left → Left p js left) → Left p (j ∷ js) (w ∷ left)
  here_or_later j js w left true e (yes l) h r = record { place = 0; inside = omega arith; passes = e; some = l }
  here_or_later j js w left true e (no l) h r = later j js w left (r (omega arith))
  here_or_later j js w left false e d h r = later j js w left (r (omega arith))

  pub left_found : (js : List Job) (left : List ℕ) → 0 < left_of p js left → Left p js left
  unfolding left_of
  left_found [] left h = absurd (omega arith)
  left_found (j ∷ js) [] h = absurd (omega arith)
  left_found (j ∷ js) (w ∷ left) h = here_or_later j js w left _ refl (dec_lt 0 w) h (left_found js left)

  pub left_at : (js : List Job) (left : List ℕ) (q : ℕ) → q < length js → p (get_or js q no_job) ≡ true → get_or left q 0 ≤ left_of p js left
  unfolding left_of
  left_at [] left q l h = absurd (omega arith)
  left_at (j ∷ js) [] q l h = omega arith
  left_at (j ∷ js) (w ∷ left) zero l h = rw h (omega arith)
  left_at (j ∷ js) (w ∷ left) (suc q) l h = omega (arith, left_at js left q (omega arith) h)

  -- to serve a job that passes the test takes one unit of the work left, and to serve any other takes none
  pub left_serve : (js : List Job) (left : List ℕ) (q : ℕ) → q < length js → p (get_or js q no_job) ≡ true → 0 < get_or left q 0
      → left_of p js left ≡ suc (left_of p js (serve left q))
  unfolding left_of serve
  left_serve [] left q l h k = absurd (omega arith)
  left_serve (j ∷ js) [] q l h k = absurd (omega arith)
  left_serve (j ∷ js) (w ∷ left) zero l h k = rw h (omega arith)
  left_serve (j ∷ js) (w ∷ left) (suc q) l h k = omega (arith, left_serve js left q (omega arith) h k)

  pub left_serve_le : (js : List Job) (left : List ℕ) (q : ℕ) → left_of p js (serve left q) ≤ left_of p js left
  unfolding left_of serve
  left_serve_le [] left q = omega arith
  left_serve_le (j ∷ js) [] q = omega arith
  left_serve_le (j ∷ js) (w ∷ left) zero = omega (arith, less_le (p j) w)
  left_serve_le (j ∷ js) (w ∷ left) (suc q) = omega (arith, left_serve_le js left q)

-- sums over slots
pub sum_add : (f g : ℕ → ℕ) (a n : ℕ) → units (λ m. f m + g m) a n ≡ units f a n + units g a n
unfolding units
sum_add f g a zero = omega arith
sum_add f g a (suc n) = omega (arith, sum_add f g a n)

pub sum_longer : (f : ℕ → ℕ) (a n m : ℕ) → n ≤ m → units f a n ≤ units f a m
sum_longer f a n m h = let d = le_dest h in rw (← d.1) (omega (arith, units_add f a n d.0))
