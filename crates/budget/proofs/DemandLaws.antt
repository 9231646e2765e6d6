-- Laws of demand. As the span D − J of a task is at most T, its jobs due by t number ⌊(t + T − span)/T⌋ without cases; the two bounds of that
-- quotient fix the number, and every law of one task checks them. The laws of a table add up those of its tasks.
use Prim.Native.Nat.{ℕ, suc, ◌+◌, ◌-◌, ◌*◌, ◌/◌, ◌≤◌, ◌<◌, ◌∣◌, zero-le, suc-le-suc}
use mathlib.Core.Path.{◌≡◌, refl, sym, ap, ◌∙◌}
use mathlib.Core.Bool.{Bool, true, false, cond}
use mathlib.Core.List.{List, [], ◌∷◌, ◌++◌}
use lib.Dec.{leb}
use lib.ListN.{length, get_or}
use borrow.Author.Tests.{leb-true, leb-false}
use native.Mathlib.Nat.{div-mul-le_self, lt-div-mul-add, div-eq_of_lt-le, add-div_right, div-eq_of_lt, div-mul_cancel, le_trans, lt_of_mul-lt-mul_right, mul-le-mul_left, mul-le-mul_right, le_of_suc-le-suc}
use native.Mathlib.Omega.{arith}
use Rattle.budget.specs.declared.task.Task.{Task}
use Rattle.budget.specs.Demand.{demand, jobs_by}
use Rattle.budget.specs.Limits.{limit}
use Rattle.budget.specs.Task.{T, C, no_task, span, valid_tasks}
use Rattle.budget.proofs.Valid.{ValidTask, span_fits, span_within, valid_head, valid_tail}

module _ (k : Task) (v : ValidTask k) where
  recurring : 0 < T k
  recurring = le_trans v.works (le_trans (span_fits k v) (span_within k v))

  quotient : (b : Bool) (t : ℕ) → leb (span k) t ≡ b → cond b ((t - span k) / T k + 1) 0 ≡ (t + T k - span k) / T k
  quotient true t e =
      let h : span k ≤ t = leb-true _ _ e in
      let shifted : t + T k - span k ≡ t - span k + T k = omega arith in
      rw shifted (sym (add-div_right (t - span k) recurring))
  quotient false t e =
      let h : t < span k = leb-false _ _ e in
      sym (div-eq_of_lt (omega (arith, span_within k v)))

  pub jobs_by_quotient : (t : ℕ) → jobs_by k t ≡ (t + T k - span k) / T k
  unfolding jobs_by
  jobs_by_quotient t = quotient _ t refl

  -- the last of the jobs due by t is due by t
  pub jobs_due : (t : ℕ) → jobs_by k t * T k + span k ≤ t + T k
  jobs_due t = rw (jobs_by_quotient t) (omega (arith, div-mul-le_self (t + T k - span k) (T k), span_within k v))

  -- the next deadline lies after t
  pub jobs_next_after : (t : ℕ) → t < span k + jobs_by k t * T k
  jobs_next_after t = rw (jobs_by_quotient t) (omega (arith, lt-div-mul-add {a = t + T k - span k} recurring, span_within k v))

  -- the two bounds fix the number of jobs
  pub jobs_fixed : (t n : ℕ) → n * T k + span k ≤ t + T k → t < span k + n * T k → jobs_by k t ≡ n
  jobs_fixed t n low high = jobs_by_quotient t ∙ div-eq_of_lt-le (T k) (omega arith) (omega (arith, span_within k v))

  -- the number stays until that deadline, and is one more there: the step instants of a task
  pub jobs_same_until : (t u : ℕ) → t ≤ u → u < span k + jobs_by k t * T k → jobs_by k u ≡ jobs_by k t
  jobs_same_until t u h below = jobs_fixed u (jobs_by k t) (omega (arith, jobs_due t)) below

  pub jobs_at_next : (t : ℕ) → jobs_by k (span k + jobs_by k t * T k) ≡ suc (jobs_by k t)
  jobs_at_next t = jobs_fixed _ (suc (jobs_by k t)) (omega arith) (omega (arith, recurring))

  pub jobs_zero : jobs_by k 0 ≡ 0
  jobs_zero = jobs_fixed 0 0 (omega (arith, span_within k v)) (omega (arith, v.works, span_fits k v))

  pub jobs_mono : (a b : ℕ) → a ≤ b → jobs_by k a ≤ jobs_by k b
  jobs_mono a b h = le_of_suc-le-suc (lt_of_mul-lt-mul_right (T k) (omega (arith, jobs_due a, jobs_next_after b)))

  -- a stretch of whole periods brings the jobs that are due by its length
  pub jobs_shift : (L : ℕ) → T k ∣ L → (t : ℕ) → jobs_by k (t + L) ≡ jobs_by k t + jobs_by k L
  jobs_shift L divides t =
      let e = div-mul_cancel (T k) divides in
      let whole : jobs_by k L ≡ L / T k = jobs_fixed L _ (omega (arith, e, span_within k v)) (omega (arith, e, v.works, span_fits k v)) in
      rw whole (jobs_fixed (t + L) (jobs_by k t + L / T k) (omega (arith, e, jobs_due t)) (omega (arith, e, jobs_next_after t)))

  -- the work of the jobs due by t is at most one period more than t, as C ≤ T
  pub jobs_work : (t : ℕ) → jobs_by k t * C k ≤ t + limit
  jobs_work t = omega (arith, mul-le-mul_left (jobs_by k t) (le_trans (span_fits k v) (span_within k v)), jobs_due t, v.bounded)

pub demand_zero : (ks : List Task) → valid_tasks ks ≡ true → demand ks 0 ≡ 0
unfolding demand
demand_zero [] e = refl
demand_zero (k ∷ ks) e = rw (jobs_zero k (valid_head k ks e), demand_zero ks (valid_tail k ks e)) (omega arith)

pub demand_mono : (ks : List Task) → valid_tasks ks ≡ true → (a b : ℕ) → a ≤ b → demand ks a ≤ demand ks b
unfolding demand
demand_mono [] e a b h = omega arith
demand_mono (k ∷ ks) e a b h =
    omega (arith, mul-le-mul_right (C k) (jobs_mono k (valid_head k ks e) a b h), demand_mono ks (valid_tail k ks e) a b h)

pub demand_append : (ks ls : List Task) (t : ℕ) → demand (ks ++ ls) t ≡ demand ks t + demand ls t
unfolding demand
demand_append [] ls t = omega arith
demand_append (k ∷ ks) ls t = omega (arith, demand_append ks ls t)

-- where every period divides L, demand repeats from L on
pub demand_shift : (ks : List Task) → valid_tasks ks ≡ true → (L : ℕ) → ((n : ℕ) → n < length ks → T (get_or ks n no_task) ∣ L)
    → (t : ℕ) → demand ks (t + L) ≡ demand ks t + demand ks L
unfolding demand
demand_shift [] e L divides t = refl
demand_shift (k ∷ ks) e L divides t =
    omega (
      arith,
      ap (λ (n : ℕ). n * C k) (jobs_shift k (valid_head k ks e) L (divides 0 (suc-le-suc zero-le)) t),
      demand_shift ks (valid_tail k ks e) L (λ n h. divides (suc n) (suc-le-suc h)) t,
    )

-- each task asks for at most one period more than t
pub demand_bound : (ks : List Task) → valid_tasks ks ≡ true → (t : ℕ) → demand ks t ≤ length ks * (t + limit)
unfolding demand
demand_bound [] e t = omega arith
demand_bound (k ∷ ks) e t = omega (arith, jobs_work k (valid_head k ks e) t, demand_bound ks (valid_tail k ks e) t)
