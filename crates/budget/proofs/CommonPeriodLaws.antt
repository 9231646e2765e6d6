-- The common period is the least common multiple: Euclid's rule keeps the common divisors of its two numbers, and a common factor may be taken out of both.
use Prim.Native.Nat.{ℕ, zero, suc, ◌*◌, ◌-◌, ◌/◌, ◌%◌, ◌≤◌, ◌<◌, ◌∣◌, suc-le-suc}
use mathlib.Core.Path.{◌≡◌, refl, sym, ◌∙◌, ap}
use mathlib.Core.Bool.{true}
use mathlib.Core.List.{List, [], ◌∷◌}
use native.Mathlib.Nat.{le_trans, le_of_dvd, le_of_suc-le-suc, lt_of_lt_of_le, lt-suc_self, mod-lt, mod_def, mul_comm, mul-pos, mul-sub, mul_right_comm, zero-mul, zero-lt-suc, mul-div-mul_right, div-mul_cancel, dvd_refl, dvd-zero, dvd_trans, dvd-mod_iff, dvd-mul_left, dvd-mul_right, dvd_of_mul-dvd-mul_right, mul-dvd-mul_left, not-suc-le-zero, pos_of_dvd_of_pos, eq-zero-or-pos}
use mathlib.Core.Logic.{◌⊎◌, inl, inr}
use native.Mathlib.Omega.{arith}
use lib.ListN.{length, get_or}
use borrow.Author.Tests.{ne_eqb}
use Rattle.budget.specs.declared.task.Task.{Task}
use Rattle.budget.specs.CommonPeriod.{euclid, common_divisor, common_multiple, common_period}
use Rattle.budget.specs.Task.{T, no_task, valid_tasks}
use Rattle.budget.proofs.Valid.{valid_head, valid_tail}

-- ---- Euclid's rule

-- one step of the rule, by the outcome of its test
euclid_end : (n a : ℕ) → euclid (suc n) a 0 ≡ a
unfolding euclid
euclid_end n a = refl

euclid_step : (n a b : ℕ) → 0 < b → euclid (suc n) a b ≡ euclid n b (a % b)
unfolding euclid
euclid_step n a b h = rw (ne_eqb b 0 (λ e. omega arith), euclid)

-- the remainder leaves fewer steps than were left
fewer : (n a b : ℕ) → b < suc n → 0 < b → a % b < n
fewer n a b h k = lt_of_lt_of_le (mod-lt a k) (le_of_suc-le-suc h)

-- more steps than are needed change nothing
euclid_steps : (n m a b : ℕ) → b < n → b < m → euclid n a b ≡ euclid m a b
euclid_steps zero m a b h k = absurd (not-suc-le-zero h)
euclid_steps (suc n) zero a b h k = absurd (not-suc-le-zero k)
euclid_steps (suc n) (suc m) a b h k = go (eq-zero-or-pos b) (euclid_steps n m b (a % b))
  where
    go : (b ≡ 0) ⊎ (0 < b) → (a % b < n → a % b < m → euclid n b (a % b) ≡ euclid m b (a % b)) → euclid (suc n) a b ≡ euclid (suc m) a b
    go (inl e) ih = rw (e, euclid_end n a, euclid_end m a)
    go (inr l) ih = euclid_step n a b l ∙ ih (fewer n a b h l) (fewer m a b k l) ∙ sym (euclid_step m a b l)

-- the rule as its code has it: at zero it ends, else it goes on with the remainder
pub common_divisor_end : (a : ℕ) → common_divisor a 0 ≡ a
unfolding common_divisor
common_divisor_end a = euclid_end 0 a

pub common_divisor_step : (a b : ℕ) → 0 < b → common_divisor a b ≡ common_divisor b (a % b)
unfolding common_divisor
common_divisor_step a b h = euclid_step b a b h ∙ euclid_steps b (suc (a % b)) b (a % b) (mod-lt a h) (lt-suc_self (a % b))

-- the outcome divides both numbers
euclid_divides : (n a b : ℕ) → b < n → (euclid n a b ∣ a) × (euclid n a b ∣ b)
euclid_divides zero a b h = absurd (not-suc-le-zero h)
euclid_divides (suc n) a b h = go (eq-zero-or-pos b) (euclid_divides n b (a % b))
  where
    go : (b ≡ 0) ⊎ (0 < b) → (a % b < n → (euclid n b (a % b) ∣ b) × (euclid n b (a % b) ∣ a % b)) → (euclid (suc n) a b ∣ a) × (euclid (suc n) a b ∣ b)
    go (inl e) ih = rw (e, euclid_end n a) (dvd_refl a, dvd-zero a)
    go (inr l) ih = rw (euclid_step n a b l) ((dvd-mod_iff _ (ih (fewer n a b h l)).0).0 (ih (fewer n a b h l)).1, (ih (fewer n a b h l)).0)

-- what divides both numbers divides the outcome
euclid_greatest : (n a b d : ℕ) → d ∣ a → d ∣ b → d ∣ euclid n a b
unfolding euclid
euclid_greatest zero a b d x y = x
euclid_greatest (suc n) a b d x y = go (eq-zero-or-pos b) (euclid_greatest n b (a % b) d y ((dvd-mod_iff d y).1 x))
  where
    go : (b ≡ 0) ⊎ (0 < b) → d ∣ euclid n b (a % b) → d ∣ euclid (suc n) a b
    go (inl e) ih = rw (e, euclid_end n a) x
    go (inr l) ih = rw (euclid_step n a b l) ih

-- a factor of both numbers is a factor of the remainder, and of the outcome
mod_scaled : (a b m : ℕ) → 0 < m → a * m % (b * m) ≡ a % b * m
mod_scaled a b m h =
    mod_def (a * m) (b * m) ∙ rw (mul-div-mul_right a b h, mod_def a b, mul_comm (a - b * (a / b)) m, mul-sub) (omega arith)

euclid_scaled : (n a b m : ℕ) → 0 < m → euclid n (a * m) (b * m) ≡ euclid n a b * m
unfolding euclid
euclid_scaled zero a b m h = refl
euclid_scaled (suc n) a b m h = go (eq-zero-or-pos b) (euclid_scaled n b (a % b) m h)
  where
    go : (b ≡ 0) ⊎ (0 < b) → euclid n (b * m) (a % b * m) ≡ euclid n b (a % b) * m → euclid (suc n) (a * m) (b * m) ≡ euclid (suc n) a b * m
    go (inl e) ih = rw (e, zero-mul, euclid_end n a, euclid_end n (a * m))
    go (inr l) ih = euclid_step n (a * m) (b * m) (mul-pos l h) ∙ rw (mod_scaled a b m h, euclid_step n a b l) ih

-- ---- the multiple of two numbers
pub divides_first : (a b : ℕ) → common_divisor a b ∣ a
unfolding common_divisor
divides_first a b = (euclid_divides (suc b) a b (lt-suc_self b)).0

pub divides_second : (a b : ℕ) → common_divisor a b ∣ b
unfolding common_divisor
divides_second a b = (euclid_divides (suc b) a b (lt-suc_self b)).1

pub divisor_positive : (a b : ℕ) → 1 ≤ a → 1 ≤ common_divisor a b
divisor_positive a b h = pos_of_dvd_of_pos (divides_first a b) h

-- there is none only where there is nothing to divide
pub no_divisor : (a b : ℕ) → common_divisor a b ≡ 0 → b ≡ 0
no_divisor a b e = go (eq-zero-or-pos b)
  where
    go : (b ≡ 0) ⊎ (0 < b) → b ≡ 0
    go (inl z) = z
    go (inr l) = absurd (omega (arith, e, pos_of_dvd_of_pos (divides_second a b) l))

-- the multiple times the divisor is the product
product : (a b : ℕ) → common_multiple a b * common_divisor a b ≡ a * b
unfolding common_multiple
product a b =
    mul_right_comm (a / common_divisor a b) b (common_divisor a b)
    ∙ ap (λ (x : ℕ). x * b) (div-mul_cancel (common_divisor a b) (divides_first a b))

pub multiple_positive : (a b : ℕ) → 1 ≤ a → 1 ≤ b → 1 ≤ common_multiple a b
multiple_positive a b h k = pos_of_dvd_of_pos (dvd-mul_right (common_multiple a b) (common_divisor a b)) (rw product (mul-pos h k))

pub multiple_of_first : (a b : ℕ) → 1 ≤ a → a ∣ common_multiple a b
multiple_of_first a b h =
    dvd_of_mul-dvd-mul_right a (divisor_positive a b h) (rw product (mul-dvd-mul_left (common_divisor a b) a (divides_second a b)))

pub multiple_of_second : (a b : ℕ) → b ∣ common_multiple a b
unfolding common_multiple
multiple_of_second a b = dvd-mul_left b (a / common_divisor a b)

pub multiple_least : (a b m : ℕ) → 1 ≤ a → a ∣ m → b ∣ m → common_multiple a b ∣ m
unfolding common_divisor
multiple_least a b m h x y = go (eq-zero-or-pos m)
  where
    go : (m ≡ 0) ⊎ (0 < m) → common_multiple a b ∣ m
    go (inl e) = rw e (dvd-zero (common_multiple a b))
    go (inr l) =
        dvd_of_mul-dvd-mul_right (common_multiple a b) (divisor_positive a b h)
        (rw (product, mul_comm m (common_divisor a b), ← euclid_scaled (suc b) a b m l)
        (euclid_greatest (suc b) (a * m) (b * m) (a * b) (mul-dvd-mul_left b a y) (rw (mul_comm a b) (mul-dvd-mul_left a b x))))

-- ---- the common period

-- the first multiple of a list in range is positive again
pub first_positive : (p : ℕ) (k : Task) (ks : List Task) → 1 ≤ p → valid_tasks (k ∷ ks) ≡ true → 1 ≤ common_multiple p (T k)
first_positive p k ks h e = let v = valid_head k ks e in multiple_positive p (T k) h (le_trans v.works (le_trans v.fits v.within))

pub common_positive : (p : ℕ) (ks : List Task) → 1 ≤ p → valid_tasks ks ≡ true → 1 ≤ common_period p ks
unfolding common_period
common_positive p [] h e = h
common_positive p (k ∷ ks) h e = common_positive (common_multiple p (T k)) ks (first_positive p k ks h e) (valid_tail k ks e)

pub common_divides_first : (p : ℕ) (ks : List Task) → 1 ≤ p → valid_tasks ks ≡ true → p ∣ common_period p ks
unfolding common_period
common_divides_first p [] h e = dvd_refl p
common_divides_first p (k ∷ ks) h e =
    dvd_trans p (multiple_of_first p (T k) h)
    (common_divides_first (common_multiple p (T k)) ks (first_positive p k ks h e) (valid_tail k ks e))

pub common_divides_at : (p : ℕ) (ks : List Task) → 1 ≤ p → valid_tasks ks ≡ true → (n : ℕ) → n < length ks → T (get_or ks n no_task) ∣ common_period p ks
unfolding common_period
common_divides_at p [] h e n l = absurd (not-suc-le-zero l)
common_divides_at p (k ∷ ks) h e zero l =
    dvd_trans (T k) (multiple_of_second p (T k))
    (common_divides_first (common_multiple p (T k)) ks (first_positive p k ks h e) (valid_tail k ks e))
common_divides_at p (k ∷ ks) h e (suc n) l =
    common_divides_at (common_multiple p (T k)) ks (first_positive p k ks h e) (valid_tail k ks e) n (le_of_suc-le-suc l)

pub common_least : (p : ℕ) (ks : List Task) → 1 ≤ p → valid_tasks ks ≡ true → (m : ℕ) → p ∣ m → ((n : ℕ) → n < length ks → T (get_or ks n no_task) ∣ m) → common_period p ks ∣ m
unfolding common_period
common_least p [] h e m x f = x
common_least p (k ∷ ks) h e m x f =
    common_least (common_multiple p (T k)) ks (first_positive p k ks h e) (valid_tail k ks e) m
    (multiple_least p (T k) m h x (f zero (zero-lt-suc (length ks))))
    (λ n l. f (suc n) (suc-le-suc l))

-- so it is no less than the number it begins with
pub common_grows : (p : ℕ) (ks : List Task) → 1 ≤ p → valid_tasks ks ≡ true → p ≤ common_period p ks
common_grows p ks h e = le_of_dvd (common_positive p ks h e) (common_divides_first p ks h e)
