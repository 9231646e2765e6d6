-- A slot index n counted from slot −early on stands for the signed slot n − early (`sub_ℕ n early`). Sums and comparisons of such slots are those
-- of their indices: each law by whether an index has reached slot 0.
use Prim.Native.Nat.{ℕ, suc, ◌+◌, ◌-◌, ◌%◌, ◌≤◌, ◌<◌}
use mathlib.Core.Bool.{true}
use mathlib.Core.Path.{◌≡◌, sym, ap, ◌∙◌}
use lib.IntN.{pos, negsuc, ◌+ℤ◌, sub_ℕ}
use lib.Signed.{le_z, lt_z}
use borrow.Author.Tests.{eq-eqb, eqb-true, le-leb, le-ltb, lt-ltb}
use native.Mathlib.Decide.{dec_lt}
use native.Mathlib.Omega.{arith}
use Rattle.run.proofs.Shifted.{moved}
use Rattle.promises.specs.Synchronous.{every_from_zero}

before_zero : (m early : ℕ) → m < early → sub_ℕ m early ≡ negsuc (early - suc m)
before_zero m early h = rw (lt-ltb m early h)

from_zero_lem : (m early : ℕ) → early ≤ m → sub_ℕ m early ≡ pos (m - early)
from_zero_lem m early h = rw (le-ltb m early h)

-- the index early + l stands for slot l
pub slot_at : (m early l : ℕ) → early + l ≡ m → sub_ℕ m early ≡ pos l
slot_at m early l e = let same : m - early ≡ l = omega arith in from_zero_lem m early (omega arith) ∙ ap pos same

-- to go on by some slots
pub slot_later : (n early by : ℕ) → sub_ℕ n early +ℤ pos by ≡ sub_ℕ (n + by) early
slot_later n early by = go (dec_lt n early) (dec_lt (n + by) early)
  where
    go : Dec (n < early) → Dec (n + by < early) → sub_ℕ n early +ℤ pos by ≡ sub_ℕ (n + by) early
    go (yes l) (yes h) = rw (before_zero n early l, before_zero (n + by) early h, lt-ltb by (suc (early - suc n)) (omega arith)) (ap negsuc (omega arith))
    go (yes l) (no h) = rw (before_zero n early l, from_zero_lem (n + by) early (omega arith), le-ltb by (suc (early - suc n)) (omega arith)) (ap pos (omega arith))
    go (no l) (yes h) = absurd (omega arith)
    go (no l) (no h) = rw (from_zero_lem n early (omega arith), from_zero_lem (n + by) early (omega arith)) (ap pos (omega arith))

-- to go on by all the slots before slot 0 has the index back, and two slots moved on alike keep their order
index_back : (n early : ℕ) → sub_ℕ n early +ℤ pos early ≡ pos n
index_back n early = slot_later n early early ∙ slot_at (n + early) early n (omega arith)

pub slots_le : (early m n : ℕ) → m ≤ n → le_z (sub_ℕ m early) (sub_ℕ n early) ≡ true
slots_le early m n h = sym (moved (sub_ℕ m early) (sub_ℕ n early) early) ∙ rw (index_back m early, index_back n early) (le-leb m n h)

pub slots_lt : (early m n : ℕ) → m < n → lt_z (sub_ℕ m early) (sub_ℕ n early) ≡ true
slots_lt early m n h = go (dec_lt m early) (dec_lt n early)
  where
    go : Dec (m < early) → Dec (n < early) → lt_z (sub_ℕ m early) (sub_ℕ n early) ≡ true
    go (yes a) (yes b) = rw (before_zero m early a, before_zero n early b) (lt-ltb (early - suc n) (early - suc m) (omega arith))
    go (yes a) (no b) = rw (before_zero m early a, from_zero_lem n early (omega arith))
    go (no a) (yes b) = absurd (omega arith)
    go (no a) (no b) = rw (from_zero_lem m early (omega arith), from_zero_lem n early (omega arith)) (lt-ltb (m - early) (n - early) (omega arith))

-- the index m stands for slot 0 or one that lies whole periods behind it
pub record OnPeriod (p early m : ℕ) : Type 0 where
  pub slot : ℕ
  pub index : early + slot ≡ m
  pub multiple : slot % p ≡ 0

pub on_period : (p early m : ℕ) → every_from_zero p (sub_ℕ m early) ≡ true → OnPeriod p early m
on_period p early m = go (dec_lt m early)
  where
    go : Dec (m < early) → every_from_zero p (sub_ℕ m early) ≡ true → OnPeriod p early m
    go (yes h) e = absurd (let z : ◌≡◌ {A = ℕ} 0 1 = cc (ap (every_from_zero p) (before_zero m early h)) in omega arith)
    go (no h) e =
        record {
          slot = m - early;
          index = omega arith;
          multiple = eqb-true _ _ (rw (from_zero_lem m early (omega arith)) at e);
        }

pub period_on : (p early m l : ℕ) → early + l ≡ m → l % p ≡ 0 → every_from_zero p (sub_ℕ m early) ≡ true
period_on p early m l e h = rw (slot_at m early l e) (eq-eqb _ _ h)
