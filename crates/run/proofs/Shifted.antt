-- Signed slots by natural numbers: two slots moved on alike keep their order, so where slots are counted from one early enough, their order and
-- their sums are those of natural numbers.
use Prim.Native.Nat.{ℕ, zero, suc, ◌+◌, ◌-◌, ◌^◌, ◌≤◌, ◌<◌}
use mathlib.Core.Path.{◌≡◌, refl, sym, ap₂, ◌∙◌}
use mathlib.Core.Bool.{Bool, true, false, cond, false≢true}
use lib.Dec.{ltb, leb-zero, leb-suc-zero, leb-suc-suc}
use lib.IntN.{ℤ, pos, negsuc, suc_ℤ, ◌+ℤ◌, +ℤ_idr, +ℤ-suc_ℤ}
use lib.Signed.{le_z, lt_z, mag}
use borrow.Author.Tests.{leb-true, ltb-true}
use native.Mathlib.Omega.{arith}
use mir.Syntax.{w32}
use mir.Val.{of_z, to_z}
use mir.ValLaws.{to_z-of_z}
use Rattle.run.specs.Job.{from_zero}

-- one slot on
one_on : (x y : ℤ) → le_z (suc_ℤ x) (suc_ℤ y) ≡ le_z x y
one_on (pos a) (pos b) = leb-suc-suc a b
one_on (pos a) (negsuc zero) = leb-suc-zero a
one_on (pos a) (negsuc (suc b)) = refl
one_on (negsuc zero) (pos b) = leb-zero (suc b)
one_on (negsuc (suc a)) (pos b) = refl
one_on (negsuc zero) (negsuc zero) = refl
one_on (negsuc zero) (negsuc (suc b)) = sym (leb-suc-zero b)
one_on (negsuc (suc a)) (negsuc zero) = sym (leb-zero (suc a))
one_on (negsuc (suc a)) (negsuc (suc b)) = sym (leb-suc-suc b a)

pub moved : (x y : ℤ) (n : ℕ) → le_z (x +ℤ pos n) (y +ℤ pos n) ≡ le_z x y
moved x y zero = ap₂ le_z (+ℤ_idr x) (+ℤ_idr y)
moved x y (suc n) = ap₂ le_z (+ℤ-suc_ℤ x (pos n)) (+ℤ-suc_ℤ y (pos n)) ∙ one_on (x +ℤ pos n) (y +ℤ pos n) ∙ moved x y n

-- a slot lies before another if the one after it is no later
next_slot : (x y : ℤ) → lt_z x y ≡ le_z (suc_ℤ x) y
next_slot (pos a) (pos b) = refl
next_slot (pos a) (negsuc b) = refl
next_slot (negsuc zero) (pos b) = sym (leb-zero b)
next_slot (negsuc (suc a)) (pos b) = refl
next_slot (negsuc zero) (negsuc b) = leb-suc-zero b
next_slot (negsuc (suc a)) (negsuc b) = leb-suc-suc b a

-- a slot at or after slot a is a natural number, and that is a or more
pub record FromZero (a : ℕ) (z : ℤ) : Type 0 where
  pub is : z ≡ pos (from_zero z)
  pub from : a ≤ from_zero z

pub from_zero_lem : (a : ℕ) (z : ℤ) → le_z (pos a) z ≡ true → FromZero a z
from_zero_lem a (pos n) e = record { is = refl; from = leb-true a n e }
from_zero_lem a (negsuc n) e = absurd (false≢true e)

no_more : (b : Bool) (m k : ℕ) → from_zero (cond b (negsuc m) (pos k)) ≤ k
no_more true m k = omega arith
no_more false m k = omega arith

-- some slots after a slot that lies before an instant are no more than so many after that instant
pub from_zero_most : (end n : ℕ) (z : ℤ) → lt_z z (pos end) ≡ true → from_zero (z +ℤ pos n) ≤ end + n
from_zero_most end n (pos a) e = omega (arith, ltb-true a end e)
from_zero_most end n (negsuc a) e = omega (arith, no_more (ltb n (suc a)) (suc a - suc n) (n - suc a))

-- a number of 32 bits is the one that its bits are read as
pub read : (z : ℤ) → mag z < 2 ^ 31 → to_z w32 (of_z w32 z) ≡ z
read z h = to_z-of_z w32 z (record { sfits = h })
