-- Sums of a function over consecutive places, by prefixes: what the theory of supply counts with. Lists of bytes become such sums once, at the end.
use Prim.Native.Nat.{ℕ, zero, suc, ◌+◌, ◌≤◌, ◌<◌}
use mathlib.Core.Path.{◌≡◌, refl, sym, ap, ◌∙◌}
use mathlib.Core.List.{List, [], ◌∷◌}
use lib.ListN.{get_or, take, drop}
use lib.Seq.{get_or-drop}
use native.Mathlib.Nat.{add-zero, zero-add, add-suc, suc-add, add_assoc, add-le-add, le_refl, le_antisymm, le_of_eq, lt-suc_self, le_step}
use native.Mathlib.Omega.{arith}
use Rattle.trace.specs.Legal.{supplied}
use Rattle.trace.specs.Units.{units}

pub units_add : (f : ℕ → ℕ) (x n m : ℕ) → units f x (n + m) ≡ units f x n + units f (x + n) m
unfolding units
units_add f x n zero = rw (add-zero n) (omega arith)
units_add f x n (suc m) =
    rw (add-suc n m, units_add f x n m, add_assoc x n m) (omega arith)

-- the first place's units and those of the places after it
pub units_front : (f : ℕ → ℕ) (x n : ℕ) → units f x (suc n) ≡ f x + units f (suc x) n
unfolding units
units_front f x zero = rw (add-zero x) (omega arith)
units_front f x (suc n) = rw (units_front f x n, add-suc x n, suc-add x n) (omega arith)

-- sums compare as their terms do
pub units_le : (f g : ℕ → ℕ) (x y n : ℕ) → ((m : ℕ) → m < n → f (x + m) ≤ g (y + m)) → units f x n ≤ units g y n
unfolding units
units_le f g x y zero h = le_refl 0
units_le f g x y (suc n) h = add-le-add (units_le f g x y n (λ m l. h m (le_step l))) (h n (lt-suc_self n))

pub units_same : (f g : ℕ → ℕ) (x y n : ℕ) → ((m : ℕ) → m < n → f (x + m) ≡ g (y + m)) → units f x n ≡ units g y n
units_same f g x y n h =
    le_antisymm (units_le f g x y n (λ m l. le_of_eq (h m l))) (units_le g f y x n (λ m l. le_of_eq (sym (h m l))))

pub units_ones : (x n : ℕ) → units (λ y. 1) x n ≡ n
unfolding units
units_ones x zero = refl
units_ones x (suc n) = omega (arith, units_ones x n)

pub units_none : (x n : ℕ) → units (λ y. 0) x n ≡ 0
unfolding units
units_none x zero = refl
units_none x (suc n) = omega (arith, units_none x n)

-- two sums that have one unit between them at each place
pub units_both : (f g : ℕ → ℕ) (x y n : ℕ) → ((m : ℕ) → m < n → f (x + m) + g (y + m) ≡ 1) → units f x n + units g y n ≡ n
unfolding units
units_both f g x y zero h = refl
units_both f g x y (suc n) h = omega (arith, units_both f g x y n (λ m l. h m (le_step l)), h n (lt-suc_self n))

-- no more than one unit a place
pub units_most : (f : ℕ → ℕ) → ((y : ℕ) → f y ≤ 1) → (x n : ℕ) → units f x n ≤ n
units_most f h x n = omega (arith, units_ones x n, units_le f (λ y. 1) x x n (λ m l. h (x + m)))

-- the supplied slots of a trace, whole or in part, are such a sum
supplied_front : (s : List ℕ) (n : ℕ) → supplied (take n s) ≡ units (λ m. get_or s m 0) 0 n
unfolding supplied units
supplied_front s zero = refl
supplied_front [] (suc n) = sym (units_none 0 (suc n))
supplied_front (b ∷ s) (suc n) =
    rw (units_front (λ m. get_or (b ∷ s) m 0) 0 n, supplied_front s n)
    (ap (λ (k : ℕ). b + k) (units_same (λ m. get_or s m 0) (λ m. get_or (b ∷ s) m 0) 0 1 n (λ m l. rw (zero-add m, suc-add 0 m, zero-add m))))

pub supplied_part : (s : List ℕ) (a n : ℕ) → supplied (take n (drop a s)) ≡ units (λ m. get_or s m 0) a n
supplied_part s a n =
    supplied_front (drop a s) n ∙ units_same _ _ 0 a n (λ m l. rw zero-add (get_or-drop a s m 0))
