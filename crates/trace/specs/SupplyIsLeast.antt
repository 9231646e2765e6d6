-- Supply is exactly the fewest supplied slots that a legal trace of that length has: none has fewer, and one has so many (RULES 6).
-- The interface is any that is in range, t is any number of slots, and the traces are those at every offset below Π.
use Rattle.std.specs.Prelude.{ℕ, ◌≤◌, ◌<◌, true, List, ◌≡◌, length}
use Rattle.budget.specs.declared.interface.Interface.{Interface}
use Rattle.budget.specs.Interface.{Π, valid_interface}
use Rattle.budget.specs.Supply.{supply}
use Rattle.trace.specs.Legal.{zeros_and_ones, supplied, Legal}

-- a legal trace of t slots
pub record LegalTrace (i : Interface) (t : ℕ) : Type 0 where
  pub offset : ℕ
  pub trace : List ℕ
  pub below : offset < Π i
  pub bits : zeros_and_ones trace ≡ true
  pub slots : length trace ≡ t
  pub legal : Legal i offset trace

-- no legal trace of t slots has fewer supplied slots than n, and one has just n
pub record Least (i : Interface) (t n : ℕ) : Type 0 where
  pub none_has_fewer : (w : LegalTrace i t) → n ≤ supplied w.trace
  pub some_has_it : (w : LegalTrace i t) × (supplied w.trace ≡ n)

abbrev pub SupplyIsLeast : Type 0
SupplyIsLeast = (i : Interface) → valid_interface i ≡ true → (t : ℕ) → Least i t (supply i t)
