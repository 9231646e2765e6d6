-- Supply is exactly the fewest units of any legal supply: a whole trace is a window of itself, and the worst trace has no more.
use Prim.Native.Nat.{ℕ, ◌≤◌, zero-le}
use mathlib.Core.Path.{◌≡◌, sym, ap, ◌∙◌}
use lib.ListN.{length}
use lib.Seq.{take_all}
use native.Mathlib.Nat.{sub-zero, le_refl, le_of_eq}
use Rattle.budget.specs.declared.interface.Interface.{Interface}
use Rattle.budget.specs.Supply.{supply}
use Rattle.budget.proofs.Valid.{ValidInterface, valid_interface_lem}
use Rattle.trace.specs.Legal.{supplied}
use Rattle.trace.specs.SupplyIsLeast.{LegalTrace, SupplyIsLeast}
use Rattle.trace.proofs.Windows.{window_supply}
use Rattle.trace.specs.WorstTrace.{worst_offset, worst_trace}
use Rattle.trace.proofs.WorstTrace.{worst_within, worst_bits, worst_length, worst_legal, worst_prefix}

module _ (i : Interface) (v : ValidInterface i) (t : ℕ) where
  lower : (w : LegalTrace i t) → supply i t ≤ supplied w.trace
  lower w =
      let whole = window_supply i v w.offset w.trace w.bits w.legal 0 (length w.trace) zero-le (le_refl _) in
      simp (sub-zero, w.slots, take_all t w.trace (le_of_eq w.slots)) at whole

  worst : LegalTrace i t
  worst =
      record {
        offset = worst_offset i;
        trace = worst_trace i t;
        below = worst_within i v;
        bits = worst_bits i v t;
        slots = worst_length i v t;
        legal = worst_legal i v t;
      }

  attains : supplied (worst_trace i t) ≡ supply i t
  attains = ap supplied (sym (take_all t (worst_trace i t) (le_of_eq (worst_length i v t)))) ∙ worst_prefix i v t t (le_refl t)

pub supply_is_least : SupplyIsLeast
unfolding worst
supply_is_least i valid t =
    let v = valid_interface_lem i valid in
    record { none_has_fewer = lower i v t; some_has_it = (worst i v t, attains i v t) }
