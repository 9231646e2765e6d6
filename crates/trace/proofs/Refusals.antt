-- What the trace question's refusal shows, and what each of its tests decides.
use Prim.Native.Nat.{ℕ, ◌<◌}
use mathlib.Core.Path.{◌≡◌, refl}
use mathlib.Core.Bool.{Bool, true, false, cond}
use mathlib.Core.List.{List}
use native.Mathlib.Omega.{arith}
use lib.ListN.{length}
use lib.Dec.{leb, ltb, eqb}
use borrow.Author.Tests.{ltb-true}
use Rattle.budget.specs.declared.interface.Interface.{Interface}
use Rattle.budget.specs.Interface.{Π, interface_refusal, valid_interface}
use Rattle.budget.specs.Refusal as refusal
use Rattle.budget.proofs.Valid.{ValidInterface, valid_interface_lem}
use Rattle.trace.specs.Answer.{trace_refusal, longest}
use Rattle.trace.specs.Legal.{zeros_and_ones}

-- what is taken: an interface in range, an offset below Π and a row of 0 and 1
pub record Taken (i : Interface) (o : ℕ) (s : List ℕ) : Type 0 where
  pub valid : ValidInterface i
  pub below : o < Π i
  pub bits : zeros_and_ones s ≡ true

tested : (v b l z : Bool)
    → cond (eqb (cond v refusal.none refusal.range) refusal.none)
    (cond b (cond l (cond z refusal.none refusal.bad_trace) refusal.bad_trace) refusal.range)
    (cond v refusal.none refusal.range)
    ≡ refusal.none
    → (v ≡ true) × ((b ≡ true) × (z ≡ true))
tested true true true true e = (refl, (refl, refl))
tested true true true false e = absurd (omega (arith, e))
tested true true false z e = absurd (omega (arith, e))
tested true false l z e = absurd (omega (arith, e))
tested false b l z e = absurd (omega (arith, e))

pub taken : (i : Interface) (o : ℕ) (s : List ℕ) → trace_refusal i o s ≡ refusal.none → Taken i o s
unfolding trace_refusal interface_refusal
taken i o s e =
    let t = tested (valid_interface i) (ltb o (Π i)) (leb (length s) longest) (zeros_and_ones s) e in
    record { valid = valid_interface_lem i t.0; below = ltb-true _ _ t.1.0; bits = t.1.1 }
