-- From the one equation of the urgent work (`Flow`): at each instant some window that ends there balances, and what has arrived is at most
-- what was given and what is left. By induction on the instant: the window of an instant goes on through the next slot, or begins anew behind it where the slot's unit is not used up.
use Prim.Native.Nat.{ℕ, zero, suc, ◌+◌, ◌≤◌}
use mathlib.Core.Path.{refl}
use native.Mathlib.Decide.{dec_le}
use native.Mathlib.Nat.{zero-add}
use native.Mathlib.Omega.{arith}
use Rattle.trace.specs.Units.{units}
use Rattle.promises.specs.inner.Serving.{Flow, Window}

module _ (left work unit : ℕ → ℕ) (flow : Flow left work unit) where
  extend : (n : ℕ) → Window left work unit n → Dec (unit n ≤ work n + left n) → Window left work unit (suc n)
  unfolding units
  extend n w (yes h) =
      let ends = w.ends in
      let balance = w.balance in
      let goes = flow.goes n in
      record {
        start = w.start;
        slots = suc w.slots;
        ends = omega arith;
        balance = rw w.ends (omega arith);
      }
  extend n w (no h) =
      let goes = flow.goes n in
      record { start = suc n; slots = 0; ends = omega arith; balance = omega arith }

  pub window : (n : ℕ) → Window left work unit n
  unfolding units
  window zero = record { start = 0; slots = 0; ends = refl; balance = omega (arith, flow.begins) }
  window (suc n) = extend n (window n) (dec_le (unit n) (work n + left n))

  pub arrived : (n : ℕ) → units work 0 n ≤ left n + units unit 0 n
  unfolding units
  arrived zero = omega arith
  arrived (suc n) = rw zero-add (omega (arith, arrived n, flow.goes n))
