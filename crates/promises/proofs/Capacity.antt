-- The smallest capacity found over the instants up to L is accepted and each smaller one is short; none is found exactly where the full
-- deadline is short, as supply grows with the capacity.
use Prim.Native.Nat.{ℕ, suc, ◌≤◌, ◌<◌}
use mathlib.Core.Bool.{true}
use mathlib.Core.List.{List}
use mathlib.Core.Path.{◌≡◌}
use native.Mathlib.Decide.{dec_le}
use native.Mathlib.Nat.{le_refl, le_trans, not-le_of_lt}
use native.Mathlib.Omega.{arith}
use Rattle.budget.specs.declared.task.Task.{Task}
use Rattle.budget.specs.CommonPeriod.{common_period}
use Rattle.budget.specs.Interface.{interface, valid_interface}
use Rattle.budget.specs.Task.{valid_tasks}
use Rattle.judge.specs.Capacity.{smallest_capacity}
use Rattle.judge.specs.Verdict.{Accepted, ShortAt, accepts, first_short}
use Rattle.judge.proofs.CapacityLaws.{supply_grows, valid_capacity}
use Rattle.judge.proofs.SearchLaws.{smallest_is}
use Rattle.judge.proofs.VerdictLaws.{accepts_accepted, short_refuses}

module _ (ks : List Task) (tasks : valid_tasks ks ≡ true) (p d a : ℕ) (range : valid_interface (interface p a d) ≡ true) where
  abbrev least : ℕ
  least = smallest_capacity ks p d (common_period p ks)

  pub least_accepted : least ≤ d → Accepted ks (interface p least d)
  unfolding smallest_capacity
  least_accepted h =
      accepts_accepted ks tasks (interface p least d) (valid_capacity p d a range least h)
      ((smallest_is (λ q. accepts ks (interface p q d) (common_period p ks)) (suc d)).passes (omega arith))

  pub smaller_short : (q : ℕ) → q < least → (t : ℕ) × ShortAt ks (interface p q d) t
  unfolding smallest_capacity
  smaller_short q h =
      let l = common_period p ks in
      (first_short ks (interface p q d) l, (short_refuses ks (interface p q d) l ((smallest_is (λ q. accepts ks (interface p q d) l) (suc d)).before q h)).1)

  pub short_none : (t : ℕ) → ShortAt ks (interface p d d) t → d < least
  unfolding Accepted
  short_none t s = past (dec_le least d)
    where
      past : Dec (least ≤ d) → d < least
      past (yes h) = absurd (not-le_of_lt s.short (le_trans (least_accepted h t s.some) (supply_grows p d a range least d t h (le_refl d))))
      past (no h) = omega arith
