-- To serve the least number first is an order that decides: by the two numbers that it compares, the job's own and then its task's.
use Prim.Native.Nat.{ℕ, ◌≤◌, ◌<◌}
use mathlib.Core.Bool.{Bool, true, false, ◌&&◌, ◌||◌}
use mathlib.Core.Path.{◌≡◌, refl}
use lib.Dec.{ltb, eqb}
use borrow.Author.Tests.{ltb-true, ltb-false, eqb-true, le-ltb, eq-eqb}
use native.Mathlib.Nat.{le_trans}
use native.Mathlib.Omega.{arith}
use Rattle.budget.proofs.Valid.{both}
use Rattle.run.specs.Job.{Job}
use Rattle.run.specs.Order.{least_first}
use Rattle.run.proofs.Next.{Decides, neither, not_both}

module _ (key : Job → ℕ) where
  -- job a does not go before job b, in numbers
  pub record NotBefore (a b : Job) : Type 0 where
    pub keys : key b ≤ key a
    pub tasks : key a ≡ key b → b.task ≤ a.task

  pub not_before : (a b : Job) → least_first key a b ≡ false → NotBefore a b
  unfolding least_first
  not_before a b e =
      let n = neither _ _ e in
      record { keys = ltb-false _ _ n.0; tasks = λ q. ltb-false _ _ (not_both _ _ n.1 (eq-eqb _ _ q)) }

  tie : (a b : Job) (l : Bool) → eqb (key a) (key b) ≡ l → NotBefore a b → (l && ltb a.task b.task) ≡ false
  tie a b true e h = le-ltb _ _ (h.tasks (eqb-true _ _ e))
  tie a b false e h = refl

  goes_not : (a b : Job) → NotBefore a b → least_first key a b ≡ false
  unfolding least_first
  goes_not a b h = rw (le-ltb _ _ h.keys) (tie a b _ refl h)

  turned : (a b : Job) (l : Bool) → ltb (key a) (key b) ≡ l → (l || (eqb (key a) (key b) && ltb a.task b.task)) ≡ true → NotBefore b a
  turned a b true e h =
      let less : key a < key b = ltb-true _ _ e in
      record { keys = omega arith; tasks = omega arith }
  turned a b false e h =
      let same : key a ≡ key b = eqb-true _ _ (both _ _ h).0 in
      let lower : a.task < b.task = ltb-true _ _ (both (eqb (key a) (key b)) _ h).1 in
      record { keys = omega arith; tasks = omega arith }

  pub decides : Decides (least_first key)
  unfolding least_first
  decides =
      record {
        once = λ a b e. goes_not b a (turned a b _ refl e);
        through = λ a b d p q.
            let x = not_before a b p in
            let y = not_before b d q in
            goes_not a d (record { keys = omega arith; tasks = λ e. le_trans (y.tasks (omega arith)) (x.tasks (omega arith)) });
      }
