-- A rule that serves urgent jobs first keeps the one equation of the urgent work: what is left at instant n + 1 is what arrives in slot n and
-- what was left at n, less the unit of slot n. A job that is not ready yet has all its work left, as a unit goes only to a job that waits.
use Prim.Native.Nat.{ℕ, zero, suc, ◌+◌, ◌-◌, ◌≤◌, ◌<◌, suc-le-suc, zero-le}
use mathlib.Core.Bool.{Bool, true, false, cond, ◌&&◌}
use mathlib.Core.List.{List}
use mathlib.Core.Logic.{◌≢◌}
use mathlib.Core.Path.{◌≡◌, refl, sym, ap, ◌∙◌}
use lib.Dec.{ltb, eqb}
use lib.ListN.{length, get_or, get_or-map}
use lib.Seq.{get_or-set_other}
use borrow.Author.Tests.{ltb-true, eqb-true, eqb-false, lt-ltb}
use native.Mathlib.Decide.{dec_lt}
use native.Mathlib.Nat.{le_of_eq}
use native.Mathlib.Omega.{arith}
use Rattle.budget.proofs.Valid.{both, and_true}
use Rattle.run.specs.Job.{Job, no_job}
use Rattle.run.specs.Order.{waits}
use Rattle.run.specs.Run.{Rule, left_by, serve, slot_by}
use Rattle.run.proofs.Next.{then_waits, waits_then}
use Rattle.run.proofs.RunLaws.{left_length}
use Rattle.trace.specs.Legal.{zeros_and_ones}
use Rattle.trace.proofs.Periods.{bit}
use Rattle.promises.specs.inner.Serving.{ServedWaits, UrgentFirst, left_of, asked, waiting_at, unit_of, Flow}
use Rattle.promises.proofs.Sums.{Left, left_found, left_below_suc, left_serve, left_serve_le}

positive : (b : ℕ) → b ≤ 1 → eqb b 0 ≡ false → b ≡ 1
positive b h e = let d : b ≢ 0 = eqb-false b 0 e in omega arith

module _ (rule : Rule) (js : List Job) (s : List ℕ) where
  module _ (waiting : ServedWaits js rule) where
    elsewhere : (n q : ℕ) (left : List ℕ) → q < length js → suc n ≤ (get_or js q no_job).ready → q ≢ rule n left
    elsewhere n q left l h e =
        let w = (waits_then n _ _ (waiting n left (rw (← e) l))).is_ready in
        let r : (get_or js q no_job).ready ≤ n = rw e w in
        omega arith

    untouched_slot : (b : Bool) (left : List ℕ) (p q w : ℕ) → q ≢ p → get_or left q 0 ≡ w → get_or (cond b left (serve left p)) q 0 ≡ w
    unfolding serve
    untouched_slot true left p q w d e = e
    untouched_slot false left p q w d e = get_or-set_other left p q _ 0 d ∙ e

    -- a job that is not ready before n has all its work left at n
    pub untouched : (n q : ℕ) → q < length js → n ≤ (get_or js q no_job).ready → get_or (left_by rule js s n) q 0 ≡ (get_or js q no_job).work
    unfolding left_by slot_by
    untouched zero q l h = get_or-map (λ j. j.work) js q no_job
    untouched (suc n) q l h =
        untouched_slot (eqb (get_or s n 0) 0) (left_by rule js s n) _ q _ (elsewhere n q _ l h) (untouched n q l (omega arith))

  module _ (urgent : Job → Bool) (first : UrgentFirst urgent js rule) where
    -- a supplied slot takes one unit of the urgent work that waits, if there is any
    module _ (n : ℕ) (left : List ℕ) where
      abbrev ripe : Job → Bool
      ripe j = ltb j.ready (suc n) && urgent j

      ripe_waits : (q : ℕ) → ripe (get_or js q no_job) ≡ true → 0 < get_or left q 0 → waits n (get_or js q no_job) (get_or left q 0) ≡ true
      ripe_waits q e h =
          let r : (get_or js q no_job).ready < suc n = ltb-true _ _ (both _ _ e).0 in
          then_waits n _ _ (record { is_ready = omega arith; some = h })

      served : Left ripe js left → left_of ripe js left ≡ suc (left_of ripe js (serve left (rule n left)))
      served f =
          let u = (both (ltb (get_or js f.place no_job).ready (suc n)) _ f.passes).1 in
          let w = ripe_waits f.place f.passes f.some in
          let l = first.busy n left f.place f.inside u w in
          let v = waits_then n _ _ (first.waiting n left l) in
          left_serve ripe js left (rule n left) l
          (and_true (lt-ltb _ (suc n) (suc-le-suc v.is_ready)) (first.first n left f.place f.inside u w))
          v.some

      taken : Dec (0 < left_of ripe js left) → left_of ripe js (serve left (rule n left)) ≡ left_of ripe js left - 1
      taken (yes h) = omega (arith, served (left_found ripe js left h))
      taken (no h) = omega (arith, left_serve_le ripe js left (rule n left))

      given : (b : ℕ) → b ≤ 1 → (z : Bool) → eqb b 0 ≡ z
          → left_of ripe js (cond z left (serve left (rule n left))) ≡ left_of ripe js left - b
      given b h true e = omega (arith, eqb-true b 0 e)
      given b h false e = rw (positive b h e) (taken (dec_lt 0 (left_of ripe js left)))

    goes : zeros_and_ones s ≡ true → (n : ℕ) → waiting_at urgent rule js s (suc n) ≡ asked urgent js n + waiting_at urgent rule js s n - unit_of s n
    unfolding waiting_at asked left_by slot_by
    goes bits n =
        let left = left_by rule js s n in
        given n left (unit_of s n) (bit s bits 0 zero-le n) _ refl
        ∙ ap (λ (w : ℕ). w - unit_of s n) (left_below_suc (λ j. j.ready) urgent js left n (left_length rule js s n) (λ q l e. untouched first.waiting n q l (le_of_eq (sym e))))

    begins : waiting_at urgent rule js s 0 ≡ 0
    unfolding waiting_at
    begins = none (dec_lt 0 (left_of unborn js left))
      where
        unborn : Job → Bool
        unborn j = ltb j.ready 0 && urgent j

        left : List ℕ
        left = left_by rule js s 0

        none : Dec (0 < left_of unborn js left) → left_of unborn js left ≡ 0
        none (yes h) =
            let f = left_found unborn js left h in
            let r : (get_or js f.place no_job).ready < 0 = ltb-true _ _ (both _ _ f.passes).0 in
            absurd (omega arith)
        none (no h) = omega arith

    pub flow : zeros_and_ones s ≡ true → Flow (waiting_at urgent rule js s) (asked urgent js) (unit_of s)
    flow bits = record { begins = begins; goes = goes bits }
