-- A supplied slot is served or idle, and each unit served is taken from the work of one job that has work left: by induction on the slots.
use Prim.Native.Nat.{ℕ, zero, suc, ◌+◌, ◌-◌, ◌≤◌, ◌<◌, zero-le}
use native.Mathlib.Nat.{not-suc-le-zero, le_of_suc-le-suc, zero-add}
use native.Mathlib.Omega.{arith}
use mathlib.Core.Path.{◌≡◌, refl, sym, ap, ◌∙◌}
use mathlib.Core.Bool.{Bool, true, false, cond}
use mathlib.Core.Logic.{◌≢◌}
use mathlib.Core.List.{List, [], ◌∷◌}
use lib.ListN.{length, get_or, take}
use lib.Seq.{set_out}
use lib.Dec.{ltb, eqb}
use borrow.Author.Tests.{ltb-true, ltb-false, eqb-true, eqb-false}
use Rattle.budget.specs.declared.task.Task.{Task}
use Rattle.budget.specs.Task.{tasks_of}
use Rattle.trace.specs.Legal.{supplied}
use Rattle.trace.specs.Units.{units}
use Rattle.trace.proofs.Periods.{bit}
use Rattle.trace.proofs.Units.{supplied_part}
use Rattle.run.specs.Conservation.{total, SlotsAreServedOrIdle, WorkIsServedOrLeft, WalkConserves}
use Rattle.run.specs.Job.{Job}
use Rattle.run.specs.Order.{goes_before, next}
use Rattle.run.specs.Run.{earliest_deadline, serve, slot_by, left_at, left_by}
use Rattle.run.specs.Walk.{jobs_of, served_in, idle_in, served_before, idle_before, stop, valid_trace, walked_to}
use Rattle.run.proofs.Accepted.{accepted, answer_accepted, left_accepted}
use Rattle.run.proofs.Next.{next_waits, waits_then}
use Rattle.run.proofs.Rows.{even}
use Rattle.run.proofs.RunLaws.{left_length}

-- one more slot of a trace
supplied_more : (s : List ℕ) (t : ℕ) → supplied (take (suc t) s) ≡ supplied (take t s) + get_or s t 0
unfolding units
supplied_more s t =
    supplied_part s 0 (suc t) ∙ rw (← (supplied_part s 0 t), zero-add t)

given : (b : ℕ) (z w : Bool) → eqb b 0 ≡ z → b ≤ 1 → b ≡ cond z 0 (cond w 1 0) + cond z 0 (cond w 0 1)
given b true w e h = eqb-true b 0 e
given b false true e h =
    let some : b ≢ 0 = eqb-false b 0 e in
    omega arith
given b false false e h =
    let some : b ≢ 0 = eqb-false b 0 e in
    omega arith

pub slots_are_served_or_idle : SlotsAreServedOrIdle
unfolding supplied served_before idle_before served_in idle_in
slots_are_served_or_idle ks js s bits zero = refl
slots_are_served_or_idle ks js s bits (suc t) =
    let ih = slots_are_served_or_idle ks js s bits t in
    let one = given (get_or s t 0) _ (ltb (next ks t js (left_at ks js s t)) (length js)) refl (bit s bits 0 zero-le t) in
    omega (arith, supplied_more s t)

-- a unit served is taken from one job's work left
serve_total : (left : List ℕ) (p : ℕ) → p < length left → 0 < get_or left p 0 → total left ≡ 1 + total (serve left p)
unfolding total serve
serve_total [] p h w = absurd (not-suc-le-zero h)
serve_total (x ∷ left) zero h w = omega arith
serve_total (x ∷ left) (suc p) h w = omega (arith, serve_total left p (le_of_suc-le-suc h) w)

slot_total : (ks : List Task) (js : List Job) (n b : ℕ) (left : List ℕ) (z w : Bool) → length left ≡ length js
    → eqb b 0 ≡ z → ltb (next ks n js left) (length js) ≡ w
    → total left ≡ cond z 0 (cond w 1 0) + total (cond z left (serve left (next ks n js left)))
unfolding serve
slot_total ks js n b left true w same e f = sym (zero-add (total left))
slot_total ks js n b left false true same e f =
    let h = ltb-true _ _ f in
    serve_total left (next ks n js left) (omega arith) (waits_then n _ _ (next_waits (goes_before ks) n js left h)).some
slot_total ks js n b left false false same e f =
    rw (set_out left (next ks n js left) (get_or left (next ks n js left) 0 - 1) (omega (arith, ltb-false (next ks n js left) (length js) f))) (sym (zero-add (total left)))

pub work_is_served_or_left : WorkIsServedOrLeft
unfolding served_before served_in left_by slot_by
work_is_served_or_left ks js s zero = sym (zero-add _)
work_is_served_or_left ks js s (suc t) =
    let ih = work_is_served_or_left ks js s t in
    let one = slot_total ks js t (get_or s t 0) (left_at ks js s t) _ _ (left_length (earliest_deadline ks js) js s t) refl refl in
    omega arith

pub walk_conserves : WalkConserves
unfolding walked_to valid_trace
walk_conserves table ts rs ready ws s left e =
    let a = accepted table ts rs ready ws s (length left) e in
    let ks = tasks_of table in
    let js = jobs_of ts rs ready ws in
    let l = even ts rs ready ws a.releases_long a.ready_long a.works_long in
    record {
      slots = rw (answer_accepted table ts rs ready ws s (length left) e) (slots_are_served_or_idle ks js s a.bits (stop ks js s));
      work =
          rw (answer_accepted table ts rs ready ws s (length left) e, left_accepted table ts rs ready ws s left e)
          (ap total (sym l.works) ∙ work_is_served_or_left ks js s (stop ks js s));
    }
