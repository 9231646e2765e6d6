-- The table of figures holds: each row by computation; a trace's legality goes by the two periods that it touches.
use Prim.Native.Nat.{ℕ, zero, suc, ◌<◌}
use mathlib.Core.Path.{◌≡◌, refl}
use native.Mathlib.Omega.{arith}
use lib.Dec.{lit<, lit≤}
use lib.IntN.{pos, negsuc}
use lib.ListN.{get_or}
use Rattle.budget.specs.Common.{common_of, grown_by, grown, capped}
use Rattle.budget.specs.CommonPeriod.{common_period, common_multiple, common_divisor, euclid}
use Rattle.budget.specs.Demand.{demand, jobs_by}
use Rattle.budget.specs.Interface.{interface}
use Rattle.budget.specs.Supply.{supply, whole_periods}
use Rattle.budget.specs.Task.{valid_task, valid_tasks}
use Rattle.judge.specs.Capacity.{smallest_capacity}
use Rattle.judge.specs.Margin.{margin_on, tight_instant, tight_at, tried}
use Rattle.judge.specs.Search.{smallest}
use Rattle.judge.specs.Verdict.{verdict_on, accepts, first_short, is_short}
use Rattle.run.specs.FirstMiss.{NoMiss}
use Rattle.run.specs.Job.{before_all, deadline, legal_arrival, no_job, ready_in_time, task_of, valid_job}
use Rattle.run.specs.Order.{waits, least_first, head_first, next_by}
use Rattle.run.specs.Run.{serve, slot_by, left_at, left_by, MissAt}
use Rattle.trace.specs.Legal.{Legal, counted}
use Rattle.trace.specs.Units.{units}
use Rattle.run.specs.Walk.{served_before, served_in}
use Rattle.promises.specs.Figures.{Hold, figures, eleven, job, jobs, late, trace}

legal : Legal (interface 6 2 4) 2 trace
unfolding counted units
legal zero t = lit≤ tt
legal (suc zero) t = lit≤ tt
legal (suc (suc k)) t = absurd (omega (arith, t.inside, t.from))

not_at_start : ¬ Legal (interface 6 2 4) 0 trace
unfolding counted units
not_at_start l = omega (arith, l 0 (record { slot = 0; inside = lit< tt; from = lit≤ tt; until = lit< tt }))

not_at_three : ¬ Legal (interface 6 2 4) 3 trace
unfolding counted units
not_at_three l = omega (arith, l 1 (record { slot = 3; inside = lit< tt; from = lit≤ tt; until = lit< tt }))

miss : MissAt eleven jobs trace 7
unfolding waits least_first head_first next_by serve slot_by left_by deadline task_of
miss = record { place = 0; inside = lit< tt; due = refl; late = lit< tt }

late_miss : MissAt (late 1) (job (negsuc 0) 0) trace 7
unfolding waits least_first head_first next_by serve slot_by left_by deadline task_of
late_miss = record { place = 0; inside = lit< tt; due = refl; late = lit< tt }

-- the one job is due at 8, and has no work left then
no_miss : NoMiss (late 1) (job (pos 0) 1) trace
unfolding waits least_first head_first next_by serve slot_by left_by deadline task_of
no_miss u h m = at m.place m.inside m.due m.late
  where
    at : (p : ℕ) → p < 1 → deadline (late 1) (get_or (job (pos 0) 1) p no_job) ≡ u → 0 < get_or (left_at (late 1) (job (pos 0) 1) trace u) p 0 → ⊥
    at zero l due some = absurd (omega (arith, rw (← due) at some))
    at (suc p) l due some = absurd (omega arith)

pub figures_hold : Hold figures
unfolding supply whole_periods demand jobs_by common_of grown_by grown capped common_period common_multiple common_divisor euclid verdict_on accepts first_short is_short smallest smallest_capacity margin_on tight_instant tight_at tried waits least_first head_first next_by serve slot_by left_by deadline task_of valid_task valid_tasks valid_job ready_in_time before_all legal_arrival served_in served_before
figures_hold =
    (refl, (refl, (refl, (refl, (refl, (refl, (refl, (refl, ((refl, refl, refl), ((refl, refl), ((refl, refl), ((legal, not_at_start, not_at_three), ((miss, refl), ((refl, refl), ((refl, refl), ((refl, refl), (refl, (refl, (refl, ((refl, late_miss), ((refl, refl), ((refl, no_miss), (refl, (refl, ((refl, refl), tt)))))))))))))))))))))))))
