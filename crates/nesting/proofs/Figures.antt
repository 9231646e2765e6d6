-- The figure holds, by computation; that its components are accepted goes by the verdict, worked out up to L.
use Prim.Native.Nat.{ℕ, zero, suc, ◌≤◌, ◌<◌, zero-le}
use mathlib.Core.Bool.{true}
use mathlib.Core.List.{[], ◌∷◌}
use mathlib.Core.Path.{◌≡◌, refl, sym, subst}
use lib.Dec.{lit≤}
use lib.ListN.{length, get_or}
use native.Mathlib.Omega.{arith}
use Rattle.budget.specs.CommonPeriod.{common_divisor, common_multiple, common_period, euclid}
use Rattle.budget.specs.Demand.{demand, jobs_by}
use Rattle.budget.specs.Interface.{Θ, valid_interface}
use Rattle.budget.specs.Supply.{supply, whole_periods}
use Rattle.budget.specs.Task.{valid_task, valid_tasks}
use Rattle.budget.proofs.Valid.{valid_interface_lem}
use Rattle.judge.specs.Search.{smallest}
use Rattle.judge.specs.Verdict.{Accepted, accepts, first_short, is_short, verdict_on}
use Rattle.judge.proofs.VerdictLaws.{verdict_right}
use Rattle.run.specs.Job.{apart, before_all, deadline, in_order, legal_arrival, no_job, ready_in_time, task_of, valid_job}
use Rattle.run.specs.Order.{head_first, least_first, next_by, waits}
use Rattle.run.specs.Run.{left_by, serve, slot_by}
use Rattle.trace.specs.WorstTrace.{slots}
use Rattle.nesting.specs.Behaviour.{Begun, arrivals, budgets_in, from, jobs_where, released_in}
use Rattle.nesting.specs.Figures.{Figure, behaviour, tree}
use Rattle.nesting.specs.Service.{given_by, handed, of_task, trace_of}
use Rattle.nesting.specs.Tree.{Child, fed, task_of_child, workload}

tasks : (c : ℕ) → valid_tasks (workload tree c) ≡ true
unfolding valid_tasks valid_task workload fed
tasks zero = refl
tasks (suc zero) = refl
tasks (suc (suc zero)) = refl
tasks (suc (suc (suc c))) = refl

interface : (c : ℕ) → valid_interface (tree.interface c) ≡ true
unfolding valid_interface
interface zero = refl
interface (suc zero) = refl
interface (suc (suc zero)) = refl
interface (suc (suc (suc c))) = refl

accepted : (c : ℕ) → Accepted (workload tree c) (tree.interface c)
unfolding workload fed verdict_on accepts first_short is_short smallest demand jobs_by supply whole_periods common_period common_multiple common_divisor euclid
accepted zero = verdict_right (workload tree 0) (tasks 0) (tree.interface 0) (valid_interface_lem _ (interface 0))
accepted (suc zero) = verdict_right (workload tree 1) (tasks 1) (tree.interface 1) (valid_interface_lem _ (interface 1))
accepted (suc (suc zero)) = verdict_right (workload tree 2) (tasks 2) (tree.interface 2) (valid_interface_lem _ (interface 2))
accepted (suc (suc (suc c))) =
    let k = suc (suc (suc c)) in
    verdict_right (workload tree k) (tasks k) (tree.interface k) (valid_interface_lem _ (interface k))

arrival : (c : ℕ) → legal_arrival (tree.own c) (behaviour.jobs c) ≡ true
unfolding legal_arrival valid_job ready_in_time before_all in_order apart task_of
arrival zero = refl
arrival (suc zero) = refl
arrival (suc (suc zero)) = refl
arrival (suc (suc (suc c))) = refl

own : (c q : ℕ) → q < length (behaviour.jobs c) → Begun (behaviour.first c) (get_or (behaviour.jobs c) q no_job).ready
own zero q l = absurd (omega arith)
own (suc zero) zero l = lit≤ tt
own (suc zero) (suc q) l = absurd (omega arith)
own (suc (suc zero)) zero l = lit≤ tt
own (suc (suc zero)) (suc zero) l = lit≤ tt
own (suc (suc zero)) (suc (suc q)) l = absurd (omega arith)
own (suc (suc (suc c))) q l = zero-le

-- the one child of component 2 begins in slot 2
child_of_two : (place k f : ℕ) → place < 1 → get_or (1 ∷ []) place 0 ≡ k → behaviour.first k ≡ from f → 1 ≤ f
child_of_two zero k f l there e =
    let begins : from 2 ≡ from f = subst (λ (x : ℕ). behaviour.first x ≡ from f) (sym there) e in
    let same : 2 ≡ f = cc in
    omega arith
child_of_two (suc place) k f l there e = absurd (omega arith)

children : (c k f : ℕ) → Child tree c k → behaviour.first k ≡ from f → Begun (behaviour.first c) f
children zero k f child e = absurd (omega (arith, child.inside))
children (suc zero) k f child e = absurd (omega (arith, child.inside))
children (suc (suc zero)) k f child e = child_of_two child.place k f child.inside child.there e
children (suc (suc (suc c))) k f child e = zero-le

capacity : (k f : ℕ) → behaviour.first k ≡ from f → 1 ≤ Θ (tree.interface k)
capacity zero f e = let z : ◌≡◌ {A = ℕ} 0 1 = cc in absurd (omega arith)
capacity (suc zero) f e = lit≤ tt
capacity (suc (suc zero)) f e = lit≤ tt
capacity (suc (suc (suc k))) f e = lit≤ tt

pub figure : Figure
unfolding fed workload task_of_child arrivals jobs_where budgets_in released_in trace_of handed given_by of_task slots left_by slot_by serve next_by head_first waits least_first deadline task_of
figure =
    record {
      sound = record { tasks = λ c way. tasks c; interface = λ c way. interface c; accepted = λ c way. accepted c };
      admissible =
          record {
            begins = refl;
            arrival = λ c way. arrival c;
            own = λ c way. own c;
            children = λ c k f way. children c k f;
            capacity = λ c k f way child. capacity k f;
          };
      workload = refl;
      number = refl;
      jobs_of_three = refl;
      jobs_of_two = refl;
      trace_of_two = refl;
      trace_of_one = refl;
      trace_of_zero = refl;
    }
