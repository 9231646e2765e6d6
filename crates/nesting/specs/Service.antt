-- What is said of nested components: where each of a tree is accepted and the topmost one's supply is legal, every component below is served
-- its budget and none at any depth misses (RULES 5, 7, 9).
use Rattle.std.specs.Prelude.{ℕ, ◌<◌, Bool, true, cond, ◌&&◌, List, ◌≡◌, leb, ltb, eqb, length, get_or, drop}
use Rattle.budget.specs.declared.interface.Interface.{Interface}
use Rattle.budget.specs.declared.task.Task.{Task}
use Rattle.budget.specs.Interface.{Π, Θ, valid_interface}
use Rattle.budget.specs.Task.{valid_tasks}
use Rattle.judge.specs.Verdict.{Accepted}
use Rattle.run.specs.FirstMiss.{NoMiss}
use Rattle.run.specs.Job.{Job, no_job}
use Rattle.run.specs.Run.{Rule, earliest_deadline, left_by}
use Rattle.trace.specs.Legal.{Legal, zeros_and_ones}
use Rattle.trace.specs.WorstTrace.{slots}
use Rattle.nesting.specs.Behaviour.{Admissible, Begun, Behaviour, First, arrivals, from}
use Rattle.nesting.specs.Tree.{Below, Child, Tree, down, task_of_child, top, workload}

-- a job stands at place p of the list, and it is of task k
unfoldable pub of_task : List Job → ℕ → ℕ → Bool
of_task js k p = ltb p (length js) && eqb (get_or js p no_job).task k

-- what slot m of the trace s gives to task k, where the rule serves: 1 if the slot is supplied and a job of the task is served, else 0
unfoldable pub given_by : Rule → List Job → List ℕ → ℕ → ℕ → ℕ
given_by rule js s k m = cond (eqb (get_or s m 0) 0) 0 (cond (of_task js k (rule m (left_by rule js s m))) 1 0)

-- the same in the run of the rules
abbrev pub given_to : List Task → List Job → List ℕ → ℕ → ℕ → ℕ
given_to ks js s k m = given_by (earliest_deadline ks js) js s k m

-- what slot m of c's trace s hands on to the child k at a place of c's children; one with capacity 0 has no task and gets nothing
unfoldable pub handed : Tree → Behaviour → (c n : ℕ) → List ℕ → (place k : ℕ) → ℕ → ℕ
handed tree b c n s place k m =
    cond (leb 1 (Θ (tree.interface k))) (given_to (workload tree c) (arrivals tree b c n) s (task_of_child tree c place) m) 0

-- the trace of each component on a way down, where s is the topmost one's: a 1 in each slot in which the component above serves its task
unfoldable pub trace_of : (tree : Tree) → Behaviour → {topmost c : ℕ} → List ℕ → Below tree topmost c → List ℕ
trace_of tree b s top = s
trace_of tree b s (down {c = c} {k = k} way child) = slots (handed tree b c (length s) (trace_of tree b s way) child.place k) 0 (length s)

-- each component below is in range and accepted, its whole workload at its capacity
pub record Sound (tree : Tree) (topmost : ℕ) : Type 0 where
  pub tasks : (c : ℕ) → Below tree topmost c → valid_tasks (workload tree c) ≡ true
  pub interface : (c : ℕ) → Below tree topmost c → valid_interface (tree.interface c) ≡ true
  pub accepted : (c : ℕ) → Below tree topmost c → Accepted (workload tree c) (tree.interface c)

-- a trace of n slots serves an interface: nothing is given before the first release, and what is given from there on, each of whose periods
-- begins where a budget is released, is legal
pub record Served (i : Interface) (first : First) (n : ℕ) (trace : List ℕ) : Type 0 where
  pub slots : length trace ≡ n
  pub bits : zeros_and_ones trace ≡ true
  pub before : (m : ℕ) → 0 < get_or trace m 0 → Begun first m
  pub legal : (f : ℕ) → first ≡ from f → Legal i 0 (drop f trace)

-- on the topmost one's trace s: no job of a component misses up to the end of s, and each child of one is served
pub record ServedBelow (tree : Tree) (topmost : ℕ) (b : Behaviour) (s : List ℕ) : Type 0 where
  pub no_miss : (c : ℕ) (way : Below tree topmost c) → NoMiss (workload tree c) (arrivals tree b c (length s)) (trace_of tree b s way)
  pub served : (c k : ℕ) (way : Below tree topmost c) (child : Child tree c k)
      → Served (tree.interface k) (b.first k) (length s) (trace_of tree b s (down way child))

-- the statement: for every tree, topmost component, behaviour and legal trace of any length
abbrev pub ServiceBelow : Type 0
ServiceBelow =
    (tree : Tree) (topmost : ℕ) → Sound tree topmost → (b : Behaviour) → Admissible tree topmost b
    → (o : ℕ) (s : List ℕ) → o < Π (tree.interface topmost) → zeros_and_ones s ≡ true → Legal (tree.interface topmost) o s
    → ServedBelow tree topmost b s
