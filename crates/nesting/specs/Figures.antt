-- One small tree worked out, three levels deep: component 3 has the processor to itself and the children 0 and 2, of which 0 has capacity 0, and
-- component 2 has the child 1. The statement about service speaks of it, and the traces handed down are those shown. Component 2 has a task with
-- J = 4. Its first job is released in slot −1, before the first release of the component itself, and ready in slot 3, behind it: so slot 2 is the
-- child's, though that is due later. Its second job is ready behind the last slot.
use Rattle.std.specs.Prelude.{ℕ, zero, suc, List, [], ◌∷◌, ◌≡◌, refl, ℤ, negsuc, pos, replicate}
use Rattle.std.proofs.Common.{lit<}
use Rattle.budget.specs.declared.interface.Interface.{Interface}
use Rattle.budget.specs.declared.task.Task.{Task}
use Rattle.budget.specs.Interface.{dedicated, interface}
use Rattle.run.specs.Job.{Job}
use Rattle.nesting.specs.Behaviour.{Admissible, Behaviour, First, arrivals, from, never}
use Rattle.nesting.specs.Service.{Sound, trace_of}
use Rattle.nesting.specs.Tree.{Below, Tree, down, task_of_child, top, workload}

-- the task (T, C, D, J), and the task (T, C, D) whose jobs are ready when they are released
abbrev late_task : ℕ → ℕ → ℕ → ℕ → Task
late_task t c d j = record { period = record { 0 = t }; work = record { 0 = c }; deadline = record { 0 = d }; lateness = record { 0 = j } }

abbrev task : ℕ → ℕ → ℕ → Task
task t c d = late_task t c d 0

-- the job of a task with its release, the slot in which it becomes ready and its work, and one that is ready when it is released; `negsuc 0` is −1
abbrev late_job : ℕ → ℤ → ℕ → ℕ → Job
late_job k r a w = record { task = k; release = r; ready = a; work = w }

abbrev job : ℕ → ℕ → ℕ → Job
job k r w = late_job k (pos r) r w

abbrev interfaces : ℕ → Interface
interfaces zero = interface 6 0 4
interfaces (suc zero) = interface 12 1 12
interfaces (suc (suc zero)) = interface 6 2 4
interfaces (suc (suc (suc c))) = dedicated

abbrev own : ℕ → List Task
own zero = []
own (suc zero) = task 24 1 24 ∷ []
own (suc (suc zero)) = late_task 12 1 11 4 ∷ []
own (suc (suc (suc c))) = task 4 2 4 ∷ []

abbrev children : ℕ → List ℕ
children zero = []
children (suc zero) = []
children (suc (suc zero)) = 1 ∷ []
children (suc (suc (suc c))) = 0 ∷ 2 ∷ []

abbrev pub tree : Tree
tree = record { interface = interfaces; own = own; children = children }

abbrev firsts : ℕ → First
firsts zero = never
firsts (suc zero) = from 2
firsts (suc (suc zero)) = from 1
firsts (suc (suc (suc c))) = from 0

abbrev jobs : ℕ → List Job
jobs zero = []
jobs (suc zero) = job 0 2 1 ∷ []
jobs (suc (suc zero)) = late_job 0 (negsuc 0) 3 1 ∷ late_job 0 (pos 11) 14 1 ∷ []
jobs (suc (suc (suc c))) = job 0 0 2 ∷ job 0 4 2 ∷ job 0 8 1 ∷ []

abbrev pub behaviour : Behaviour
behaviour = record { first = firsts; jobs = jobs }

-- twelve slots, all supplied
abbrev pub supply : List ℕ
supply = replicate 12 1

-- the ways down
abbrev pub to_zero : Below tree 3 0
to_zero = down top (record { place = 0; inside = lit< tt; there = refl })

abbrev pub to_two : Below tree 3 2
to_two = down top (record { place = 1; inside = lit< tt; there = refl })

abbrev pub to_one : Below tree 3 1
to_one = down to_two (record { place = 0; inside = lit< tt; there = refl })

-- what is asked of the tree and of the behaviour holds; the task of child 2 is the second, as child 0 has none; the jobs and the traces
pub record Figure : Type 0 where
  pub sound : Sound tree 3
  pub admissible : Admissible tree 3 behaviour
  pub workload : workload tree 3 ≡ task 4 2 4 ∷ task 6 2 4 ∷ []
  pub number : task_of_child tree 3 1 ≡ 1
  pub jobs_of_three : arrivals tree behaviour 3 12 ≡ job 0 0 2 ∷ job 1 1 2 ∷ job 0 4 2 ∷ job 1 7 2 ∷ job 0 8 1 ∷ []
  pub jobs_of_two : arrivals tree behaviour 2 12 ≡ late_job 0 (negsuc 0) 3 1 ∷ job 1 2 1 ∷ late_job 0 (pos 11) 14 1 ∷ []
  pub trace_of_two : trace_of tree behaviour supply to_two ≡ 0 ∷ 0 ∷ 1 ∷ 1 ∷ 0 ∷ 0 ∷ 0 ∷ 1 ∷ 1 ∷ 0 ∷ 0 ∷ 0 ∷ []
  pub trace_of_one : trace_of tree behaviour supply to_one ≡ 0 ∷ 0 ∷ 1 ∷ 0 ∷ 0 ∷ 0 ∷ 0 ∷ 0 ∷ 0 ∷ 0 ∷ 0 ∷ 0 ∷ []
  pub trace_of_zero : trace_of tree behaviour supply to_zero ≡ replicate 12 0
