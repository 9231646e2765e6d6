-- Components inside components, each named by its number: own tasks and children, and a parent's workload, which has the interface of each
-- child as a task.
use Rattle.std.specs.Prelude.{ℕ, ◌+◌, ◌<◌, cond, List, [], ◌∷◌, ◌++◌, map, ◌≡◌, leb, length, get_or, take}
use Rattle.budget.specs.declared.interface.Interface.{Interface}
use Rattle.budget.specs.declared.task.Task.{Task}
use Rattle.budget.specs.Interface.{Θ}

-- what each component has: its interface at the capacity that it is given, its own tasks, and the numbers of its children in order
pub record Tree : Type 0 where
  pub interface : ℕ → Interface
  pub own : ℕ → List Task
  pub children : ℕ → List ℕ

-- an interface (Π, Θ, Δ) as the task (T, C, D) of the component above, whose jobs are ready when they are released
abbrev pub as_task : Interface → Task
as_task i = record { period = i.period; work = i.capacity; deadline = i.deadline; lateness = record { 0 = 0 } }

-- those of some children that are given a capacity, in the same order: a child with capacity 0 adds no task
unfoldable pub fed : Tree → List ℕ → List ℕ
fed tree [] = []
fed tree (k ∷ ks) =
    let later = fed tree ks in
    cond (leb 1 (Θ (tree.interface k))) (k ∷ later) later

-- a component's workload: its own tasks, then those of its children
unfoldable pub workload : Tree → ℕ → List Task
workload tree c = tree.own c ++ map (λ k. as_task (tree.interface k)) (fed tree (tree.children c))

-- the number, in the workload of c, of the task of the child at place i of its children
unfoldable pub task_of_child : Tree → ℕ → ℕ → ℕ
task_of_child tree c i = length (tree.own c) + length (fed tree (take i (tree.children c)))

-- k is a child of c: it stands at a place of its children
pub record Child (tree : Tree) (c k : ℕ) : Type 0 where
  pub place : ℕ
  pub inside : place < length (tree.children c)
  pub there : get_or (tree.children c) place 0 ≡ k

-- the way down from a topmost component: the topmost itself, and from a component on it one step to a child
pub data Below (tree : Tree) (topmost : ℕ) : ℕ → Type 0 where
  top : Below tree topmost topmost
  down : {c k : ℕ} → Below tree topmost c → Child tree c k → Below tree topmost k
