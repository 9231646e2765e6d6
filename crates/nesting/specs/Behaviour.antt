-- What happens below a topmost component: when each component's budget is first released, and the jobs of its own tasks; from these, all
-- jobs of each component's run (RULES 9).
use Rattle.std.specs.Prelude.{ℕ, zero, suc, ◌-◌, ◌%◌, ◌≤◌, ◌<◌, Bool, true, false, cond, ◌&&◌, List, [], ◌∷◌, ◌++◌, ◌≡◌, leb, eqb, ℤ, pos, negsuc, length, get_or}
use Rattle.budget.specs.Interface.{Π, Θ}
use Rattle.run.specs.Job.{Job, legal_arrival, no_job}
use Rattle.nesting.specs.Tree.{Tree, Below, Child, fed}

-- the first release of a component's budget: none ever, or a slot
pub data First : Type 0 where
  never : First
  from : ℕ → First

-- slot r stands at or behind the first release
abbrev pub Begun : First → ℕ → Type 0
Begun never r = ⊥
Begun (from f) r = f ≤ r

-- the slots in which a budget of period p is released: the first release, and every p slots from there on
unfoldable pub released_in : First → ℕ → ℕ → Bool
released_in never p m = false
released_in (from f) p m = leb f m && eqb ((m - f) % p) 0

-- by component number, the first release and the jobs of the own tasks
pub record Behaviour : Type 0 where
  pub first : ℕ → First
  pub jobs : ℕ → List Job

-- whether a release is slot m, and whether it lies before slot 0
abbrev pub is_slot : ℕ → ℤ → Bool
is_slot m (pos r) = eqb r m
is_slot m (negsuc r) = false

abbrev pub is_early : ℤ → Bool
is_early (pos r) = false
is_early (negsuc r) = true

-- the jobs of some list whose releases pass a test
unfoldable pub jobs_where : (ℤ → Bool) → List Job → List Job
jobs_where test [] = []
jobs_where test (j ∷ js) =
    let later = jobs_where test js in
    cond (test j.release) (j ∷ later) later

-- those that are released in slot m, and those that are released before slot 0
abbrev pub jobs_in : List Job → ℕ → List Job
jobs_in js m = jobs_where (is_slot m) js

abbrev pub early_jobs : List Job → List Job
early_jobs js = jobs_where is_early js

-- the budgets of some children that are released in slot m, where their tasks are numbered from i on: each is a job of exactly the capacity,
-- ready when it is released
unfoldable pub budgets_in : Tree → Behaviour → List ℕ → ℕ → ℕ → List Job
budgets_in tree b [] i m = []
budgets_in tree b (k ∷ ks) i m =
    let later = budgets_in tree b ks (suc i) m in
    cond (released_in (b.first k) (Π (tree.interface k)) m) (record { task = i; release = pos m; ready = m; work = Θ (tree.interface k) } ∷ later) later

-- the jobs of c's run that are released in slot m, by rising task: its own, then the budgets of its children
abbrev pub slot_jobs : Tree → Behaviour → ℕ → ℕ → List Job
slot_jobs tree b c m = jobs_in (b.jobs c) m ++ budgets_in tree b (fed tree (tree.children c)) (length (tree.own c)) m

-- and those that are released before slot n: own jobs released before slot 0, then slot by slot
unfoldable pub arrivals : Tree → Behaviour → ℕ → ℕ → List Job
arrivals tree b c zero = early_jobs (b.jobs c)
arrivals tree b c (suc m) = arrivals tree b c m ++ slot_jobs tree b c m

-- what is asked of the behaviour below a topmost component. Nothing is asked of the jobs of a component that is not below it.
pub record Admissible (tree : Tree) (topmost : ℕ) (b : Behaviour) : Type 0 where
  -- the topmost one begins at once
  pub begins : b.first topmost ≡ from 0
  -- own jobs arrive legally, and none is ready before the component's first release, nor at all where it has none
  pub arrival : (c : ℕ) → Below tree topmost c → legal_arrival (tree.own c) (b.jobs c) ≡ true
  pub own : (c : ℕ) → Below tree topmost c → (q : ℕ) → q < length (b.jobs c) → Begun (b.first c) (get_or (b.jobs c) q no_job).ready
  -- neither does a child's first release, and a child that has one has a capacity
  pub children : (c k f : ℕ) → Below tree topmost c → Child tree c k → b.first k ≡ from f → Begun (b.first c) f
  pub capacity : (c k f : ℕ) → Below tree topmost c → Child tree c k → b.first k ≡ from f → 1 ≤ Θ (tree.interface k)
