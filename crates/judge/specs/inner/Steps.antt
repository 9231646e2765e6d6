-- What passing one step instant does to a walk: to the next deadline that it carries of each task, and to the demand.
use Rattle.std.specs.Prelude.{ℕ, zero, suc, ◌+◌, ◌*◌, ◌≤◌, ◌<◌, ◌≡◌, ◌⊎◌, cond, List, eqb, length, get_or}
use Rattle.budget.specs.declared.task.Task.{Task}
use Rattle.budget.specs.Limits.{limit, most_tasks}
use Rattle.budget.specs.Task.{T, C, no_task, span}
use Rattle.judge.specs.declared.steps.Step.{Step}
use Rattle.judge.specs.declared.steps.Steps.{Steps}

-- the first places of a column hold that number of each task
abbrev pub Holds : (Task → ℕ) → List Task → List ℕ → Type 0
Holds of ks xs = (j : ℕ) → j < length ks → get_or xs j 0 ≡ of (get_or ks j no_task)

-- a walk over these tasks as it begins, at instant 1: each task's first deadline, with every job ready as late as it may be, is its next
pub record Begun (ks : List Task) (s : Steps) : Type 0 where
  pub count : s.count ≡ length ks
  pub period : Holds (λ k. T k) ks s.period
  pub work : Holds (λ k. C k) ks s.work
  pub long : length s.due ≡ most_tasks
  pub due : Holds (λ k. span k) ks s.due
  pub at : s.at ≡ 1
  pub demand : s.demand ≡ 0

-- the numbers are small enough for one step
pub record Steppable (s : Steps) : Type 0 where
  pub long : length s.due ≡ most_tasks
  pub few : s.count ≤ most_tasks
  pub at_fits : s.at ≤ limit
  pub demand_fits : s.demand ≤ most_tasks * (2 * limit)
  pub tasks_fit : (j : ℕ) → j < s.count → (get_or s.period j 0 ≤ limit) × (get_or s.work j 0 ≤ limit)

-- the numbers of a column by place
abbrev pub column : List ℕ → ℕ → ℕ
column xs j = get_or xs j 0

-- a next deadline once the instant `at` has passed
unfoldable pub passed : ℕ → ℕ → ℕ → ℕ
passed at period deadline = cond (eqb deadline at) (deadline + period) deadline

-- the work due at the instant `at` of the first n tasks
unfoldable pub due_work : (ℕ → ℕ) → List ℕ → ℕ → ℕ → ℕ
due_work work due at zero = 0
due_work work due at (suc n) = due_work work due at n + cond (eqb (get_or due n 0) at) (work n) 0

-- the least of the first n next deadlines, or an instant past all that are judged
pub record Next (due : List ℕ) (n next : ℕ) : Type 0 where
  pub low : (j : ℕ) → j < n → next ≤ get_or due j 0
  pub attained : (next ≡ suc limit) ⊎ ((j : ℕ) × (j < n) × (get_or due j 0 ≡ next))

-- the first n tasks, of these periods and works by place, have passed the instant
pub record Passed (period work : ℕ → ℕ) (before after : List ℕ) (n at asked sum next : ℕ) : Type 0 where
  pub long : length after ≡ length before
  pub done : (j : ℕ) → j < n → get_or after j 0 ≡ passed at (period j) (get_or before j 0)
  pub left : (j : ℕ) → n ≤ j → get_or after j 0 ≡ get_or before j 0
  pub demand : sum ≡ asked + due_work work before at n
  pub least : Next after n next

-- one step of a whole walk, and what it tells
pub record Stepped (s r : Steps) (step : Step) : Type 0 where
  pub count : r.count ≡ s.count
  pub period : r.period ≡ s.period
  pub work : r.work ≡ s.work
  pub passed : Passed (column s.period) (column s.work) s.due r.due s.count s.at s.demand r.demand r.at
  pub tells : step ≡ record { at = s.at; before = s.demand; demand = r.demand }
