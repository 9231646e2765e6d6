-- The figures that are proved, in one table (RULES 16): a row is a figure's number and what it says of the definitions that the contracts
-- cite. `Hold` is the one statement about the table.
use Rattle.std.specs.Prelude.{ℕ, List, [], ◌∷◌, map, ◌≡◌, true, false, ℤ, pos, negsuc}
use Rattle.budget.specs.declared.common.Common.TheVariants.{Within, Above}
use Rattle.budget.specs.declared.task.Task.{Task}
use Rattle.budget.specs.Common.{common_of}
use Rattle.budget.specs.CommonPeriod.{common_period}
use Rattle.budget.specs.Demand.{demand}
use Rattle.budget.specs.Interface.{interface, dedicated}
use Rattle.budget.specs.Limits.{limit}
use Rattle.budget.specs.Supply.{supply}
use Rattle.budget.specs.Task.{valid_tasks}
use Rattle.judge.specs.numbers.Margined.{Margined}
use Rattle.judge.specs.numbers.Margined.{Least}
use Rattle.judge.specs.declared.answer.Verdict.{Verdict}
use Rattle.judge.specs.declared.answer.Verdict.TheVariants.{Accepted, Short}
use Rattle.judge.specs.Capacity.{smallest_capacity}
use Rattle.judge.specs.Margin.{margin_on, margin_of}
use Rattle.judge.specs.Verdict.{verdict_on}
use Rattle.run.specs.FirstMiss.{NoMiss}
use Rattle.run.specs.Job.{Job, legal_arrival}
use Rattle.run.specs.Run.{MissAt, left_at}
use Rattle.run.specs.Walk.{served_before}
use Rattle.trace.specs.Legal.{Legal}

-- the task (T, C, D, J), and the task (T, C, D) whose jobs are ready when they are released
abbrev late_task : ℕ → ℕ → ℕ → ℕ → Task
late_task t c d j = record { period = record { 0 = t }; work = record { 0 = c }; deadline = record { 0 = d }; lateness = record { 0 = j } }

abbrev task : ℕ → ℕ → ℕ → Task
task t c d = late_task t c d 0

-- the tasks of P9, P10 and P11
abbrev pub nine : List Task
nine = task 4 2 4 ∷ task 7 3 7 ∷ []

abbrev pub ten : List Task
ten = task 2 1 2 ∷ task 3 2 3 ∷ []

abbrev pub eleven : List Task
eleven = task 8 2 7 ∷ []

-- the trace and the job of P12
abbrev pub trace : List ℕ
trace = 0 ∷ 0 ∷ 0 ∷ 0 ∷ 0 ∷ 0 ∷ 1 ∷ 1 ∷ []

abbrev pub job : ℤ → ℕ → List Job
job r a = record { task = 0; release = r; ready = a; work = 2 } ∷ []

abbrev pub jobs : List Job
jobs = job (pos 0) 0

-- P13 to P16: the task (8, 2, 8, J)
abbrev pub late : ℕ → List Task
late j = late_task 8 2 8 j ∷ []

-- its verdict and margin at (6, 2, 4), and the smallest capacity for Π = 6 and Δ = 4; 5 stands for none, as even 4 is short
abbrev at : ℕ → ℕ
at j = common_period 6 (late j)

abbrev judged : ℕ → Verdict
judged j = verdict_on (late j) (interface 6 2 4) (at j)

abbrev margin : ℕ → Margined
margin j = margin_on (late j) (interface 6 2 4) (at j)

abbrev least : ℕ → ℕ
least j = smallest_capacity (late j) 6 4 (at j)

-- the tasks of P17
abbrev pub eight_and_nine : List Task
eight_and_nine = task 8 2 8 ∷ task 9 1 9 ∷ []

abbrev pub longest : List Task
longest = task limit 1 limit ∷ []

-- a row: the figure's number and what it says; `negsuc 0` is −1
pub record Figure : Type 1 where
  pub number : ℕ
  pub says : Type 0

abbrev p : ℕ → Type 0 → Figure
p n s = record { number = n; says = s }

abbrev pub figures : List Figure
figures =
    p 1 (supply (interface 6 2 4) 6 ≡ 0)
    ∷ p 2 (supply (interface 6 2 4) 7 ≡ 1)
    ∷ p 3 (supply (interface 6 2 4) 8 ≡ 2)
    ∷ p 4 (supply (interface 6 2 4) 12 ≡ 2)
    ∷ p 5 (supply (interface 6 2 4) 14 ≡ 4)
    ∷ p 6 (supply (interface 6 3 6) 14 ≡ 5)
    ∷ p 7 (map (demand (task 6 3 5 ∷ [])) (4 ∷ 5 ∷ 10 ∷ 11 ∷ []) ≡ 0 ∷ 3 ∷ 3 ∷ 6 ∷ [])
    ∷ p 8 (demand nine 14 ≡ 12)
    ∷ p 9 ((common_period 1 nine ≡ 28) × (verdict_on nine dedicated 28 ≡ Accepted) × (margin_on nine dedicated 28 ≡ Least (pos 1) (record { 0 = 8 })))
    ∷ p 10 ((verdict_on ten dedicated (common_period 1 ten) ≡ Short (record { 0 = 6 })) × (margin_of (margin_on ten dedicated (common_period 1 ten)) ≡ negsuc 0))
    ∷ p 11 ((verdict_on eleven (interface 6 2 4) (common_period 6 eleven) ≡ Short (record { 0 = 7 })) × (margin_on eleven (interface 6 2 4) (common_period 6 eleven) ≡ Least (negsuc 0) (record { 0 = 7 })))
    ∷ p 12 (Legal (interface 6 2 4) 2 trace × (¬ Legal (interface 6 2 4) 0 trace) × (¬ Legal (interface 6 2 4) 3 trace))
    ∷ p 12 (MissAt eleven jobs trace 7 × (left_at eleven jobs trace 7 ≡ 1 ∷ []))
    ∷ p 13 ((judged 0 ≡ Accepted) × (margin 0 ≡ Least (pos 0) (record { 0 = 8 })))
    ∷ p 13 ((judged 1 ≡ Short (record { 0 = 7 })) × (margin 1 ≡ Least (negsuc 0) (record { 0 = 7 })))
    ∷ p 13 ((judged 2 ≡ Short (record { 0 = 6 })) × (margin 2 ≡ Least (negsuc 1) (record { 0 = 6 })))
    ∷ p 13 (judged 6 ≡ Short (record { 0 = 2 }))
    ∷ p 14 (map (λ j. valid_tasks (late j)) (0 ∷ 6 ∷ 7 ∷ []) ≡ true ∷ true ∷ false ∷ [])
    ∷ p 15 (map least (0 ∷ 1 ∷ 2 ∷ 3 ∷ 4 ∷ 5 ∷ 6 ∷ []) ≡ 2 ∷ 3 ∷ 3 ∷ 4 ∷ 4 ∷ 5 ∷ 5 ∷ [])
    ∷ p 16 ((legal_arrival (late 1) (job (negsuc 0) 0) ≡ true) × MissAt (late 1) (job (negsuc 0) 0) trace 7)
    ∷ p 16 ((served_before (late 1) (job (negsuc 0) 0) trace 7 ≡ 1) × (left_at (late 1) (job (negsuc 0) 0) trace 7 ≡ 1 ∷ []))
    ∷ p 16 ((legal_arrival (late 1) (job (pos 0) 1) ≡ true) × NoMiss (late 1) (job (pos 0) 1) trace)
    ∷ p 16 (legal_arrival (late 1) (job (negsuc 1) 0) ≡ false)
    ∷ p 17 (common_of 6 eight_and_nine ≡ Within (record { 0 = 72 }))
    ∷ p 17 ((common_of 1 longest ≡ Within (record { 0 = limit })) × (common_of 3 longest ≡ Above))
    ∷ []

-- every row of the table holds
abbrev pub Hold : List Figure → Type 0
Hold [] = Unit {0}
Hold (f ∷ fs) = f.says × Hold fs
