-- Demand at t: the most work that can become ready and fall due within t slots (RULES 4).
use Rattle.std.specs.Prelude.{ℕ, ◌+◌, ◌-◌, ◌*◌, ◌/◌, cond, List, [], ◌∷◌, leb, eqb}
use Rattle.budget.specs.declared.task.Task.{Task}
use Rattle.budget.specs.Answered.{Amount}
use Rattle.budget.specs.declared.task.Table.{Table}
use Rattle.budget.specs.Limits.{limit}
use Rattle.budget.specs.Refusal as refusal
use Rattle.budget.specs.Task.{T, C, span, tasks_of, table_refusal}

-- how many jobs of one task fall due by t, where each is ready as late as it may be: the first at D − J and one after every T; none before D − J
unfoldable pub jobs_by : Task → ℕ → ℕ
jobs_by k t = cond (leb (span k) t) ((t - span k) / T k + 1) 0

unfoldable pub demand : List Task → ℕ → ℕ
demand [] t = 0
demand (k ∷ ks) t = jobs_by k t * C k + demand ks t

-- the table is judged first (6, 9), then the instant, which is 9 above the limit (RULES 13)
unfoldable pub demand_refusal : Table → ℕ → ℕ
demand_refusal table t =
    cond (eqb (table_refusal table) refusal.none)
    (cond (leb t limit) refusal.none refusal.range)
    (table_refusal table)

-- what the operation answers: the refusal and no units, or the demand
unfoldable pub demand_answer : Table → ℕ → Amount
demand_answer table t =
    record {
      refusal = demand_refusal table t;
      units = record { 0 = cond (eqb (demand_refusal table t) refusal.none) (demand (tasks_of table) t) 0 };
    }
