-- The limits on time and on the count of tasks (RULES 2).
use Rattle.std.specs.Prelude.{ℕ}

-- the largest period, deadline, common period and instant
abbrev pub limit : ℕ
limit = 1_048_576

-- the most tasks of a component
abbrev pub most_tasks : ℕ
most_tasks = 64
