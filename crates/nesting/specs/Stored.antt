-- What every operation that makes a component stores says of it (RULES 3): L of its period and tasks, or that L is above the limit. StoredRight of crate
-- tree and StoredMeans of crate promises as one; it stands here since this crate sees both.
use Rattle.std.specs.Prelude.{◌≡◌}
use Rattle.budget.specs.Component.{range_refusal}
use Rattle.budget.specs.Refusal as refusal
use Rattle.budget.specs.Task.{tasks_of}
use Rattle.promises.specs.Ground.{StoredSays}
use Rattle.tree.specs.Stored.{Making, made}

-- of each component that is answered with its numbers in range, refused answers too
abbrev pub StoredTrue : Type 0
StoredTrue =
    (m : Making) → let c = made m in
    range_refusal c ≡ refusal.none → StoredSays c.period.0 (tasks_of c.table) c.common
