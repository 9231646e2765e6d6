-- The common period as a component stores it (RULES 3): L, or the mark that it is above the limit. It grows by one period at a time; for numbers in
-- their ranges it is L, or says that L is above the limit (StoredMeans of crate promises).
use Rattle.std.specs.Prelude.{ℕ, Bool, true, false, cond, List, [], ◌∷◌, leb, eqb}
use Rattle.budget.specs.declared.common.Common.{Common}
use Rattle.budget.specs.declared.common.Common.TheVariants.{Within, Above}
use Rattle.budget.specs.declared.task.Task.{Task}
use Rattle.budget.specs.CommonPeriod.{common_multiple}
use Rattle.budget.specs.Limits.{limit}
use Rattle.budget.specs.Task.{T}

-- a length as it is stored: itself up to the limit, else the mark
unfoldable pub capped : ℕ → Common
capped l = cond (leb l limit) (Within (record { 0 = l })) Above

-- one period more: the least common multiple of it and what is stored; what is above the limit stays above
unfoldable pub grown : Common → ℕ → Common
grown (Within l) t = capped (common_multiple l.0 t)
grown Above t = Above

-- the periods of some tasks more, one after the other
unfoldable pub grown_by : Common → List Task → Common
grown_by s [] = s
grown_by s (k ∷ ks) = grown_by (grown s (T k)) ks

-- what a component of the period p with these tasks stores, if it is right
unfoldable pub common_of : ℕ → List Task → Common
common_of p ks = grown_by (capped p) ks

-- the same stored value
unfoldable pub same_common : Common → Common → Bool
same_common (Within a) (Within b) = eqb a.0 b.0
same_common (Within a) Above = false
same_common Above (Within b) = false
same_common Above Above = true
