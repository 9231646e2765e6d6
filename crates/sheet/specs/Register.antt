-- What the walk over a sheet's components leaves for its pairs: where it ends, and of each component its number and the count of its own tasks.
use Rattle.std.specs.Prelude.{ℕ, zero, suc, ◌-◌, cond, List, [], ◌∷◌, length, leb}
use Rattle.sheet.specs.Judging.{State, most_components, opened, judged}
use Rattle.sheet.specs.Walk.{walk, held}

-- where the walk over a sheet's components ends; a record has at least one byte, so there are no more than bytes
unfoldable pub walked : List ℕ → State
walked s = walk judged (suc (length s)) s (opened (length s))

-- the last state of that walk with at most k components
unfoldable pub held_of : List ℕ → ℕ → State
held_of s k = held judged (suc (length s)) s k (opened (length s))

-- a number of the state held with each count of components, n of them from the k-th on; 0 behind the last component
unfoldable pub noted_from : (State → ℕ) → List ℕ → ℕ → ℕ → List ℕ
noted_from f s zero k = []
noted_from f s (suc n) k = cond (leb k (walked s).count) (f (held_of s k)) 0 ∷ noted_from f s n (suc k)

-- one more than a sheet has components at most
unfoldable pub noted : (State → ℕ) → List ℕ → List ℕ
noted f s = noted_from f s (suc most_components) 0

-- a component's number, and how many tasks stand behind its record
pub record Entry : Type 0 where
  pub number : ℕ
  pub tasks : ℕ

-- of the component at place k: the walk holds its number, as one less than the lowest that may follow, and counts its tasks to the last
unfoldable pub entry_of : List ℕ → ℕ → Entry
entry_of s k = record { number = (held_of s (suc k)).lowest - 1; tasks = (held_of s (suc k)).tasks }

-- n entries from the k-th on
unfoldable pub entries_from : List ℕ → ℕ → ℕ → List Entry
entries_from s zero k = []
entries_from s (suc n) k = entry_of s k ∷ entries_from s n (suc k)

-- all components of the sheet, in their order
unfoldable pub register_of : List ℕ → List Entry
register_of s = entries_from s (walked s).count 0
