-- The pairs of a sheet, which stand behind all components and tasks (RULES 10): how each is judged against the components and the pairs
-- before it, and the end record behind them (13).
use Rattle.std.specs.Prelude.{ℕ, zero, suc, ◌+◌, ◌-◌, ◌≡◌, Bool, true, false, cond, ◌&&◌, ◌||◌, List, [], ◌∷◌, ◌++◌, length, drop, leb, ltb, eqb}
use Rattle.budget.specs.Limits.{most_tasks}
use Rattle.budget.specs.Refusal as refusal
use Rattle.record.specs.declared.layout.Pair.{Pair}
use Rattle.record.specs.Record.{Record, ComponentRecord, TaskRecord, PairRecord, EndRecord, NoRecord}
use Rattle.record.specs.Layout.{size_of, record_of}
use Rattle.sheet.specs.Register.{Entry, register_of, walked}

-- a component of that number is there
unfoldable pub registered : List Entry → ℕ → Bool
registered [] n = false
registered (e ∷ es) n = eqb e.number n || registered es n

-- the own tasks of the component of that number
unfoldable pub own_tasks : List Entry → ℕ → ℕ
own_tasks [] n = 0
own_tasks (e ∷ es) n = cond (eqb e.number n) e.tasks (own_tasks es n)

-- how many pairs name this parent
unfoldable pub named : List Pair → ℕ → ℕ
named [] n = 0
named (p ∷ ps) n = cond (eqb p.parent n) 1 0 + named ps n

-- the child's number is above that of every pair before it
unfoldable pub rises : List Pair → ℕ → Bool
rises [] n = true
rises (p ∷ ps) n = ltb p.child n && rises ps n

-- a pair keeps the rules of pairs: the parent is the larger of two components of the sheet, and the children rise
unfoldable pub pairs : List Entry → List Pair → Pair → Bool
pairs es ps p = (ltb p.child p.parent && rises ps p.child) && (registered es p.child && registered es p.parent)

-- 16 where it doesn't, then 6 where its parent's workload is full: own tasks, and each child counted as one whatever its capacity
unfoldable pub pair_refusal : List Entry → List Pair → Pair → ℕ
pair_refusal es ps p =
    cond (pairs es ps p)
    (cond (leb most_tasks (own_tasks es p.parent + named ps p.parent)) refusal.tasks refusal.none)
    refusal.pair

-- pairs that the rules take one after the other, behind those before them (RULES 10)
abbrev pub Nested : List Entry → List Pair → List Pair → Type 0
Nested es before [] = Unit {0}
Nested es before (p ∷ ps) = (pair_refusal es before p ≡ refusal.none) × Nested es (before ++ (p ∷ [])) ps

-- the end record: its count is that of the components, and its bytes are all that are left
unfoldable pub ending_refusal : List Entry → ℕ → ℕ → ℕ
ending_refusal es count left =
    cond (eqb count (length es))
    (cond (eqb left (size_of (EndRecord count))) refusal.none refusal.end)
    refusal.end

-- where the walk over the pairs stands: whether it goes on, its refusal, the byte where the next record begins, the pairs so far
pub record Pairing : Type 0 where
  pub going : Bool
  pub refusal : ℕ
  pub place : ℕ
  pub pairs : List Pair

-- it stops at this record, with a refusal or, at the end record, with none
unfoldable pub stopped : ℕ → Pairing → Pairing
stopped n st = record { going = false; refusal = n; place = st.place; pairs = st.pairs }

-- behind a pair that is taken
unfoldable pub after_pair : Pairing → Pair → Pairing
after_pair st p = record { going = true; refusal = refusal.none; place = st.place + size_of (PairRecord p); pairs = st.pairs ++ (p ∷ []) }

-- one record, with so many bytes left from its first on; a component's or a task's record may not stand behind a pair
unfoldable pub pair_judged : List Entry → Pairing → Record → ℕ → Pairing
pair_judged es st (ComponentRecord h) left = stopped refusal.pair st
pair_judged es st (TaskRecord stated k) left = stopped refusal.pair st
pair_judged es st (PairRecord p) left =
    cond (eqb (pair_refusal es st.pairs p) refusal.none) (after_pair st p) (stopped (pair_refusal es st.pairs p) st)
pair_judged es st (EndRecord count) left = stopped (ending_refusal es count left) st
pair_judged es st (NoRecord n) left = stopped n st

unfoldable pub pair_step : List Entry → List ℕ → Pairing → Pairing
pair_step es s st = pair_judged es st (record_of (drop st.place s)) (length s - st.place)

-- record by record, as many as `more` says, while the judging goes on
unfoldable pub pair_walk : List Entry → ℕ → List ℕ → Pairing → Pairing
pair_walk es zero s st = st
pair_walk es (suc more) s st = elim st.going [ true ↦ pair_walk es more s (pair_step es s st) | false ↦ st ]

-- from where the components end
unfoldable pub paired_from : List Entry → List ℕ → ℕ → Pairing
paired_from es s at = pair_walk es (suc (length s)) s (record { going = true; refusal = refusal.none; place = at; pairs = [] })

-- the pairs of a sheet, and where they end
unfoldable pub paired : List ℕ → Pairing
paired s = paired_from (register_of s) s (walked s).place
