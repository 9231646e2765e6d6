-- Reading pairs and writing one (RULES 10, 11).
use Rattle.std.specs.Prelude.{ℕ, zero, suc, ◌-◌, cond, List, [], ◌∷◌, ◌++◌, ◌≡◌, length, get_or, drop, replicate, ltb, eqb, Result, Ok, Err}
use Rattle.budget.specs.Refusal as refusal
use Rattle.record.specs.declared.layout.Pair.{Pair}
use Rattle.record.specs.Record.{Record, ComponentRecord, TaskRecord, PairRecord, EndRecord, NoRecord}
use Rattle.record.specs.Layout.{pair_bytes, size_of, record_of}
use Rattle.record.specs.Writing.{room_refusal}
use Rattle.sheet.specs.Check.{check, most_components, pairs_of}
use Rattle.sheet.specs.Contents.{edge_of}
use Rattle.sheet.specs.declared.fault.Fault.{Fault}
use Rattle.transfer.specs.declared.pair.Pairs.{Pairs}

-- stands for the pair that can't be answered
abbrev pub no_pair : Pair
no_pair = record { child = 0; parent = 0 }

-- what reading a pair answers, in the numbers of RULES 12; refused: both numbers are 0
pub record PairReading : Type 0 where
  pub refusal : ℕ
  pub place : ℕ
  pub pair : Pair

-- how the code's answer is read as such
abbrev pub pair_reading_in : Result Pair Fault → PairReading
pair_reading_in (Ok p) = record { refusal = refusal.none; place = 0; pair = p }
pair_reading_in (Err f) = record { refusal = refusal.number_of f.refusal; place = f.place; pair = no_pair }

-- no two readings of the code have the same numbers
abbrev pub PairReadingsApart : Type 0
PairReadingsApart = (a b : Result Pair Fault) → pair_reading_in a ≡ pair_reading_in b → a ≡ b

-- a pair record's pair and those behind it; any other record ends them
unfoldable pub pair_then : Record → List Pair → List Pair
pair_then (PairRecord p) ps = p ∷ ps
pair_then (ComponentRecord h) ps = []
pair_then (TaskRecord stated k) ps = []
pair_then (EndRecord count) ps = []
pair_then (NoRecord n) ps = []

-- the pairs of the pair records at the front of a row of bytes, n at most
unfoldable pub pairs_in : ℕ → List ℕ → List Pair
pairs_in zero s = []
pairs_in (suc n) s = pair_then (record_of s) (pairs_in n (drop (size_of (record_of s)) s))

-- pairs as they are returned, with zeros behind them; a sheet has fewer pairs than components, since each child has one and the largest number is
-- no child
unfoldable pub pair_table : List Pair → Pairs
pair_table ps = record { count = length ps; pairs = ps ++ replicate (most_components - length ps) no_pair }

-- the pairs of an accepted sheet are those that stand behind its last component
abbrev pub PairsStandBehind : Type 0
PairsStandBehind = (s : List ℕ) → (check s).refusal ≡ refusal.none → pairs_in most_components (drop (edge_of s (check s).count) s) ≡ pairs_of s

-- the sheet's refusal, then 15 where no pair stands at that place among the pairs (RULES 13); refused, both numbers are 0
unfoldable pub pair_reading : List ℕ → ℕ → PairReading
pair_reading s i =
    cond (eqb (check s).refusal refusal.none)
    (cond (ltb i (length (pairs_of s)))
    (record { refusal = refusal.none; place = 0; pair = get_or (pairs_of s) i no_pair })
    (record { refusal = refusal.place; place = 0; pair = no_pair }))
    (record { refusal = (check s).refusal; place = (check s).place; pair = no_pair })

-- writing: 16 unless the parent is larger, then 11 (RULES 13)
unfoldable pub pair_writing_refusal : ℕ → ℕ → Pair → ℕ
pair_writing_refusal room at p = cond (ltb p.child p.parent) (room_refusal room at (length (pair_bytes p))) refusal.pair
