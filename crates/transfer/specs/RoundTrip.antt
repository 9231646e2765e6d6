-- The two round trips, stated over what the operations answer (RULES 10, 11): `reading` and `pair_reading` are what read_component and
-- read_pair answer, `put`, `put_pair` and `close` are what write_component, write_pair and write_end leave and answer.
use Rattle.std.specs.Prelude.{ℕ, zero, suc, ◌+◌, ◌≤◌, ◌<◌, List, [], ◌∷◌, ◌++◌, ◌≡◌, length, get_or, take, drop}
use Rattle.budget.specs.declared.component.Component.{Component}
use Rattle.budget.specs.Component.{Right, Same, range_refusal, refused, with_tasks}
use Rattle.budget.specs.Limits.{most_tasks}
use Rattle.budget.specs.Refusal as refusal
use Rattle.budget.specs.Task.{tasks_of}
use Rattle.record.specs.declared.layout.Pair.{Pair}
use Rattle.record.specs.Field.{Bytes}
use Rattle.record.specs.Layout.{pair_bytes, end_bytes}
use Rattle.sheet.specs.Check.{check, most_bytes, most_components, pairs_of}
use Rattle.sheet.specs.Pairs.{Nested}
use Rattle.sheet.specs.Part.{part_of}
use Rattle.sheet.specs.Register.{Entry}
use Rattle.transfer.specs.Pairing.{no_pair, pair_reading, pair_writing_refusal}
use Rattle.transfer.specs.Reading.{reading}
use Rattle.transfer.specs.Writing.{component_bytes, writing_refusal, end_refusal, written, buffered}

-- the bytes of components one behind the other, of pairs, and of the sheet that the right end record closes
unfoldable pub components_bytes : List Component → List ℕ
components_bytes [] = []
components_bytes (c ∷ cs) = component_bytes c ++ components_bytes cs

unfoldable pub pairs_bytes : List Pair → List ℕ
pairs_bytes [] = []
pairs_bytes (p ∷ ps) = pair_bytes p ++ pairs_bytes ps

unfoldable pub sheet_bytes : List Component → List Pair → List ℕ
sheet_bytes cs ps = components_bytes cs ++ (pairs_bytes ps ++ end_bytes (length cs))

-- a buffer that is being written, and the place answered last
pub record Page : Type 0 where
  pub buffer : List ℕ
  pub place : ℕ

-- one component written at the page's place, one pair, and the end record
unfoldable pub put : Page → Component → Page
put p c =
    let n = writing_refusal (length p.buffer) p.place c in
    record { buffer = buffered n p.buffer p.place (component_bytes c); place = (written n p.place (component_bytes c)).place }

unfoldable pub put_pair : Page → Pair → Page
put_pair p pair =
    let n = pair_writing_refusal (length p.buffer) p.place pair in
    record { buffer = buffered n p.buffer p.place (pair_bytes pair); place = (written n p.place (pair_bytes pair)).place }

unfoldable pub close : Page → ℕ → Page
close p count =
    let n = end_refusal (length p.buffer) p.place count in
    record { buffer = buffered n p.buffer p.place (end_bytes count); place = (written n p.place (end_bytes count)).place }

unfoldable pub put_all : Page → List Component → Page
put_all p [] = p
put_all p (c ∷ cs) = put_all (put p c) cs

unfoldable pub put_pairs : Page → List Pair → Page
put_pairs p [] = p
put_pairs p (pair ∷ ps) = put_pairs (put_pair p pair) ps

-- components and then pairs written one after the other from a buffer's beginning on, closed by the right end record
unfoldable pub write_all : List ℕ → List Component → List Pair → Page
write_all buffer cs ps = close (put_pairs (put_all (record { buffer = buffer; place = 0 }) cs) ps) (length cs)

-- n components read from place k on, and n pairs
unfoldable pub readings : List ℕ → ℕ → ℕ → List Component
readings s k zero = []
readings s k (suc n) = (reading s k).component ∷ readings s (suc k) n

unfoldable pub pair_readings : List ℕ → ℕ → ℕ → List Pair
pair_readings s k zero = []
pair_readings s k (suc n) = (pair_reading s k).pair ∷ pair_readings s (suc k) n

-- an accepted sheet, each of its components and then of its pairs read and all written one after the other into a buffer, stands there byte for
-- byte; the buffer is as before behind it
abbrev pub SameBytes : Type 0
SameBytes =
    (s : List ℕ) → Bytes s → (check s).refusal ≡ refusal.none → (buffer : List ℕ) → length s ≤ length buffer
    → write_all buffer (readings s 0 (check s).count) (pair_readings s 0 (length (pairs_of s))) ≡ record { buffer = s ++ drop (length s) buffer; place = length s }

-- a part that is handed back is the bytes of the component that is read at its place
abbrev pub PartsRead : Type 0
PartsRead =
    (s : List ℕ) → Bytes s → (check s).refusal ≡ refusal.none → (k : ℕ) → k < (check s).count → part_of s k ≡ component_bytes (reading s k).component

-- a valid component: no number of it is refused, its stored value is right, its own number is one of 2 bytes, and its table has the places that its
-- type gives it
pub record Sound (c : Component) : Type 0 where
  pub ranges : range_refusal c ≡ refusal.none
  pub common : Right c
  pub number : c.number < 65_536
  pub places : length c.table.tasks ≡ most_tasks

-- valid components whose numbers rise: each number is at least the lowest allowed
abbrev pub Rising : ℕ → List Component → Type 0
Rising lowest [] = Unit {0}
Rising lowest (c ∷ cs) = (lowest ≤ c.number) × Sound c × Rising (c.number + 1) cs

-- what a pair is judged against, of components that are not in a sheet yet
unfoldable pub entries_of : List Component → List Entry
entries_of [] = []
entries_of (c ∷ cs) = record { number = c.number; tasks = length (tasks_of c.table) } ∷ entries_of cs

-- a component as it is returned: its task places are zero from the count on (RULES 2)
abbrev pub returned : Component → Component
returned c = with_tasks c (tasks_of c.table)

-- a sheet that is accepted and read back as these components and pairs
pub record ReadBack (s : List ℕ) (cs : List Component) (ps : List Pair) : Type 0 where
  pub accepted : check s ≡ record { refusal = refusal.none; place = 0; count = length cs }
  pub read : (k : ℕ) → k < length cs
      → reading s k ≡ record { refusal = refusal.none; place = 0; component = returned (get_or cs k refused) }
  pub same : (k : ℕ) → k < length cs → Same (reading s k).component (get_or cs k refused)
  pub paired : (k : ℕ) → k < length ps → pair_reading s k ≡ record { refusal = refusal.none; place = 0; pair = get_or ps k no_pair }
  pub no_more : pair_reading s (length ps) ≡ record { refusal = refusal.place; place = 0; pair = no_pair }

-- valid components whose numbers rise, as many as a sheet can hold, and pairs of them that the rules take, written and closed by the end record
-- with the count of components, are read back as they were
abbrev pub SameComponents : Type 0
SameComponents =
    (cs : List Component) (ps : List Pair) → Rising 0 cs → Nested (entries_of cs) [] ps → length cs ≤ most_components → length (sheet_bytes cs ps) ≤ most_bytes
    → (buffer : List ℕ) → length (sheet_bytes cs ps) ≤ length buffer
    → (write_all buffer cs ps ≡ record { buffer = sheet_bytes cs ps ++ drop (length (sheet_bytes cs ps)) buffer; place = length (sheet_bytes cs ps) })
    × ReadBack (take (write_all buffer cs ps).place (write_all buffer cs ps).buffer) cs ps
