-- The walk over a row of bytes, record by record, for any way of judging one record; and where it stood with each count of components.
use Rattle.std.specs.Prelude.{ℕ, zero, suc, ◌+◌, ◌≤◌, ◌<◌, true, false, cond, List, ◌≡◌, drop, leb}
use Rattle.record.specs.Record.{Record}
use Rattle.record.specs.Layout.{size_of, record_of}
use Rattle.sheet.specs.Judging.{State, most_components}

-- how a record is judged: the state so far, the record
abbrev pub Judging : Type 0
Judging = State → Record → State

-- one record: the one that begins at the walk's place is read, then judged
unfoldable pub step : Judging → List ℕ → State → State
step judge s st = judge st (record_of (drop st.place s))

-- record by record, as many as `more` says, while the judging goes on
unfoldable pub walk : Judging → ℕ → List ℕ → State → State
walk judge zero s st = st
walk judge (suc more) s st = elim st.going [ true ↦ walk judge more s (step judge s st) | false ↦ st ]

-- the last state that the walk reaches with at most k components
unfoldable pub held : Judging → ℕ → List ℕ → ℕ → State → State
held judge zero s k st = st
held judge (suc more) s k st =
    elim st.going [
      | true ↦ cond (leb (step judge s st).count k) (held judge more s k (step judge s st)) st
      | false ↦ st
    ]

-- from one state to the next, with bytes up to the place n: never back nor past n, going on only by moving on, components counted one by one up to the most
pub record Onward (n : ℕ) (st next : State) : Type 0 where
  pub kept : st.place ≤ next.place
  pub within : next.place ≤ n
  pub goes : next.going ≡ true → st.place < next.place
  pub counts : st.count ≤ next.count
  pub singly : next.count ≤ st.count + 1
  pub few : st.count ≤ most_components → next.count ≤ most_components

-- what the walk asks of a judging: it leads onward wherever the record lies within what is left
abbrev pub Orderly : Judging → Type 0
Orderly judge = (st : State) (r : Record) (left : ℕ) → size_of r ≤ left → Onward (st.place + left) st (judge st r)
