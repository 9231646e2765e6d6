-- What the code answers, in the numbers of RULES 11 and 12: the refusal's number, 0 for none, and 0 for every other number of a refused answer.
use Rattle.std.specs.Prelude.{ℕ, ◌≡◌, true, false, Option, Some, None, Result, Ok, Err}
use Rattle.budget.specs.declared.refusal.Refusal.{Refusal}
use Rattle.budget.specs.Refusal as refusal
use Rattle.sheet.specs.declared.contents.Contents as contents
use Rattle.sheet.specs.declared.fault.Fault.{Fault}
use Rattle.sheet.specs.declared.judging.State as judging
use Rattle.sheet.specs.declared.part.Located as part
use Rattle.sheet.specs.Judging.{State, ended, refuse}
use Rattle.sheet.specs.Check.{Checked}
use Rattle.sheet.specs.Contents.{Contents, no_edges}
use Rattle.sheet.specs.Part.{Located}

-- a sheet's answer
abbrev pub checked_in : Result ℕ Fault → Checked
checked_in (Ok count) = record { refusal = refusal.none; place = 0; count = count }
checked_in (Err f) = record { refusal = refusal.number_of f.refusal; place = f.place; count = 0 }

-- a sheet's contents
abbrev pub contents_in : Result contents.Contents Fault → Contents
contents_in (Ok c) = record { checked = checked_in (Ok c.count); edges = c.edges }
contents_in (Err f) = record { checked = checked_in (Err f); edges = no_edges }

-- where a component lies
abbrev pub located_in : Result part.Located Fault → Located
located_in (Ok l) = record { checked = checked_in (Ok l.count); span = l.span }
located_in (Err f) = record { checked = checked_in (Err f); span = record { from = 0; to = 0 } }

-- the state of a walk that goes on
abbrev pub state_in : judging.State → State
state_in st = record { going = true; refusal = refusal.none; place = st.place; count = st.count; lowest = st.lowest; tasks = st.tasks }

-- the state before the first record
abbrev pub opened_in : Result judging.State Fault → State
opened_in (Ok st) = state_in st
opened_in (Err f) = record { going = false; refusal = refusal.number_of f.refusal; place = f.place; count = 0; lowest = 0; tasks = 0 }

-- the state behind a record: the next one, or none behind the last component, or the refusal of a record, where the walk stays
abbrev pub step_in : judging.State → Result (Option judging.State) Refusal → State
step_in st (Ok (Some next)) = state_in next
step_in st (Ok None) = ended (state_in st)
step_in st (Err r) = refuse (refusal.number_of r) (state_in st)

-- what the contracts say of these numbers settles what is answered: no two answers have the same
abbrev pub ChecksApart : Type 0
ChecksApart = (a b : Result ℕ Fault) → checked_in a ≡ checked_in b → a ≡ b

abbrev pub ContentsApart : Type 0
ContentsApart = (a b : Result contents.Contents Fault) → contents_in a ≡ contents_in b → a ≡ b

abbrev pub PlacesApart : Type 0
PlacesApart = (a b : Result part.Located Fault) → located_in a ≡ located_in b → a ≡ b

abbrev pub OpeningsApart : Type 0
OpeningsApart = (a b : Result judging.State Fault) → opened_in a ≡ opened_in b → a ≡ b
