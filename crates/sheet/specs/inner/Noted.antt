-- What the walk over the components answers: where it is refused, or where it ends and what it notes of each count of components.
use Rattle.std.specs.Prelude.{ℕ, List, ◌≡◌, ◌≤◌, length, get_or, Result, Ok, Err}
use Rattle.budget.specs.Refusal as refusal
use Rattle.sheet.specs.declared.fault.Fault.{Fault}
use Rattle.sheet.specs.declared.walk.Noted.{Noted}
use Rattle.sheet.specs.declared.walk.Walked.{Walked}
use Rattle.sheet.specs.Judging.{State, ended}
use Rattle.sheet.specs.Register.{walked, held_of}
use Rattle.sheet.specs.Contents.{edges_of}
use Rattle.sheet.specs.Answered.{state_in}

-- what is noted of a state
abbrev pub noted_of : State → Noted
noted_of st = record { lowest = st.lowest; tasks = st.tasks }

-- a walk over a sheet that is not refused before its pairs: it ends behind the last component, and has noted the edges, and of each count of
-- components the lowest number that may follow and the tasks of the last component
pub record Found (s : List ℕ) (w : Walked) : Type 0 where
  pub ends : walked s ≡ ended (state_in w.state)
  pub edges : w.edges ≡ edges_of s
  pub noted : (k : ℕ) (d : Noted) → k ≤ w.state.count → get_or w.components k d ≡ noted_of (held_of s k)
  pub long : length w.components ≡ 257

-- a walk that is refused, and where
pub record Refused (s : List ℕ) (f : Fault) : Type 0 where
  pub number : (walked s).refusal ≡ refusal.number_of f.refusal
  pub place : (walked s).place ≡ f.place

-- what the walk answers
abbrev pub Walks : List ℕ → Result Walked Fault → Type 0
Walks s (Ok w) = Found s w
Walks s (Err f) = Refused s f
