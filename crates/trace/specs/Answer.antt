-- The trace question: what it refuses, and what its answer says (RULES 5, 13).
use Rattle.std.specs.Prelude.{ℕ, Bool, true, false, cond, List, Result, Ok, Err, ◌↔◌, ◌≡◌, length, leb, ltb, eqb}
use Rattle.budget.specs.declared.interface.Interface.{Interface}
use Rattle.budget.specs.Interface.{Π, interface_refusal}
use Rattle.budget.specs.declared.refusal.Refusal.{Refusal}
use Rattle.budget.specs.Refusal as refusal
use Rattle.trace.specs.Legal.{zeros_and_ones, Legal}

-- the most slots of a trace that is taken
abbrev pub longest : ℕ
longest = 65_536

-- 9 for the interface and for an offset at or past Π, then 13 for the trace
unfoldable pub trace_refusal : Interface → ℕ → List ℕ → ℕ
trace_refusal i o s =
    cond (eqb (interface_refusal i) refusal.none)
    (cond (ltb o (Π i))
    (cond (leb (length s) longest)
    (cond (zeros_and_ones s) refusal.none refusal.bad_trace)
    refusal.bad_trace)
    refusal.range)
    (interface_refusal i)

-- the answer in the numbers of RULES 12: its refusal or 0, and yes or no
pub record Legality : Type 0 where
  pub refusal : ℕ
  pub legal : Bool

-- an answer of the code in those numbers: what is refused is not legal
abbrev pub legality_in : Result Bool Refusal → Legality
legality_in (Ok legal) = record { refusal = refusal.none; legal = legal }
legality_in (Err r) = record { refusal = refusal.number_of r; legal = false }

-- the answer has that refusal, and it is yes exactly if nothing is refused and the trace is legal
pub record Answered (i : Interface) (o : ℕ) (s : List ℕ) (r : Legality) : Type 0 where
  pub refused : r.refusal ≡ trace_refusal i o s
  pub yes_exactly : (r.legal ≡ true) ↔ ((trace_refusal i o s ≡ refusal.none) × Legal i o s)

-- no two answers of the code have the same numbers
abbrev pub LegalitiesApart : Type 0
LegalitiesApart = (a b : Result Bool Refusal) → legality_in a ≡ legality_in b → a ≡ b
