-- Each refusal of the host's list stands before those behind it: that of the reading at the place, that of the component that is found there, that of
-- the room; with all past, the reply on that component is stored.
use Prim.Native.Nat.{ℕ}
use mathlib.Core.Path.{◌≡◌, ap}
use mathlib.Core.List.{List}
use native.Mathlib.Omega.{arith}
use lib.Dec.{eqb}
use borrow.Author.Tests.{eqb-true, ne_eqb}
use Rattle.jougsilver.specs.Answer.{answer_refusal, refusal_of, reply_of, reply_on}
use Rattle.jougsilver.specs.Host.{host_refusal, host_reply}
use Rattle.std.specs.Prelude.{Result, Ok, Err}
use Rattle.budget.specs.declared.refusal.Refusal.{Refusal}
use Rattle.budget.specs.Refusal.{number_in}
use Rattle.record.specs.Writing.{Written, room_refusal, buffered, written, written_in}
use Rattle.record.proofs.Cases.{cases}
use Rattle.transfer.specs.Reading.{reading}
use Rattle.transfer.specs.Reply.{reply_bytes}
use Rattle.tree.specs.numbers.Outcome.{Outcome}
use Rattle.tree.specs.numbers.Placed.{Placed}
use Rattle.tree.specs.Tree.{outcome_at, placing}

-- a refusal leaves the buffer as it is
pub unwritten : (n m : ℕ) (buffer : List ℕ) (at : ℕ) (bytes : List ℕ) → n ≡ m → (n ≡ 0 → ⊥) → buffer ≡ buffered m buffer at bytes
unfolding buffered
unwritten n m buffer at bytes e ne = rw (← e, ne_eqb n 0 ne)

-- what is found at a place: the number of the component that is read there, and its outcome
record Standing (s : List ℕ) (place number : ℕ) (o : Outcome) : Type 0 where
  read : (reading s place).refusal ≡ 0
  numbered : number ≡ (reading s place).component.number
  judged : o ≡ outcome_at s place

module _ (s : List ℕ) (place room at : ℕ) where
  -- the place is refused
  pub place_refused : (n byte : ℕ) → Placed.Refused n byte ≡ placing s place → (n ≡ 0 → ⊥) → n ≡ host_refusal s place room at
  unfolding placing host_refusal
  place_refused n byte =
      cases (λ (x : Placed). Placed.Refused n byte ≡ x → (n ≡ 0 → ⊥) → n ≡ host_refusal s place room at)
      (eqb (reading s place).refusal 0)
      (λ p e ne. absurd (let z : ◌≡◌ {A = ℕ} 0 1 = cc in omega arith))
      (λ p e ne. let is : n ≡ (reading s place).refusal = cc in rw (p, is))

  module _ (number : ℕ) (o : Outcome) (found : Placed.Found number o ≡ placing s place) where
    standing : Standing s place number o
    unfolding placing
    standing =
        cases (λ (x : Placed). Placed.Found number o ≡ x → Standing s place number o)
        (eqb (reading s place).refusal 0)
        (λ p e. record { read = eqb-true (reading s place).refusal 0 p; numbered = cc; judged = cc })
        (λ p e. absurd (let z : ◌≡◌ {A = ℕ} 0 1 = cc in omega arith))
        found

    -- the component there is refused
    pub component_refused : (n : ℕ) → n ≡ refusal_of o → (n ≡ 0 → ⊥) → n ≡ host_refusal s place room at
    unfolding host_refusal answer_refusal
    component_refused n e ne = rw (standing.read, ← standing.judged, ← e, ne_eqb n 0 ne)

    -- only the room can be refused
    pub room_left : refusal_of o ≡ 0 → host_refusal s place room at ≡ room_refusal room at 24
    unfolding host_refusal answer_refusal
    room_left e = rw (standing.read, ← standing.judged, e)

    pub reply_left : reply_bytes (reply_of number o) ≡ host_reply s place
    unfolding reply_on
    reply_left = rw (← standing.numbered, ← standing.judged)

-- the number of what a writer answers
pub written_number : (r : Result ℕ Refusal) (n at : ℕ) (bytes : List ℕ) → written_in r ≡ written n at bytes → number_in r ≡ n
unfolding written
written_number (Ok place) n at bytes e = ap (λ (w : Written). w.refusal) e
written_number (Err r) n at bytes e = ap (λ (w : Written). w.refusal) e
