-- What the host's calls answer and write (RULES 14).
use Rattle.std.specs.Prelude.{ℕ, zero, suc, ◌+◌, ◌*◌, cond, List, [], ◌++◌, eqb, replicate}
use Rattle.budget.specs.Refusal as refusal
use Rattle.jougsilver.specs.Answer.{reply_on, answer_refusal, refusal_of}
use Rattle.record.specs.Writing.{numbers_bytes}
use Rattle.sheet.specs.Check.{check}
use Rattle.sheet.specs.Contents.{edge_of}
use Rattle.transfer.specs.Reading.{reading}
use Rattle.transfer.specs.Reply.{checked_bytes}
use Rattle.transfer.specs.Writing.{room_refusal}
use Rattle.tree.specs.numbers.Outcome.{Outcome}
use Rattle.tree.specs.Tree.{outcome_at}

-- the order of refusals (RULES 13): reading the component at a place is refused by the sheet's number or 15, judging it by 10, writing the reply by 11
unfoldable pub host_refusal : List ℕ → ℕ → ℕ → ℕ → ℕ
host_refusal s place room at =
    cond (eqb (reading s place).refusal refusal.none)
    (answer_refusal (outcome_at s place) room at)
    (reading s place).refusal

-- the bytes of the reply on the component at a place, judged in its tree
abbrev pub host_reply : List ℕ → ℕ → List ℕ
host_reply s place = reply_on (reading s place).component.number (outcome_at s place)

-- a check's reply is 12 bytes: what the sheet was answered
abbrev pub check_reply : List ℕ → List ℕ
check_reply s = checked_bytes (check s)

-- a check refuses nothing but the want of room
abbrev pub check_refusal : ℕ → ℕ → ℕ
check_refusal room at = room_refusal room at 12

-- ---- all components in one call

-- the reply on a component, or as many zeros where it is refused
unfoldable pub rest_on : ℕ → Outcome → List ℕ
rest_on number o = cond (eqb (refusal_of o) refusal.none) (reply_on number o) (replicate 24 0)

-- of one component: its refusal, its number, the byte where its record begins, and then its reply or the zeros
unfoldable pub entry_on : ℕ → Outcome → ℕ → List ℕ
entry_on number o byte = numbers_bytes (refusal_of o) number byte ++ rest_on number o

abbrev pub entry_at : List ℕ → ℕ → List ℕ
entry_at s k = entry_on (reading s k).component.number (outcome_at s k) (edge_of s k)

-- of the first k components, in their order
unfoldable pub entries_to : List ℕ → ℕ → List ℕ
entries_to s zero = []
entries_to s (suc k) = entries_to s k ++ entry_at s k

-- what the sheet was answered, then each component
unfoldable pub all_reply : List ℕ → List ℕ
all_reply s = check_reply s ++ entries_to s (check s).count

-- the sheet's refusal, then that of the room for all of it
unfoldable pub all_refusal : List ℕ → ℕ → ℕ → ℕ
all_refusal s room at =
    cond (eqb (check s).refusal refusal.none)
    (room_refusal room at (12 + 36 * (check s).count))
    (check s).refusal
