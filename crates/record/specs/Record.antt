-- A record of a sheet as the definitions speak of it (RULES 10), and how the code's records and answers are read as such.
use Rattle.std.specs.Prelude.{ℕ, ◌≡◌, Bool, Option, Some, None, Result, Ok, Err}
use Rattle.budget.specs.declared.refusal.Refusal.{Refusal}
use Rattle.budget.specs.declared.task.Task.{Task}
use Rattle.budget.specs.Refusal.{number_of}
use Rattle.record.specs.declared.layout.Head.{Head}
use Rattle.record.specs.declared.layout.Pair.{Pair}
use Rattle.record.specs.declared.layout.Record as code
use Rattle.record.specs.declared.layout.Record.TheVariants as variant

-- what begins at a place of a sheet: a record, or the refusal's number where none does; of a task it is told whether its J is stated
pub data Record : Type 0 where
  ComponentRecord : Head → Record
  TaskRecord : Bool → Task → Record
  PairRecord : Pair → Record
  EndRecord : ℕ → Record
  NoRecord : ℕ → Record

-- what a record of the code says
abbrev pub said : code.Record → Record
said (variant.Component h) = ComponentRecord h
said (variant.Task stated k) = TaskRecord stated k
said (variant.Pair p) = PairRecord p
said (variant.End count) = EndRecord count

-- what is to be measured or written: a record, or none; whatever refused it, none has no bytes
abbrev pub said_of : Option code.Record → Record
said_of (Some r) = said r
said_of None = NoRecord 0

-- what is read: a record, or the refusal's number
abbrev pub record_in : Result code.Record Refusal → Record
record_in (Ok r) = said r
record_in (Err r) = NoRecord (number_of r)

-- what is read settles the code's answer: no two are read as the same
abbrev pub RecordsApart : Type 0
RecordsApart = (a b : Result code.Record Refusal) → record_in a ≡ record_in b → a ≡ b
