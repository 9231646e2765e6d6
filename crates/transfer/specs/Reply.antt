-- The bytes of what a host is answered (RULES 14), little-endian as in a sheet.
use Rattle.std.specs.Prelude.{ℕ, List}
unfoldable pub use Rattle.record.specs.Reply.{reply_bytes}
use Rattle.record.specs.Writing.{numbers_bytes}
use Rattle.sheet.specs.Check.{Checked}
use Rattle.transfer.specs.declared.reply.Checked as code

-- the numbers that a host is told
abbrev pub told : code.Checked → Checked
told c = record { refusal = c.refusal; place = c.place; count = c.count }

-- what a sheet was answered: its refusal, the byte where the record began and the count of components
unfoldable pub checked_bytes : Checked → List ℕ
checked_bytes c = numbers_bytes c.refusal c.place c.count
