-- No two answers of the code are read as the same: a record is said back, a place and a refusal are fields of what is read.
use Prim.Native.Nat.{ℕ}
use mathlib.Core.Path.{◌≡◌, refl, sym, ap, ◌∙◌}
use Rattle.std.proofs.Common.{Ok, Err}
use Rattle.budget.proofs.Refusals.{some, numbers_apart}
use Rattle.record.specs.declared.layout.Record as code
use Rattle.record.specs.declared.layout.Record.TheVariants as variant
use Rattle.record.specs.Record.{Record, ComponentRecord, TaskRecord, PairRecord, EndRecord, NoRecord, RecordsApart, said}
use Rattle.record.specs.Writing.{Written, WritesApart}

-- the code's record of what is read, where one is; else another
abbrev unsaid : code.Record → Record → code.Record
unsaid r (ComponentRecord h) = variant.Component h
unsaid r (TaskRecord stated k) = variant.Task stated k
unsaid r (PairRecord p) = variant.Pair p
unsaid r (EndRecord n) = variant.End n
unsaid r (NoRecord n) = r

back : (d r : code.Record) → unsaid d (said r) ≡ r
back d (variant.Component h) = refl
back d (variant.Task stated k) = refl
back d (variant.Pair p) = refl
back d (variant.End n) = refl

-- the refusal's number, or 0 where a record is read
abbrev number : Record → ℕ
number (ComponentRecord h) = 0
number (TaskRecord stated k) = 0
number (PairRecord p) = 0
number (EndRecord n) = 0
number (NoRecord n) = n

taken : (r : code.Record) → number (said r) ≡ 0
taken (variant.Component h) = refl
taken (variant.Task stated k) = refl
taken (variant.Pair p) = refl
taken (variant.End n) = refl

pub records_apart : RecordsApart
records_apart (Ok a) (Ok b) e = ap Ok (sym (back a a) ∙ (ap (unsaid a) e ∙ back a b))
records_apart (Ok a) (Err s) e = absurd (some s (sym (ap number e) ∙ taken a))
records_apart (Err r) (Ok b) e = absurd (some r (ap number e ∙ taken b))
records_apart (Err r) (Err s) e = ap Err (numbers_apart r s (ap number e))

pub writes_apart : WritesApart
writes_apart (Ok a) (Ok b) e = ap Ok (ap (λ (w : Written). w.place) e)
writes_apart (Ok a) (Err s) e = absurd (some s (sym (ap (λ (w : Written). w.refusal) e)))
writes_apart (Err r) (Ok b) e = absurd (some r (ap (λ (w : Written). w.refusal) e))
writes_apart (Err r) (Err s) e = ap Err (numbers_apart r s (ap (λ (w : Written). w.refusal) e))
