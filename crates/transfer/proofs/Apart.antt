-- No two readings of the code have the same numbers: what is read and a fault are fields of what they are read as.
use mathlib.Core.Path.{sym, ap}
use Rattle.std.specs.Prelude.{Ok, Err}
use Rattle.budget.proofs.Refusals.{some}
use Rattle.sheet.proofs.Apart.{faults_apart}
use Rattle.transfer.specs.Pairing.{PairReading, PairReadingsApart}
use Rattle.transfer.specs.Reading.{Reading, ReadingsApart}

pub readings_apart : ReadingsApart
readings_apart (Ok c) (Ok d) e = ap Ok (ap (λ (x : Reading). x.component) e)
readings_apart (Ok c) (Err g) e = absurd (some g.refusal (sym (ap (λ (x : Reading). x.refusal) e)))
readings_apart (Err f) (Ok d) e = absurd (some f.refusal (ap (λ (x : Reading). x.refusal) e))
readings_apart (Err f) (Err g) e = ap Err (faults_apart f g (ap (λ (x : Reading). x.refusal) e) (ap (λ (x : Reading). x.place) e))

pub pair_readings_apart : PairReadingsApart
pair_readings_apart (Ok p) (Ok q) e = ap Ok (ap (λ (x : PairReading). x.pair) e)
pair_readings_apart (Ok p) (Err g) e = absurd (some g.refusal (sym (ap (λ (x : PairReading). x.refusal) e)))
pair_readings_apart (Err f) (Ok q) e = absurd (some f.refusal (ap (λ (x : PairReading). x.refusal) e))
pair_readings_apart (Err f) (Err g) e = ap Err (faults_apart f g (ap (λ (x : PairReading). x.refusal) e) (ap (λ (x : PairReading). x.place) e))
