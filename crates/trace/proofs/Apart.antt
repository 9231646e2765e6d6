-- No two answers of the code have the same numbers: both are fields of what they are read as.
use mathlib.Core.Path.{◌≡◌, sym, ap}
use Rattle.std.proofs.Common.{Ok, Err}
use Rattle.budget.proofs.Refusals.{some, numbers_apart}
use Rattle.trace.specs.Answer.{Legality, LegalitiesApart}

pub legalities_apart : LegalitiesApart
legalities_apart (Ok x) (Ok y) e = ap Ok (ap (λ (a : Legality). a.legal) e)
legalities_apart (Ok x) (Err s) e = absurd (some s (sym (ap (λ (a : Legality). a.refusal) e)))
legalities_apart (Err r) (Ok y) e = absurd (some r (ap (λ (a : Legality). a.refusal) e))
legalities_apart (Err r) (Err s) e = ap Err (numbers_apart r s (ap (λ (a : Legality). a.refusal) e))
