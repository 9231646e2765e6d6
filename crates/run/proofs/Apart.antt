-- No two answers of the code have the same numbers: a miss is said back, the others are fields of what they are read as.
use mathlib.Core.Path.{◌≡◌, refl, sym, ap, ◌∙◌}
use Rattle.std.proofs.Common.{Ok, Err}
use Rattle.std.specs.Prelude.{Option}
use Rattle.std.specs.Prelude as std
use Rattle.budget.proofs.Refusals.{some, numbers_apart}
use Rattle.run.specs.declared.walk.Miss as source
use Rattle.run.specs.declared.walk.Walked as answer
use Rattle.run.specs.Walked.{Miss, None, At, Walked, WalksApart, miss_in}

-- the code's miss of what is read
abbrev missed : Miss → Option source.Miss
missed None = std.None
missed (At t k) = std.Some (record { at = t; task = k })

back : (m : Option source.Miss) → missed (miss_in m) ≡ m
back std.None = refl
back (std.Some m) = refl

-- the code's answer of what is read, where it is not refused
abbrev given : Walked → answer.Walked
given w = record { miss = missed w.miss; served = w.served; idle = w.idle }

again : (w : answer.Walked) → record { miss = missed (miss_in w.miss); served = w.served; idle = w.idle } ≡ w
again w = ap (λ (m : Option source.Miss). record { miss = m; served = w.served; idle = w.idle }) (back w.miss)

pub walks_apart : WalksApart
walks_apart (Ok v) (Ok w) e = ap Ok (sym (again v) ∙ ap given e ∙ again w)
walks_apart (Ok v) (Err s) e = absurd (some s (sym (ap (λ (a : Walked). a.refusal) e)))
walks_apart (Err r) (Ok w) e = absurd (some r (ap (λ (a : Walked). a.refusal) e))
walks_apart (Err r) (Err s) e = ap Err (numbers_apart r s (ap (λ (a : Walked). a.refusal) e))
