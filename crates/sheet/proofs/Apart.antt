-- No two answers are the same in the numbers of the rules: so what the contracts say of these settles what is answered.
use Prim.Native.Nat.{ℕ}
use mathlib.Core.Path.{◌≡◌, sym, ap, ap₂}
use Rattle.std.specs.Prelude.{Ok, Err}
use Rattle.budget.specs.declared.refusal.Refusal.{Refusal}
use Rattle.budget.specs.Refusal.{number_of}
use Rattle.budget.proofs.Refusals.{some, numbers_apart}
use Rattle.sheet.specs.declared.fault.Fault.{Fault}
use Rattle.sheet.specs.Judging.{State}
use Rattle.sheet.specs.Check.{Checked}
use Rattle.sheet.specs.Contents.{Contents}
use Rattle.sheet.specs.Part.{Located}
use Rattle.sheet.specs.Answered.{ChecksApart, ContentsApart, PlacesApart, OpeningsApart}

pub faults_apart : (f g : Fault) → number_of f.refusal ≡ number_of g.refusal → f.place ≡ g.place → f ≡ g
faults_apart f g e p = ap₂ (λ (r : Refusal) (n : ℕ). record { refusal = r; place = n }) (numbers_apart f.refusal g.refusal e) p

pub checks_apart : ChecksApart
checks_apart (Ok m) (Ok n) e = ap Ok (ap (λ (x : Checked). x.count) e)
checks_apart (Ok m) (Err g) e = absurd (some g.refusal (sym (ap (λ (x : Checked). x.refusal) e)))
checks_apart (Err f) (Ok n) e = absurd (some f.refusal (ap (λ (x : Checked). x.refusal) e))
checks_apart (Err f) (Err g) e = ap Err (faults_apart f g (ap (λ (x : Checked). x.refusal) e) (ap (λ (x : Checked). x.place) e))

pub contents_apart : ContentsApart
contents_apart (Ok c) (Ok d) e = ap Ok (ap (λ (x : Contents). record { count = x.checked.count; edges = x.edges }) e)
contents_apart (Ok c) (Err g) e = absurd (some g.refusal (sym (ap (λ (x : Contents). x.checked.refusal) e)))
contents_apart (Err f) (Ok d) e = absurd (some f.refusal (ap (λ (x : Contents). x.checked.refusal) e))
contents_apart (Err f) (Err g) e =
    ap Err (faults_apart f g (ap (λ (x : Contents). x.checked.refusal) e) (ap (λ (x : Contents). x.checked.place) e))

pub places_apart : PlacesApart
places_apart (Ok l) (Ok m) e = ap Ok (ap (λ (x : Located). record { count = x.checked.count; span = x.span }) e)
places_apart (Ok l) (Err g) e = absurd (some g.refusal (sym (ap (λ (x : Located). x.checked.refusal) e)))
places_apart (Err f) (Ok m) e = absurd (some f.refusal (ap (λ (x : Located). x.checked.refusal) e))
places_apart (Err f) (Err g) e =
    ap Err (faults_apart f g (ap (λ (x : Located). x.checked.refusal) e) (ap (λ (x : Located). x.checked.place) e))

pub openings_apart : OpeningsApart
openings_apart (Ok a) (Ok b) e = ap Ok (ap (λ (x : State). record { place = x.place; count = x.count; lowest = x.lowest; tasks = x.tasks }) e)
openings_apart (Ok a) (Err g) e = absurd (some g.refusal (sym (ap (λ (x : State). x.refusal) e)))
openings_apart (Err f) (Ok b) e = absurd (some f.refusal (ap (λ (x : State). x.refusal) e))
openings_apart (Err f) (Err g) e = ap Err (faults_apart f g (ap (λ (x : State). x.refusal) e) (ap (λ (x : State). x.place) e))
