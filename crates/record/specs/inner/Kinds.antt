-- The kinds of a sheet's records as the code has them, each with its number (RULES 10).
use Rattle.std.specs.Prelude.{ℕ, ◌≡◌, Result, MatchResult}
use Rattle.budget.specs.declared.refusal.Refusal.{Refusal}
use Rattle.budget.specs.declared.refusal.Refusal.TheVariants as refusal
use Rattle.record.specs.declared.kind.Kind.{Kind}
use Rattle.record.specs.declared.kind.Kind.TheVariants as kind
use Rattle.record.specs.Layout.{no_row, row_of}

abbrev pub kind_number : Kind → ℕ
kind_number kind.Stated = 1
kind_number kind.Task = 2
kind_number kind.End = 3
kind_number kind.Asked = 4
kind_number kind.Late = 5
kind_number kind.Pair = 6

-- what a number is read as: the kind that has it, or a refusal where no row is listed for it
abbrev pub Numbers : ℕ → Result Kind Refusal → Type 0
Numbers n r = MatchResult r (λ kind. kind_number kind ≡ n) (λ e. (e ≡ refusal.Kind) × (row_of n ≡ no_row))
