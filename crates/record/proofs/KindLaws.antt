-- The kinds of a sheet, one by one: what holds of each listed kind, and of any that isn't listed, holds of every number; the rows are narrow.
use Prim.Native.Nat.{ℕ, zero, suc}
use mathlib.Core.Path.{◌≡◌, refl, sym, subst}
use mathlib.Core.Bool.{true, false}
use mathlib.Core.List.{List, [], ◌∷◌}
use native.Mathlib.Omega.{arith}
use lib.Dec.{leb, eqb}
use borrow.Author.Tests.{leb-true, eqb-true}
use Rattle.budget.specs.Refusal as refusal
use Rattle.budget.proofs.Valid.{both}
use Rattle.record.specs.Record.{NoRecord}
use Rattle.record.specs.Layout.{no_row, row_of, record_with}
use Rattle.record.specs.Row.{row_length}
use Rattle.record.specs.declared.kind.Kind.{Kind}
use Rattle.record.specs.declared.kind.Kind.TheVariants as kind
use Rattle.record.specs.inner.Kinds.{kind_number}
use Rattle.record.specs.inner.Narrow.{Narrow, narrowly}
use Rattle.record.proofs.Cases.{either}

-- a kind that isn't listed: it has no fields, and no values make it a record
pub record Unlisted (k : ℕ) : Type 0 where
  pub row : row_of k ≡ no_row
  pub reads : (vs : List ℕ) → record_with k vs ≡ NoRecord refusal.kind

pub by_kind : (P : ℕ → Type 0) → P 1 → P 2 → P 3 → P 4 → P 5 → P 6 → ((k : ℕ) → Unlisted k → P k) → (k : ℕ) → P k
unfolding row_of record_with
by_kind P stated task end asked late pair other k =
    either (eqb k 1) (λ p. subst P (sym (eqb-true k 1 p)) stated)
    (λ a. either (eqb k 2) (λ p. subst P (sym (eqb-true k 2 p)) task)
    (λ b. either (eqb k 3) (λ p. subst P (sym (eqb-true k 3 p)) end)
    (λ c. either (eqb k 4) (λ p. subst P (sym (eqb-true k 4 p)) asked)
    (λ d. either (eqb k 5) (λ p. subst P (sym (eqb-true k 5 p)) late)
    (λ e. either (eqb k 6) (λ p. subst P (sym (eqb-true k 6 p)) pair)
    (λ f. other k (record { row = rw (a, b, c, d, e, f); reads = λ vs. rw (a, b, c, d, e, f) })))))))

-- no width of a row that the test takes is above 4
pub narrow : (ws : List ℕ) → narrowly ws ≡ true → Narrow ws
narrow [] e i = omega arith
narrow (w ∷ ws) e zero = leb-true w 4 (both (leb w 4) (narrowly ws) e).0
narrow (w ∷ ws) e (suc i) = narrow ws (both (leb w 4) (narrowly ws) e).1 i

-- each kind of the code has a row
pub listed : (k : Kind) → eqb (row_length (row_of (kind_number k))) 0 ≡ false
unfolding row_of
listed kind.Stated = refl
listed kind.Task = refl
listed kind.End = refl
listed kind.Asked = refl
listed kind.Late = refl
listed kind.Pair = refl
