-- A line put into a page: its bytes are copied behind what the page holds.
use Prim.Native.Nat.{ℕ, ◌+◌, ◌≤◌}
use native.Mathlib.Numerals.{add-one}
use native.Mathlib.Omega.{arith}
use mathlib.Core.Path.{◌≡◌, refl, sym, ap, ◌∙◌}
use mathlib.Core.List.{List, ◌++◌}
use lib.ListN.{length, length-append}
use borrow.Author.Tests.{eq-eqb, ne_eqb}
use lib.Seq.{sets}
use Rattle.budget.specs.Refusal as refusal
use Rattle.sheet.specs.Check.{Checked}
use Rattle.sheet.specs.Check.{check}
use Rattle.transfer.specs.Reading.{reading}
use Rattle.record.proofs.StoreLaws.{sets_append}
use Rattle.tree.specs.numbers.Outcome.{Outcome}
use Rattle.tree.specs.Tree.{outcome_at}
use Rattle.report.specs.Lines.{component_line, end_line, refused_line}
use Rattle.report.specs.Listing.{Listed, component_lines, listing_of}
use Rattle.report.specs.inner.Paged.{Lines, Paged}

-- bytes put behind those at the front of a page are put there together
behind : (page lines : List ℕ) {now line after : List ℕ} {at r : ℕ} → at ≡ length lines → now ≡ sets page 0 lines → Paged now at line after r → after ≡ sets page 0 (lines ++ line)
behind page lines {now} {line} {after} {at} e n p =
    p.page
    ∙ (ap (λ (m : ℕ). sets now m line) (omega arith)
    ∙ (ap (λ (xs : List ℕ). sets xs (0 + length lines) line) n ∙ sym (sets_append page 0 lines line)))

pub no_lines : (s page : List ℕ) → Lines s page 0 page 0
unfolding component_lines
no_lines s page = record { place = refl; bytes = refl; room = omega arith }

pub one_more_line : (s page : List ℕ) (k : ℕ) {now after : List ℕ} {at r number : ℕ} {o : Outcome} → number ≡ (reading s k).component.number → o ≡ outcome_at s k
    → Lines s page k now at → Paged now at (component_line number o) after r → Lines s page (k + 1) after r
unfolding component_lines
one_more_line s page k {now} {after} {at} {r} {number} {o} is judged l p =
    let lines = component_lines s k in
    let line = component_line number o in
    let next : component_lines s (k + 1) ≡ lines ++ line = rw (add-one, ← is, ← judged) in
    record {
      place = omega (arith, p.place, l.place, ap length next, length-append lines line);
      bytes = behind page lines l.place l.bytes p ∙ ap (λ (xs : List ℕ). sets page 0 xs) (sym next);
      room = omega (arith, p.place, p.short, l.room);
    }

module _ (s page : List ℕ) (d : Checked) (is : d ≡ check s) where
  pub refused_listing : (d.refusal ≡ refusal.none → ⊥) → {after : List ℕ} {r : ℕ} → Paged page 0 (refused_line d.refusal d.place) after r
      → Listed s page after r
  unfolding listing_of
  refused_listing h {after} {r} p =
      let whole : listing_of s ≡ refused_line d.refusal d.place = rw (← is, ne_eqb _ _ h) in
      record {
        answer = omega (arith, p.place, ap length whole);
        bytes = p.page ∙ ap (λ (xs : List ℕ). sets page 0 xs) (sym whole);
        room = omega (arith, p.place, p.short);
      }

  pub taken_listing : d.refusal ≡ refusal.none → d.count ≤ 256 → {now after : List ℕ} {at r : ℕ} → Lines s page d.count now at
      → Paged now at (end_line d.count) after r → Listed s page after r
  unfolding listing_of
  taken_listing h few {now} {after} {at} {r} l p =
      let lines = component_lines s d.count in
      let line = end_line d.count in
      let whole : listing_of s ≡ lines ++ line = rw (← is, eq-eqb _ _ h) in
      record {
        answer = omega (arith, p.place, l.place, ap length whole, length-append lines line);
        bytes = behind page lines l.place l.bytes p ∙ ap (λ (xs : List ℕ). sets page 0 xs) (sym whole);
        room = omega (arith, p.place, p.short, l.room);
      }
