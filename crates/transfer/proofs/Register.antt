-- A sheet that begins with valid components in rising number, up to a record that ends them, is walked to that record: its edges lie between the components' bytes, and its register is theirs.
use Prim.Native.Nat.{ℕ, suc, ◌+◌, ◌-◌, ◌≤◌, ◌<◌}
use mathlib.Core.Path.{◌≡◌, refl, sym, ap, ap₂, ◌∙◌}
use mathlib.Core.List.{List, [], ◌∷◌, ◌++◌}
use native.Mathlib.Nat.{add-zero, zero-add, suc-add, add-suc}
use native.Mathlib.Omega.{arith}
use lib.ListN.{length, get_or, drop}
use lib.Seq.{drop_at}
use borrow.Author.Tests.{le-ltb}
use Rattle.budget.specs.declared.component.Component.{Component}
use Rattle.budget.specs.Component.{refused}
use Rattle.budget.specs.Task.{tasks_of}
use Rattle.record.specs.Layout.{record_of}
use Rattle.sheet.specs.Judging.{State}
use Rattle.sheet.specs.Judging.{most_bytes, start, refuse, ended, opened}
use Rattle.sheet.specs.Register.{Entry, walked, held_of, entry_of, entries_from, register_of}
use Rattle.sheet.specs.Contents.{edge_of}
use Rattle.transfer.specs.RoundTrip.{components_bytes, Rising, entries_of}
use Rattle.transfer.proofs.Accepts.{on, Stops, before, standing, Accepted, components_accepted, standing_place, standing_count, standing_on, before_all_lem}

-- components, and then bytes that begin with a record that ends them
pub record Fronted (s : List ℕ) (cs : List Component) (tail : List ℕ) : Type 0 where
  pub bytes : s ≡ components_bytes cs ++ tail
  pub rising : Rising 0 cs
  pub few : length cs ≤ 256
  pub short : length s ≤ most_bytes
  pub stops : Stops (record_of tail)

-- what a component is registered as
abbrev entry : Component → Entry
entry c = record { number = c.number; tasks = length (tasks_of c.table) }

entries_are : (s : List ℕ) (cs : List Component) (k : ℕ) → ((j : ℕ) → j < length cs → entry_of s (k + j) ≡ entry (get_or cs j refused)) → entries_from s (length cs) k ≡ entries_of cs
unfolding entries_from entries_of
entries_are s [] k h = refl
entries_are s (c ∷ cs) k h =
    ap₂ ◌∷◌ (ap (entry_of s) (sym (add-zero k)) ∙ h 0 (omega arith))
    (entries_are s cs (suc k) (λ j l. ap (entry_of s) (suc-add k j ∙ sym (add-suc k j)) ∙ h (suc j) (omega arith)))

module _ (s : List ℕ) (cs : List Component) (tail : List ℕ) (w : Fronted s cs tail) where
  begins : opened (length s) ≡ on 0 0 0 0
  unfolding opened start
  begins = rw (le-ltb most_bytes (length s) w.short)

  accepts : Accepted s cs 0 0 0 0
  accepts = components_accepted s cs 0 0 0 0 tail (omega arith) w.rising (omega (arith, w.few)) w.bytes w.stops

  walked_is : walked s ≡ ended (standing (length cs) cs 0 0 0 0)
  unfolding walked
  walked_is = rw begins (accepts.ends (suc (length s)) (omega arith))

  held_is : (k : ℕ) → k ≤ length cs → ended (held_of s k) ≡ ended (standing k cs 0 0 0 0)
  unfolding held_of
  held_is k h = let z : 0 + k ≡ k = zero-add k in rw begins (rw z at (accepts.holds k h (suc (length s)) (omega arith)))

  pub unrefused : (walked s).refusal ≡ 0
  unfolding ended refuse
  unrefused = ap (λ (x : State). x.refusal) walked_is

  pub count_is : (walked s).count ≡ length cs
  unfolding ended refuse
  count_is = ap (λ (x : State). x.count) walked_is ∙ (standing_count (length cs) cs 0 0 0 0 (omega arith) ∙ zero-add (length cs))

  pub edge_is : (k : ℕ) → k ≤ length cs → edge_of s k ≡ before k cs
  unfolding edge_of ended refuse
  edge_is k h = ap (λ (x : State). x.place) (held_is k h) ∙ (standing_place k cs 0 0 0 0 ∙ zero-add (before k cs))

  place_is : (walked s).place ≡ length (components_bytes cs)
  unfolding ended refuse
  place_is = ap (λ (x : State). x.place) walked_is ∙ (standing_place (length cs) cs 0 0 0 0 ∙ (zero-add (before (length cs) cs) ∙ before_all_lem cs))

  pub tail_is : drop (walked s).place s ≡ tail
  tail_is = ap₂ (λ (n : ℕ) (l : List ℕ). drop n l) place_is w.bytes ∙ drop_at (components_bytes cs) tail (length (components_bytes cs)) refl

  entry_is : (k : ℕ) → k < length cs → entry_of s k ≡ entry (get_or cs k refused)
  unfolding entry_of ended refuse
  entry_is k h =
      let st = held_is (suc k) (omega arith) in
      let is = standing_on k cs 0 0 0 0 h in
      let n : (held_of s (suc k)).lowest - 1 ≡ (get_or cs k refused).number = ap (λ (x : State). x.lowest - 1) st ∙ omega (arith, is.0) in
      let t : (held_of s (suc k)).tasks ≡ length (tasks_of (get_or cs k refused).table) = ap (λ (x : State). x.tasks) st ∙ is.1 in
      ap₂ (λ (a b : ℕ). record { number = a; tasks = b }) n t

  pub register_is : register_of s ≡ entries_of cs
  unfolding register_of
  register_is =
      ap (λ (n : ℕ). entries_from s n 0) count_is
      ∙ entries_are s cs 0 (λ j h. ap (entry_of s) (zero-add j) ∙ entry_is j h)
