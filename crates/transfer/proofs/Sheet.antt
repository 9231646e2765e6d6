-- What an accepted sheet is: the bytes of valid components in rising number and of pairs that the rules take, which are those that reading gives. All that is said of a sheet's components and pairs follows from these.
use Prim.Native.Nat.{ℕ, zero, suc, ◌+◌, ◌*◌, ◌≤◌, ◌<◌}
use mathlib.Core.Path.{◌≡◌, refl, sym, ap, subst, ◌∙◌}
use mathlib.Core.List.{List, [], ◌∷◌, ◌++◌, map}
use native.Mathlib.Omega.{arith}
use lib.ListN.{length, get_or, drop, get_or-eq_default}
use lib.Dec.{ltb}
use borrow.Author.Tests.{le-ltb, ltb-true, ltb-false}
use Rattle.budget.specs.declared.component.Component.{Component}
use Rattle.budget.specs.declared.task.Task.{Task}
use Rattle.budget.specs.Component.{refused}
use Rattle.record.specs.declared.layout.Pair.{Pair}
use Rattle.record.specs.Field.{Bytes}
use Rattle.record.specs.Layout.{end_bytes}
use Rattle.record.proofs.Cases.{either}
use Rattle.sheet.specs.Check.{Checked}
use Rattle.sheet.specs.Check.{most_bytes, check, pairs_of}
use Rattle.sheet.specs.Pairs.{Nested, paired}
use Rattle.sheet.specs.Part.{chosen, part_check}
use Rattle.sheet.specs.Register.{Entry, walked, register_of}
use Rattle.sheet.proofs.ContentsLaws.{taken}
use Rattle.sheet.proofs.HeldLaws.{unrefused_short}
use Rattle.transfer.specs.Reading.{Reading}
use Rattle.transfer.specs.Reading.{reading}
use Rattle.transfer.specs.RoundTrip.{components_bytes, pairs_bytes, sheet_bytes, returned, entries_of}
use Rattle.transfer.specs.Writing.{tasks_bytes}
use Rattle.transfer.proofs.PairBytes.{standing_bytes, closed_bytes}
use Rattle.transfer.proofs.PairsBehind.{walked_pairs, accepted_pairs}
use Rattle.transfer.proofs.ReadsBack.{Fitting, entries_long, sheet_accepted, reading_back}
use Rattle.transfer.proofs.Register.{Fronted, tail_is, register_is}
use Rattle.transfer.proofs.Shape.{Shape, accepted_shape}

pub record Sheet (s : List ℕ) : Type 0 where
  pub cs : List Component
  pub ps : List Pair
  pub bytes : s ≡ sheet_bytes cs ps
  pub fits : Fitting cs ps
  pub same : map returned cs ≡ cs
  pub count : (check s).count ≡ length cs
  pub pairs : pairs_of s ≡ ps
  pub reads : (k : ℕ) → (reading s k).component ≡ get_or cs k refused

-- a component as it is returned, at each place
pub returned_at : (cs : List Component) → map returned cs ≡ cs → (k : ℕ) → k < length cs → returned (get_or cs k refused) ≡ get_or cs k refused
returned_at [] e k h = absurd (omega arith)
returned_at (c ∷ cs) e zero h = ap (λ (x : List Component). get_or x 0 refused) e
returned_at (c ∷ cs) e (suc k) h = returned_at cs (ap (drop 1) e) k (omega arith)

-- no component stands past the last
past : (s : List ℕ) (k : ℕ) → (check s).refusal ≡ 0 → (check s).count ≤ k → (reading s k).component ≡ refused
unfolding reading part_check chosen
past s k e h = rw (e, le-ltb k (check s).count h)

reading_is : (cs : List Component) (ps : List Pair) → Fitting cs ps → map returned cs ≡ cs → (k : ℕ) → (reading (sheet_bytes cs ps) k).component ≡ get_or cs k refused
reading_is cs ps v same k =
    let c = sheet_accepted cs ps v in
    either (ltb k (length cs))
    (λ p. let h = ltb-true k (length cs) p in ap (λ (x : Reading). x.component) (reading_back cs ps v k h) ∙ returned_at cs same k h)
    (λ p. let h = ltb-false k (length cs) p in
    past (sheet_bytes cs ps) k (ap (λ (x : Checked). x.refusal) c) (omega (arith, ap (λ (x : Checked). x.count) c))
    ∙ sym (get_or-eq_default cs refused {n = k} h))

module _ (s : List ℕ) (bytes : Bytes s) (accepted : (check s).refusal ≡ 0) where
  shape : Shape s 0 0 0 0
  shape = accepted_shape s bytes (taken s accepted).unrefused

  short : length s ≤ most_bytes
  short = unrefused_short s (taken s accepted).unrefused

  front : Fronted s shape.cs shape.tail
  unfolding tasks_bytes
  front =
      record {
        bytes = shape.bytes ∙ ap (λ (ks : List Task). tasks_bytes ks ++ (components_bytes shape.cs ++ shape.tail)) (shape.none refl);
        rising = shape.rising;
        few = omega (arith, shape.most);
        short = short;
        stops = shape.stops;
      }

  entries : register_of s ≡ entries_of shape.cs
  entries = register_is s shape.cs shape.tail front

  -- behind the components stand the pairs that were taken, and the end record
  tail_bytes : shape.tail ≡ pairs_bytes (paired s).pairs ++ end_bytes (length shape.cs)
  tail_bytes =
      let w = walked_pairs s in
      let n : length (register_of s) ≡ length shape.cs = ap length entries ∙ entries_long shape.cs in
      let end : drop ((walked s).place + 8 * length (paired s).pairs) s ≡ end_bytes (length (register_of s)) =
      closed_bytes s bytes (register_of s) ((walked s).place + 8 * length (paired s).pairs) (rw w.place at (w.closed (taken s accepted).pairs)) in
      sym (tail_is s shape.cs shape.tail front)
      ∙ (standing_bytes s bytes (paired s).pairs (walked s).place w.stand
      ∙ ap (λ (l : List ℕ). pairs_bytes (paired s).pairs ++ l) (end ∙ ap end_bytes n))

  is_sheet : s ≡ sheet_bytes shape.cs (paired s).pairs
  unfolding sheet_bytes
  is_sheet = front.bytes ∙ ap (λ (l : List ℕ). components_bytes shape.cs ++ l) tail_bytes

  fitting : Fitting shape.cs (paired s).pairs
  fitting =
      record {
        rising = shape.rising;
        nested = subst (λ (es : List Entry). Nested es [] (paired s).pairs) entries (walked_pairs s).nested;
        few = front.few;
        short = subst (λ (l : List ℕ). length l ≤ most_bytes) is_sheet short;
      }

  pub accepted_sheet : Sheet s
  accepted_sheet =
      record {
        cs = shape.cs;
        ps = (paired s).pairs;
        bytes = is_sheet;
        fits = fitting;
        same = shape.same;
        count = ap (λ (l : List ℕ). (check l).count) is_sheet ∙ ap (λ (x : Checked). x.count) (sheet_accepted shape.cs (paired s).pairs fitting);
        pairs = accepted_pairs s accepted;
        reads = λ k. ap (λ (l : List ℕ). (reading l k).component) is_sheet ∙ reading_is shape.cs (paired s).pairs fitting shape.same k;
      }
