-- Pairs and their bytes, both by the laws of one record: bytes of pairs that the rules take are read as these pairs, and pairs that are read up to the end record are their own bytes.
use Prim.Native.Nat.{ℕ, zero, suc, ◌+◌, ◌*◌, ◌≤◌, ◌<◌}
use mathlib.Core.Path.{◌≡◌, refl, sym, ap, ◌∙◌}
use mathlib.Core.Bool.{true, false≢true}
use mathlib.Core.List.{List, [], ◌∷◌, ◌++◌, append_assoc, append-nil}
use native.Mathlib.Nat.{le_of_eq}
use native.Mathlib.Omega.{arith}
use lib.ListN.{length, drop, length-append, length-drop, drop_of_length-le}
use lib.Seq.{drop-drop, get_or-drop}
use lib.Dec.{eqb}
use borrow.Author.Tests.{eqb-true}
use Rattle.budget.specs.declared.component.Component.{Component}
use Rattle.record.specs.declared.layout.Pair.{Pair}
use Rattle.record.specs.Record.{Record, PairRecord, EndRecord}
use Rattle.record.specs.Field.{Bytes}
use Rattle.record.specs.Layout.{pair_bytes, end_bytes, size_of, record_of}
use Rattle.record.proofs.Cases.{either}
use Rattle.record.proofs.RoundRecord.{Faithful, faithful, pair_back, end_back}
use Rattle.sheet.specs.Register.{Entry}
use Rattle.sheet.specs.Pairs.{registered, Nested}
use Rattle.sheet.proofs.PairLaws.{pair_taken, Stand, Closed}
use Rattle.transfer.specs.Pairing.{pair_then, pairs_in}
use Rattle.transfer.specs.RoundTrip.{pairs_bytes, Rising, entries_of}
use Rattle.transfer.proofs.Accepts.{behind}
use Rattle.transfer.proofs.StoreLaws.{pair_length, end_length}

pub pairs_length : (ps : List Pair) → length (pairs_bytes ps) ≡ 8 * length ps
unfolding pairs_bytes
pairs_length [] = refl
pairs_length (p ∷ ps) = length-append (pair_bytes p) (pairs_bytes ps) ∙ rw (pair_length, pairs_length ps) (omega arith)

-- the number of a component is one of 2 bytes
pub small_numbers : (cs : List Component) (l : ℕ) → Rising l cs → (n : ℕ) → registered (entries_of cs) n ≡ true → n < 65_536
unfolding registered entries_of
small_numbers [] l r n e = absurd (false≢true e)
small_numbers (c ∷ cs) l r n e =
    either (eqb c.number n) (λ p. rw (eqb-true c.number n p) at r.1.number)
    (λ p. small_numbers cs (c.number + 1) r.2 n (rw p at e))

-- ---- bytes of pairs, and of the end record, are read as they are

module _ (s : List ℕ) (es : List Entry) where
  pub pairs_stand : ((n : ℕ) → registered es n ≡ true → n < 65_536) → (earlier ps : List Pair) → Nested es earlier ps → (p : ℕ) (tail : List ℕ) → drop p s ≡ pairs_bytes ps ++ tail → Stand s p ps
  unfolding pairs_bytes
  pairs_stand small earlier [] t p tail e = tt
  pairs_stand small earlier (x ∷ ps) t p tail e =
      let w = pair_taken es earlier x t.0 in
      let rest : List ℕ = pairs_bytes ps ++ tail in
      let f : drop p s ≡ pair_bytes x ++ rest = e ∙ append_assoc (pair_bytes x) (pairs_bytes ps) tail in (
        ap record_of f ∙ pair_back rest x (small x.child w.child) (small x.parent w.parent),
        pairs_stand small (earlier ++ (x ∷ [])) ps t.1 (p + 8) tail (rw (pair_length x) at (behind s p (pair_bytes x) rest f)),
      )

  pub end_closed : (p : ℕ) → length es ≤ 256 → drop p s ≡ end_bytes (length es) → Closed es s p
  end_closed p few e =
      record {
        reads = ap record_of (e ∙ sym (append-nil (end_bytes (length es)))) ∙ end_back [] (length es) (omega arith);
        last = sym (length-drop p s) ∙ (ap length e ∙ end_length (length es));
      }

-- ---- pairs that are read are their own bytes, and so is the end record behind them

module _ (s : List ℕ) (bytes : Bytes s) where
  bytes_from : (p : ℕ) → Bytes (drop p s)
  bytes_from p i = rw get_or-drop (bytes (p + i))

  read_here : (p : ℕ) (r : Record) → record_of (drop p s) ≡ r → Faithful (drop p s) r
  read_here p r e = rw e at (faithful (drop p s) (bytes_from p))

  pub standing_bytes : (ps : List Pair) (p : ℕ) → Stand s p ps → drop p s ≡ pairs_bytes ps ++ drop (p + 8 * length ps) s
  unfolding pairs_bytes
  standing_bytes [] p t = let z : p + 0 ≡ p = omega arith in rw z
  standing_bytes (x ∷ ps) p t =
      let n : p + 8 + 8 * length ps ≡ p + 8 * suc (length ps) = omega arith in
      let e : drop (p + 8) s ≡ pairs_bytes ps ++ drop (p + 8 * suc (length ps)) s = rw n at (standing_bytes ps (p + 8) t.1) in
      (read_here p (PairRecord x) t.0).1.1
      ∙ (ap (λ (l : List ℕ). pair_bytes x ++ l) (drop-drop 8 p s ∙ e) ∙ sym (append_assoc (pair_bytes x) (pairs_bytes ps) (drop (p + 8 * suc (length ps)) s)))

  pub closed_bytes : (es : List Entry) (p : ℕ) → Closed es s p → drop p s ≡ end_bytes (length es)
  closed_bytes es p c =
      let six : length (drop p s) ≤ 6 = le_of_eq (length-drop p s ∙ c.last) in
      let over : drop 6 (drop p s) ≡ [] = drop_of_length-le (drop p s) {i = 6} six in
      read_here p (EndRecord (length es)) c.reads ∙ (ap (λ (l : List ℕ). end_bytes (length es) ++ l) over ∙ append-nil (end_bytes (length es)))

-- ---- what reading finds where pairs stand up to the end record

pub pairs_found : (s : List ℕ) (es : List Entry) (n : ℕ) (ps : List Pair) (p : ℕ) → length ps ≤ n → Stand s p ps → Closed es s (p + 8 * length ps) → pairs_in n (drop p s) ≡ ps
unfolding pairs_in pair_then size_of
pairs_found s es zero [] p h t c = refl
pairs_found s es zero (x ∷ ps) p h t c = absurd (omega arith)
pairs_found s es (suc n) [] p h t c =
    let z : p + 0 ≡ p = omega arith in
    let e : record_of (drop p s) ≡ EndRecord (length es) = rw z at c.reads in
    rw e
pairs_found s es (suc n) (x ∷ ps) p h t c =
    let z : p + 8 + 8 * length ps ≡ p + 8 * suc (length ps) = omega arith in
    rw (t.0, drop-drop 8 p s) (ap (λ (l : List Pair). x ∷ l) (pairs_found s es n ps (p + 8) (omega arith) t.1 (rw z c)))
