-- One pass over the components of a taken sheet, in their order: a row holds the offers of those that are passed, so the next is judged by the row as
-- in its tree, and its own offer is noted behind them.
use Prim.Native.Nat.{ℕ, ◌+◌, ◌-◌, ◌≤◌, ◌<◌}
use native.Mathlib.Numerals.{add-one}
use native.Mathlib.Omega.{arith}
use mathlib.Core.Path.{◌≡◌, refl, sym, ap, ap₂, ◌∙◌}
use mathlib.Core.List.{List, [], ◌∷◌, ◌++◌}
use lib.ListN.{length, get_or, take, drop}
use Rattle.budget.specs.declared.component.Component.{Component}
use Rattle.budget.specs.Refusal as refusal
use Rattle.record.specs.declared.layout.Pair.{Pair}
use Rattle.sheet.specs.Check.{Checked}
use Rattle.sheet.specs.Contents.{Contents}
use Rattle.sheet.specs.Check.{check, pairs_of}
use Rattle.sheet.specs.Contents.{contents_of, edge_of}
use Rattle.sheet.proofs.ContentsLaws.{taken, edges_are, edges_within}
use Rattle.sheet.proofs.HeldLaws.{unrefused_short}
use Rattle.transfer.specs.declared.pair.Pairs.{Pairs}
use Rattle.transfer.specs.Pairing.{pair_table, pairs_in}
use Rattle.transfer.specs.ReadAt.{read_at}
use Rattle.transfer.specs.Reading.{reading}
use Rattle.transfer.proofs.PairReads.{slice_is}
use Rattle.transfer.proofs.ReadAt.{read_at_reads}
use Rattle.tree.specs.numbers.Turn.{Turn}
use Rattle.tree.specs.declared.offer.Offer as code
use Rattle.tree.specs.Offer.{offer_of, row_in}
use Rattle.tree.specs.Tree.{load_at, offers_to, outcome_at}
use Rattle.tree.specs.inner.Known.{Known}
use Rattle.tree.specs.Turned.{Turned}
use Rattle.tree.proofs.OfferLaws.{Row, row_length, row_none, row_more}

pub checked_is : (s : List ℕ) (x : Contents) → x ≡ contents_of s → x.checked ≡ check s
unfolding contents_of
checked_is s x e = ap (λ (y : Contents). y.checked) e

pub known : (s : List ℕ) (x : Contents) → x ≡ contents_of s → x.checked.refusal ≡ refusal.none → Known s x.edges x.checked.count
known s x e h =
    let same = checked_is s x e in
    record { taken = sym (ap (λ (d : Checked). d.refusal) same) ∙ h; edges = ap (λ (y : Contents). y.edges) e; count = ap (λ (d : Checked). d.count) same }

-- where the pass stands: the first k components are passed, the pairs are the sheet's, and a row has the offers of those that are passed
pub record Passing (s : List ℕ) (count : ℕ) (pairs : List Pair) (k : ℕ) (row : List code.Offer) : Type 0 where
  pub within : k ≤ count
  pub few : count ≤ 256
  pub paired : pairs ≡ pairs_of s
  pub offers : Row (row_in row) k (offers_to s k)

-- the row has a place for each component
pub passing_room : {s : List ℕ} {count : ℕ} {pairs : List Pair} {k : ℕ} {row : List code.Offer} → Passing s count pairs k row → k < count → k < length row
passing_room {row = row} p h = omega (arith, p.few, p.offers.places, row_length row)

module _ {s edges : List ℕ} {count : ℕ} (w : Known s edges count) where
  pub known_few : count ≤ 256
  known_few = omega (arith, w.count, (taken s w.taken).few)

  -- the edges lie in the sheet; behind the last the pairs begin
  pub known_edge : (k : ℕ) → k ≤ count → get_or edges k 0 ≡ edge_of s k
  known_edge k h = ap (λ (xs : List ℕ). get_or xs k 0) w.edges ∙ edges_are s w.taken k (omega (arith, w.count))

  pub known_within : (k : ℕ) → k ≤ count → get_or edges k 0 ≤ length s
  known_within k h = rw w.edges (edges_within s w.taken k (omega (arith, w.count)))

  pub known_small : (k : ℕ) → k ≤ count → get_or edges k 0 < 4_294_967_296
  known_small k h = omega (arith, known_within k h, unrefused_short s (taken s w.taken).unrefused)

  -- nothing is passed, and the pairs are read
  pub passing_none : (x : Pairs) → x ≡ pair_table (pairs_in 256 (take (length s - get_or edges count 0) (drop (get_or edges count 0) s)))
      → {row : List code.Offer} → length row ≡ 256 → Passing s count (take x.count x.pairs) 0 row
  unfolding contents_of offers_to
  passing_none x e {row} places =
      let at : get_or edges count 0 ≡ get_or (contents_of s).edges (check s).count 0 = ap₂ (λ (xs : List ℕ) (n : ℕ). get_or xs n 0) w.edges w.count in
      record {
        within = omega arith;
        few = known_few;
        paired = slice_is s (contents_of s) refl w.taken x (e ∙ ap (λ (n : ℕ). pair_table (pairs_in 256 (take (length s - n) (drop n s)))) at);
        offers = row_none _ (omega (arith, row_length row));
      }

  -- a turn of the pass, where the first k are passed
  module _ {pairs : List Pair} {k : ℕ} {row : List code.Offer} (p : Passing s count pairs k row) (h : k < count)
      {t : Turn} (after : List code.Offer) (turned : k < length row → Turned (read_at s edges k) pairs k (row_in row) (row_in after) t) where
    turn : Turned (read_at s edges k) pairs k (row_in row) (row_in after) t
    turn = turned (passing_room p h)

    -- what is read between two edges is the component at that place
    is : read_at s edges k ≡ (reading s k).component
    is = ap (λ (xs : List ℕ). read_at s xs k) w.edges ∙ read_at_reads s w.taken k (omega (arith, w.count))

    pub turn_number : t.number ≡ (reading s k).component.number
    turn_number = turn.number ∙ ap (λ (c : Component). c.number) is

    -- judged by the row, it is judged in its tree
    pub turn_outcome : t.outcome ≡ outcome_at s k
    unfolding outcome_at load_at
    turn_outcome = turn.outcome ∙ rw (p.paired, p.offers.held, is)

    -- and its offer is the next of the row
    pub turn_more : Passing s count pairs (k + 1) after
    unfolding offers_to outcome_at load_at
    turn_more =
        let next : offers_to s (k + 1) ≡ offers_to s k ++ (offer_of (read_at s edges k) t.outcome ∷ []) = rw (add-one, is, turn_outcome) in
        record {
          within = omega arith;
          few = p.few;
          paired = p.paired;
          offers = rw next (row_more p.offers (omega (arith, p.few)) _ turn.row);
        }
