-- What reading a pair answers, from a sheet's contents and the pairs read behind its last edge: these are the sheet's pairs, each at its place.
use Prim.Native.Nat.{ℕ, ◌-◌, ◌≤◌, ◌<◌}
use mathlib.Core.Path.{◌≡◌, refl, sym, ap, ◌∙◌}
use mathlib.Core.List.{List}
use native.Mathlib.Omega.{arith}
use lib.ListN.{length, get_or, take, drop}
use lib.Seq.{take_at}
use borrow.Author.Tests.{lt-ltb, le-ltb, ne_eqb}
use Rattle.record.specs.declared.layout.Pair.{Pair}
use Rattle.sheet.specs.Check.{Checked}
use Rattle.sheet.specs.Contents.{Contents}
use Rattle.sheet.specs.Check.{check, pairs_of}
use Rattle.sheet.specs.Contents.{edge_of, contents_of}
use Rattle.sheet.proofs.ContentsLaws.{taken, edges_are, edges_within}
use Rattle.sheet.proofs.WalkLaws.{rest_is}
use Rattle.transfer.specs.Pairing.{PairReading}
use Rattle.transfer.specs.declared.pair.Pairs.{Pairs}
use Rattle.transfer.specs.Pairing.{no_pair, pairs_in, pair_table, pair_reading}
use Rattle.transfer.proofs.PairsBehind.{few_pairs, pairs_stand_behind}

module _ (s : List ℕ) (found : Contents) (e : found ≡ contents_of s) where
  checked_is : found.checked ≡ check s
  unfolding contents_of
  checked_is = ap (λ (x : Contents). x.checked) e

  pub pair_refused : (found.checked.refusal ≡ 0 → ⊥) → (k : ℕ) → ◌≡◌ {A = PairReading} (record { refusal = found.checked.refusal; place = found.checked.place; pair = no_pair }) (pair_reading s k)
  unfolding pair_reading
  pair_refused h k = rw (← checked_is, ne_eqb found.checked.refusal 0 h)

  -- where nothing is refused, the pairs begin at the last edge
  module _ (z : found.checked.refusal ≡ 0) where
    abbrev from : ℕ
    from = get_or found.edges found.checked.count 0

    accepted : (check s).refusal ≡ 0
    accepted = ap (λ (x : Checked). x.refusal) (sym checked_is) ∙ z

    pub count_few : found.checked.count ≤ 256
    count_few = rw checked_is (taken s accepted).few

    pub from_within : from ≤ length s
    from_within = rw (checked_is, e) (edges_within s accepted (check s).count (omega arith))

    from_is : from ≡ edge_of s (check s).count
    from_is = rw (checked_is, e) (edges_are s accepted (check s).count (omega arith))

    module _ (read : Pairs) (r : read ≡ pair_table (pairs_in 256 (take (length s - from) (drop from s)))) where
      pub table_is : read ≡ pair_table (pairs_of s)
      table_is =
          r
          ∙ ap pair_table
          (ap (pairs_in 256) (rest_is s from) ∙ (ap (λ (n : ℕ). pairs_in 256 (drop n s)) from_is ∙ pairs_stand_behind s accepted))

      count_is : read.count ≡ length (pairs_of s)
      unfolding pair_table
      count_is = ap (λ (x : Pairs). x.count) table_is

      -- the first places are the pairs
      pub slice_is : take read.count read.pairs ≡ pairs_of s
      unfolding pair_table
      slice_is = ap (λ (x : Pairs). take x.count x.pairs) table_is ∙ take_at (pairs_of s) _ (length (pairs_of s)) refl

      pub slice_few : length (take read.count read.pairs) ≤ 256
      slice_few = rw slice_is (few_pairs s accepted)

      pub pair_missing : (k : ℕ) → length (take read.count read.pairs) ≤ k → ◌≡◌ {A = PairReading} (record { refusal = 15; place = 0; pair = no_pair }) (pair_reading s k)
      unfolding pair_reading
      pair_missing k h = rw (accepted, le-ltb k (length (pairs_of s)) (rw slice_is at h))

      pub pair_found : (k : ℕ) (p : Pair) → k < length (take read.count read.pairs) → p ≡ get_or (take read.count read.pairs) k no_pair
          → ◌≡◌ {A = PairReading} (record { refusal = 0; place = 0; pair = p }) (pair_reading s k)
      unfolding pair_reading
      pair_found k p h e = rw (accepted, lt-ltb k (length (pairs_of s)) (rw slice_is at h)) (ap (λ (x : Pair). record { refusal = 0; place = 0; pair = x }) (rw slice_is at e))
