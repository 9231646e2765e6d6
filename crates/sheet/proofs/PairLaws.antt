-- Laws of the walk over a sheet's pairs: a step goes on only by taking a pair that the rules allow, so the bytes left bound the steps; without
-- refusal the walk ends at the right end record, behind the pairs as they stand in the bytes.
use Prim.Native.Nat.{ℕ, zero, suc, ◌+◌, ◌-◌, ◌*◌, ◌≤◌, ◌<◌}
use mathlib.Core.Path.{◌≡◌, refl, sym, ap, ◌∙◌}
use mathlib.Core.Bool.{true, false, false≢true}
use mathlib.Core.List.{List, [], ◌∷◌, ◌++◌, append_assoc, append-nil}
use native.Mathlib.Omega.{arith}
use lib.ListN.{length, drop}
use lib.Dec.{leb, ltb, eqb}
use borrow.Author.Tests.{leb-false, ltb-true, eqb-true, eq-eqb}
use Rattle.budget.proofs.Valid.{both}
use Rattle.record.specs.declared.layout.Pair.{Pair}
use Rattle.record.specs.Record.{Record, ComponentRecord, TaskRecord, PairRecord, EndRecord, NoRecord}
use Rattle.record.specs.Field.{field}
use Rattle.record.specs.Row.{row_length, values_at}
use Rattle.record.specs.Layout.{row_of, record_with, size_of, of_kind, record_of}
use Rattle.record.proofs.Cases.{cases}
use Rattle.record.proofs.KindLaws.{by_kind}
use Rattle.sheet.specs.Register.{Entry}
use Rattle.sheet.specs.Pairs.{registered, own_tasks, named, rises, pairs, pair_refusal, Nested, ending_refusal, Pairing, stopped, after_pair, pair_judged, pair_step, pair_walk, paired_from}
use Rattle.sheet.proofs.WalkLaws.{room_of}

-- ---- one pair, and the end record

-- what is known of a pair that is taken
pub record PairTaken (es : List Entry) (ps : List Pair) (p : Pair) : Type 0 where
  pub larger : p.child < p.parent
  pub rise : rises ps p.child ≡ true
  pub child : registered es p.child ≡ true
  pub parent : registered es p.parent ≡ true
  pub room : own_tasks es p.parent + named ps p.parent < 64

pub pair_taken : (es : List Entry) (ps : List Pair) (p : Pair) → pair_refusal es ps p ≡ 0 → PairTaken es ps p
unfolding pair_refusal pairs
pair_taken es ps p =
    cases Taken (pairs es ps p)
    (λ t. cases Taken (leb 64 load) (λ q e. absurd (omega (arith, e)))
    (λ q e.
    let h = both _ _ t in
    let a = both _ _ h.0 in
    let b = both _ _ h.1 in
    record { larger = ltb-true p.child p.parent a.0; rise = a.1; child = b.0; parent = b.1; room = leb-false 64 load q }))
    (λ t e. absurd (omega (arith, e)))
  where
    load : ℕ
    load = own_tasks es p.parent + named ps p.parent

    Taken : ℕ → Type 0
    Taken n = n ≡ 0 → PairTaken es ps p

pub record EndTaken (es : List Entry) (count left : ℕ) : Type 0 where
  pub counted : count ≡ length es
  pub last : left ≡ size_of (EndRecord count)

pub end_taken : (es : List Entry) (count left : ℕ) → ending_refusal es count left ≡ 0 → EndTaken es count left
unfolding ending_refusal
end_taken es count left =
    cases Taken (eqb count (length es))
    (λ p. cases Taken (eqb left (size_of (EndRecord count)))
    (λ q e. record { counted = eqb-true count (length es) p; last = eqb-true left (size_of (EndRecord count)) q })
    (λ q e. absurd (omega (arith, e))))
    (λ p e. absurd (omega (arith, e)))
  where
    Taken : ℕ → Type 0
    Taken n = n ≡ 0 → EndTaken es count left

-- where no record begins, there is a refusal
abbrev Told : Record → Type 0
Told (ComponentRecord h) = Unit {0}
Told (TaskRecord stated k) = Unit {0}
Told (PairRecord p) = Unit {0}
Told (EndRecord count) = Unit {0}
Told (NoRecord n) = n ≡ 0 → ⊥

told : (s : List ℕ) → Told (record_of s)
unfolding record_of of_kind record_with
told s =
    let kind = field s 2 2 in
    let room = row_length (row_of kind) in
    cases Told (ltb (length s) 4) (λ p e. omega (arith, e))
    (λ p. cases Told (eqb room 0) (λ q e. omega (arith, e))
    (λ q. cases Told (eqb (field s 0 2) room)
    (λ r. cases Told (ltb (length s) room) (λ t e. omega (arith, e)) (λ t. values (values_at (row_of kind) s 0) kind))
    (λ r e. omega (arith, e))))
  where
    values : (vs : List ℕ) (kind : ℕ) → Told (record_with kind vs)
    values vs = by_kind (λ (k : ℕ). Told (record_with k vs)) tt tt tt tt tt tt (λ k u. rw (u.reads vs) (λ e. omega (arith, e)))

-- ---- the walk

-- the end record of these components is all that is left from a place on
pub record Closed (es : List Entry) (s : List ℕ) (place : ℕ) : Type 0 where
  pub reads : record_of (drop place s) ≡ EndRecord (length es)
  pub last : length s - place ≡ 6

module _ (es : List Entry) (s : List ℕ) where
  judged_cases : (P : Pairing → Type 0) (st : Pairing) (r : Record) (left : ℕ) → Told r
      → ((n : ℕ) → (n ≡ 0 → (r ≡ EndRecord (length es)) × (left ≡ 6)) → P (stopped n st))
      → ((p : Pair) → r ≡ PairRecord p → pair_refusal es st.pairs p ≡ 0 → P (after_pair st p))
      → P (pair_judged es st r left)
  unfolding pair_judged size_of
  judged_cases P st (ComponentRecord h) left t stop on = stop 16 (λ e. absurd (omega (arith, e)))
  judged_cases P st (TaskRecord stated k) left t stop on = stop 16 (λ e. absurd (omega (arith, e)))
  judged_cases P st (PairRecord p) left t stop on =
      let n : ℕ = pair_refusal es st.pairs p in
      cases P (eqb n 0) (λ q. on p refl (eqb-true n 0 q)) (λ q. stop n (λ e. absurd (false≢true (sym q ∙ eq-eqb n 0 e))))
  judged_cases P st (EndRecord count) left t stop on =
      stop (ending_refusal es count left) (λ e. let w = end_taken es count left e in (ap EndRecord w.counted, w.last))
  judged_cases P st (NoRecord n) left t stop on = stop n (λ e. absurd (t e))

  -- a step stops, without refusal only at the right end record, or takes a pair that the rules allow
  pub step_cases : (P : Pairing → Type 0) (st : Pairing)
      → ((n : ℕ) → (n ≡ 0 → Closed es s st.place) → P (stopped n st))
      → ((p : Pair) → record_of (drop st.place s) ≡ PairRecord p → pair_refusal es st.pairs p ≡ 0 → P (after_pair st p))
      → P (pair_step es s st)
  unfolding pair_step
  step_cases P st stop on =
      judged_cases P st (record_of (drop st.place s)) (length s - st.place) (told (drop st.place s))
      (λ n c. stop n (λ e. let w = c e in record { reads = w.0; last = w.1 })) on

  -- a step never goes back nor past the bytes, and goes on only by moving on
  pub record Moves (st next : Pairing) : Type 0 where
    pub kept : st.place ≤ next.place
    pub within : next.place ≤ length s
    pub goes : next.going ≡ true → st.place < next.place

  pub step_moves : (st : Pairing) → st.place ≤ length s → Moves st (pair_step es s st)
  unfolding stopped after_pair size_of
  step_moves st h =
      step_cases (Moves st) st (λ n c. record { kept = omega arith; within = h; goes = λ e. absurd (false≢true e) })
      (λ p e t. let room = room_of s st.place h in
      let w : st.place + 8 ≤ length s = rw e at room in
      record { kept = omega arith; within = w; goes = λ g. omega arith })

  -- a walk that goes on takes a step, and one that has stopped stays
  pub pair_walk_on : (more : ℕ) (st : Pairing) → st.going ≡ true → pair_walk es (suc more) s st ≡ pair_walk es more s (pair_step es s st)
  unfolding pair_walk
  pair_walk_on more st e = rw e

  pub pair_walk_stopped : (more : ℕ) (st : Pairing) → st.going ≡ false → pair_walk es more s st ≡ st
  unfolding pair_walk
  pair_walk_stopped zero st e = refl
  pair_walk_stopped (suc more) st e = rw e

-- pair records one behind the other from a place on
abbrev pub Stand : List ℕ → ℕ → List Pair → Type 0
Stand s place [] = Unit {0}
Stand s place (p ∷ ps) = (record_of (drop place s) ≡ PairRecord p) × Stand s (place + 8) ps

-- what a walk did from one state to its last: it took some pairs that stand there, and stopped
pub record Took (es : List Entry) (s : List ℕ) (st last : Pairing) : Type 0 where
  pub pairs : List Pair
  pub is : last.pairs ≡ st.pairs ++ pairs
  pub nested : Nested es st.pairs pairs
  pub stand : Stand s st.place pairs
  pub place : last.place ≡ st.place + 8 * length pairs
  pub within : last.place ≤ length s
  pub over : last.going ≡ false
  pub closed : last.refusal ≡ 0 → Closed es s last.place

module _ (es : List Entry) (s : List ℕ) where
  took_none : (st : Pairing) (n : ℕ) → st.place ≤ length s → (n ≡ 0 → Closed es s st.place) → Took es s st (stopped n st)
  unfolding stopped
  took_none st n h c =
      record { pairs = []; is = sym (append-nil st.pairs); nested = tt; stand = tt; place = omega arith; within = h; over = refl; closed = c }

  took_more : (st : Pairing) (p : Pair) (last : Pairing) → record_of (drop st.place s) ≡ PairRecord p → pair_refusal es st.pairs p ≡ 0
      → Took es s (after_pair st p) last → Took es s st last
  unfolding after_pair size_of
  took_more st p last e t w =
      record {
        pairs = p ∷ w.pairs;
        is = w.is ∙ append_assoc st.pairs (p ∷ []) w.pairs;
        nested = (t, w.nested);
        stand = (e, w.stand);
        place = w.place ∙ omega arith;
        within = w.within;
        over = w.over;
        closed = w.closed;
      }

  -- steps for the bytes left are enough
  pub walk_took : (more : ℕ) (st : Pairing) → st.going ≡ true → st.place ≤ length s → length s - st.place < more → Took es s st (pair_walk es more s st)
  unfolding stopped after_pair size_of
  walk_took zero st g h l = absurd (omega arith)
  walk_took (suc more) st g h l =
      rw (pair_walk_on es s more st g)
      (step_cases es s (λ (next : Pairing). Took es s st (pair_walk es more s next)) st
      (λ n c. rw (pair_walk_stopped es s more (stopped n st) refl) (took_none st n h c))
      (λ p e t. let room = room_of s st.place h in
      let w : st.place + 8 ≤ length s = rw e at room in
      took_more st p (pair_walk es more s (after_pair st p)) e t (walk_took more (after_pair st p) refl w (omega arith))))

  -- a step at the right end record, and one at a pair that the rules take
  step_closed : (st : Pairing) → Closed es s st.place → pair_step es s st ≡ stopped 0 st
  unfolding pair_step pair_judged ending_refusal size_of
  step_closed st c = rw (c.reads, c.last, eq-eqb (length es) (length es) refl)

  step_pair : (st : Pairing) (p : Pair) → record_of (drop st.place s) ≡ PairRecord p → pair_refusal es st.pairs p ≡ 0 → pair_step es s st ≡ after_pair st p
  unfolding pair_step pair_judged
  step_pair st p e t = rw (e, t)

  -- a walk over pairs that stand there and that the rules take, up to the right end record, ends behind them
  pub walk_takes : (ps : List Pair) (more : ℕ) (st : Pairing) → st.going ≡ true → Stand s st.place ps → Nested es st.pairs ps
      → Closed es s (st.place + 8 * length ps) → length ps < more
      → pair_walk es more s st ≡ record { going = false; refusal = 0; place = st.place + 8 * length ps; pairs = st.pairs ++ ps }
  unfolding stopped after_pair size_of
  walk_takes ps zero st g a n c l = absurd (omega arith)
  walk_takes [] (suc more) st g a n c l =
      let z : st.place + 0 ≡ st.place = omega arith in
      let e : Closed es s st.place = rw z at c in
      pair_walk_on es s more st g
      ∙ (ap (pair_walk es more s) (step_closed st e)
      ∙ (pair_walk_stopped es s more (stopped 0 st) refl ∙ rw (z, append-nil)))
  walk_takes (p ∷ ps) (suc more) st g a n c l =
      let z : st.place + 8 + 8 * length ps ≡ st.place + 8 * suc (length ps) = omega arith in
      pair_walk_on es s more st g
      ∙ (ap (pair_walk es more s) (step_pair st p a.0 n.0)
      ∙ (walk_takes ps more (after_pair st p) refl a.1 n.1 (rw z c) (omega arith) ∙ rw (z, append_assoc)))

  -- what the walk from behind the components leaves: its pairs stand there one behind the other and are taken by the rules, and behind them, where
  -- nothing is refused, the right end record closes the sheet
  pub record Passed (at : ℕ) (last : Pairing) : Type 0 where
    pub nested : Nested es [] last.pairs
    pub stand : Stand s at last.pairs
    pub place : last.place ≡ at + 8 * length last.pairs
    pub within : last.place ≤ length s
    pub over : last.going ≡ false
    pub closed : last.refusal ≡ 0 → Closed es s last.place

  pub passed : (at : ℕ) → at ≤ length s → Passed at (paired_from es s at)
  unfolding paired_from
  passed at h =
      let w = walk_took (suc (length s)) (record { going = true; refusal = 0; place = at; pairs = [] }) refl h (omega arith) in
      record { nested = rw w.is w.nested; stand = rw w.is w.stand; place = rw w.is w.place; within = w.within; over = w.over; closed = w.closed }
