-- What the walk over a sheet holds with each count of components: as many components as asked for, at the end its last state, and a number of each.
use Prim.Native.Nat.{ℕ, zero, suc, ◌+◌, ◌≤◌, ◌<◌}
use mathlib.Core.Path.{◌≡◌, refl, sym, ap, ◌∙◌}
use mathlib.Core.Bool.{cond}
use mathlib.Core.List.{List}
use native.Mathlib.Omega.{arith}
use lib.ListN.{length, get_or, drop}
use lib.Dec.{leb, ltb, eqb}
use borrow.Author.Tests.{le-leb, ltb-false}
use Rattle.record.specs.Record.{Record, ComponentRecord, TaskRecord, PairRecord, EndRecord, NoRecord}
use Rattle.record.specs.Layout.{record_of}
use Rattle.record.proofs.Cases.{cases}
use Rattle.sheet.specs.Judging.{State, most_bytes, start, refuse, ended, opened, record_refusal, after_head, after_task, after, judged}
use Rattle.sheet.specs.Walk.{step, walk}
use Rattle.sheet.specs.Register.{walked, held_of, noted_from, noted}
use Rattle.sheet.proofs.JudgingLaws.{orderly, opens}
use Rattle.sheet.proofs.WalkLaws.{walk_stopped, walk_few, walk_within, held_last, held_count, held_kept}

-- ---- the numbers noted, place by place

module _ (f : State → ℕ) (s : List ℕ) where
  from_long : (n k : ℕ) → length (noted_from f s n k) ≡ n
  unfolding noted_from
  from_long zero k = refl
  from_long (suc n) k = ap suc (from_long n (suc k))

  at : ℕ → ℕ
  at k = cond (leb k (walked s).count) (f (held_of s k)) 0

  from_at : (n k i : ℕ) → i < n → get_or (noted_from f s n k) i 0 ≡ at (k + i)
  unfolding noted_from at
  from_at zero k i h = absurd (omega arith)
  from_at (suc n) k zero h = let z : k ≡ k + 0 = omega arith in ap at z
  from_at (suc n) k (suc i) h = let z : suc k + i ≡ k + suc i = omega arith in from_at n (suc k) i (omega arith) ∙ ap at z

  pub noted_long : length (noted f s) ≡ 257
  unfolding noted
  noted_long = from_long 257 0

  pub noted_at : (k : ℕ) → k < 257 → get_or (noted f s) k 0 ≡ cond (leb k (walked s).count) (f (held_of s k)) 0
  unfolding noted at
  noted_at k h = let z : 0 + k ≡ k = omega arith in from_at 257 0 k h ∙ ap at z

  pub noted_held : (k : ℕ) → k < 257 → k ≤ (walked s).count → get_or (noted f s) k 0 ≡ f (held_of s k)
  noted_held k h l = rw (noted_at k h, le-leb k (walked s).count l)

-- ---- the states held

module _ (s : List ℕ) where
  pub starts : (opened (length s)).place ≤ length s
  starts = let b = opens (length s) in omega (arith, b.place)

  pub walked_few : (walked s).count ≤ 256
  unfolding walked
  walked_few = let b = opens (length s) in walk_few judged orderly s (suc (length s)) (opened (length s)) starts (omega (arith, b.count))

  pub walked_within : (walked s).place ≤ length s
  unfolding walked
  walked_within = walk_within judged orderly s (suc (length s)) (opened (length s)) starts

  -- too many bytes are refused
  pub unrefused_short : (walked s).refusal ≡ 0 → length s ≤ most_bytes
  unfolding walked opened refuse start
  unrefused_short =
      cases (λ (x : State). (walk judged (suc (length s)) s x).refusal ≡ 0 → length s ≤ most_bytes) (ltb most_bytes (length s))
      (λ p e. let long : State = refuse 14 start in
      let z : 14 ≡ 0 = sym (ap (λ (x : State). x.refusal) (walk_stopped judged (suc (length s)) s long refl)) ∙ e in
      absurd (omega (arith, z)))
      (λ p e. ltb-false most_bytes (length s) p)

  -- behind the last component the walk ends
  pub last_held : held_of s (walked s).count ≡ walked s
  unfolding walked held_of
  last_held = held_last judged orderly s (suc (length s)) (walked s).count (opened (length s)) starts (omega arith)

  pub count_held : (k : ℕ) → k ≤ (walked s).count → (held_of s k).count ≡ k
  unfolding walked held_of
  count_held k h = let b = opens (length s) in held_count judged orderly s (suc (length s)) k (opened (length s)) starts (omega (arith, b.count)) h

-- ---- their numbers

-- the lowest number that may follow a component is one more than its own
abbrev Numbered : State → Type 0
Numbered st = 1 ≤ st.count → 1 ≤ st.lowest

numbered_after : (st : State) (r : Record) → Numbered st → Numbered (after st r)
unfolding after ended refuse after_head after_task
numbered_after st (ComponentRecord h) n = λ l. omega arith
numbered_after st (TaskRecord stated k) n = n
numbered_after st (PairRecord p) n = n
numbered_after st (EndRecord count) n = n
numbered_after st (NoRecord m) n = n

numbered_step : (s : List ℕ) (st : State) → st.place ≤ length s → Numbered st → Numbered (step judged s st)
unfolding step judged refuse
numbered_step s st h n =
    let r : Record = record_of (drop st.place s) in
    cases Numbered (eqb (record_refusal st r) 0) (λ p. numbered_after st r n) (λ p. n)

pub numbered_held : (s : List ℕ) (k : ℕ) → 1 ≤ (held_of s k).count → 1 ≤ (held_of s k).lowest
unfolding held_of
numbered_held s k =
    let b = opens (length s) in
    held_kept judged orderly s Numbered (numbered_step s) (suc (length s)) k (opened (length s)) (starts s) (λ l. absurd (omega (arith, b.count)))
