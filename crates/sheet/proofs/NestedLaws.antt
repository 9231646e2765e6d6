-- What the rules say of pairs that are taken one after the other, by looking at each behind those before it: the children rise, and no parent
-- is ever too full.
use Prim.Native.Nat.{ℕ, zero, suc, ◌+◌, ◌≤◌, ◌<◌}
use mathlib.Core.Path.{◌≡◌, refl}
use mathlib.Core.Bool.{Bool, true, false, cond, ◌&&◌}
use mathlib.Core.List.{List, [], ◌∷◌, ◌++◌, append_assoc, append-nil}
use native.Mathlib.Omega.{arith}
use lib.ListN.{length, get_or, take}
use lib.Seq.{get_or-take, length-take-le}
use lib.Dec.{ltb, eqb}
use borrow.Author.Tests.{ltb-true, eqb-true}
use Rattle.budget.proofs.Valid.{both}
use Rattle.record.specs.declared.layout.Pair.{Pair}
use Rattle.record.proofs.Cases.{either}
use Rattle.sheet.specs.Register.{Entry}
use Rattle.sheet.specs.Pairs.{own_tasks, named, rises, pair_refusal, Nested}
use Rattle.sheet.proofs.PairLaws.{PairTaken, pair_taken}

-- ---- what holds of pairs one behind the other

pub named_append : (ps qs : List Pair) (n : ℕ) → named (ps ++ qs) n ≡ named ps n + named qs n
unfolding named
named_append [] qs n = omega arith
named_append (p ∷ ps) qs n = let e = named_append ps qs n in omega arith

pub named_one : (p : Pair) (n : ℕ) (b : Bool) → eqb p.parent n ≡ b → named (p ∷ []) n ≡ cond b 1 0
unfolding named
named_one p n b e = rw e (omega arith)

pub rises_append : (ps qs : List Pair) (n : ℕ) → rises (ps ++ qs) n ≡ (rises ps n && rises qs n)
unfolding rises
rises_append [] qs n = refl
rises_append (p ∷ ps) qs n = and_then (ltb p.child n) (rises (ps ++ qs) n) (rises ps n) (rises qs n) (rises_append ps qs n)
  where
    and_then : (a b c d : Bool) → b ≡ (c && d) → (a && b) ≡ ((a && c) && d)
    and_then true b c d e = e
    and_then false b c d e = refl

rises_above : (ps : List Pair) (n : ℕ) → rises ps n ≡ true → (i : ℕ) (d : Pair) → i < length ps → (get_or ps i d).child < n
unfolding rises
rises_above [] n e i d h = absurd (omega arith)
rises_above (p ∷ ps) n e zero d h = ltb-true p.child n (both (ltb p.child n) (rises ps n) e).0
rises_above (p ∷ ps) n e (suc i) d h = rises_above ps n (both (ltb p.child n) (rises ps n) e).1 i d (omega arith)

-- ---- pairs that the rules take

module _ (es : List Entry) where
  -- each is taken behind those before it
  taken_behind : (before ps : List Pair) → Nested es before ps → (i : ℕ) (d : Pair) → i < length ps → pair_refusal es (before ++ take i ps) (get_or ps i d) ≡ 0
  taken_behind before [] t i d h = absurd (omega arith)
  taken_behind before (p ∷ ps) t zero d h = rw append-nil t.0
  taken_behind before (p ∷ ps) t (suc i) d h = rw append_assoc at (taken_behind (before ++ (p ∷ [])) ps t.1 i d (omega arith))

  pub taken_at : (ps : List Pair) → Nested es [] ps → (i : ℕ) (d : Pair) → i < length ps → PairTaken es (take i ps) (get_or ps i d)
  taken_at ps t i d h = pair_taken es (take i ps) (get_or ps i d) (taken_behind [] ps t i d h)

  pub children_rise : (ps : List Pair) → Nested es [] ps → (i j : ℕ) (d : Pair) → i < j → j < length ps → (get_or ps i d).child < (get_or ps j d).child
  children_rise ps t i j d l h =
      let e : length (take j ps) ≡ j = length-take-le j ps (omega arith) in
      rw (get_or-take j ps i d) at (rises_above (take j ps) (get_or ps j d).child (taken_at ps t j d h).rise i d (omega arith))

  -- a parent that some pair names has no more than 64 tasks and children
  Fits : List Pair → ℕ → Type 0
  Fits ps n = 0 < named ps n → own_tasks es n + named ps n ≤ 64

  one_more : (before : List Pair) (p : Pair) → pair_refusal es before p ≡ 0 → (n : ℕ) → Fits before n → Fits (before ++ (p ∷ [])) n
  unfolding Fits
  one_more before p t n f =
      let e = named_append before (p ∷ []) n in
      either (eqb p.parent n)
      (λ q. let same = eqb-true p.parent n q in
      let room : own_tasks es n + named before n < 64 = rw same at (pair_taken es before p t).room in
      let one = named_one p n true q in
      λ some. omega arith)
      (λ q. let one = named_one p n false q in
      λ some. let h = f (omega arith) in omega arith)

  fits_behind : (before ps : List Pair) → Nested es before ps → (n : ℕ) → Fits before n → Fits (before ++ ps) n
  fits_behind before [] t n f = rw append-nil f
  fits_behind before (p ∷ ps) t n f = rw append_assoc at (fits_behind (before ++ (p ∷ [])) ps t.1 n (one_more before p t.0 n f))

  pub never_full : (ps : List Pair) → Nested es [] ps → (n : ℕ) → 0 < named ps n → own_tasks es n + named ps n ≤ 64
  unfolding Fits named
  never_full ps t n = fits_behind [] ps t n (λ some. absurd (omega arith))
