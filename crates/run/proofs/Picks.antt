-- The first of the places that pass a test, by an order of places that decides, found from the left by `reduce` as from the right end by a scan.
use Prim.Native.Nat.{ℕ, zero, suc, ◌+◌, ◌<◌}
use mathlib.Core.Path.{◌≡◌, refl, ap, ◌∙◌}
use mathlib.Core.Bool.{Bool, true, false, cond, not, ◌&&◌, ◌||◌}
use mathlib.Core.List.{List, ◌∷◌, map}
use lib.Dec.{leb}
use borrow.Author.Tests.{le-leb, lt-leb}
use native.Mathlib.Nat.{le_refl}
use native.Mathlib.Omega.{arith}
use Rattle.std.specs.Prelude.{Some, unwrap_or, option_map}
use Rattle.std.specs.List.{filter, fold, range_with_len, reduce}

module _ (goes : ℕ → ℕ → Bool) where
  -- of two places the one that goes before the other, and the first where neither does
  abbrev pub pick : ℕ → ℕ → ℕ
  pick i k = cond (goes k i) k i

  pub record Orders : Type 0 where
    pub through : (i k p : ℕ) → goes i k ≡ false → goes k p ≡ false → goes i p ≡ false
    pub forth : (i k p : ℕ) → goes i k ≡ true → goes k p ≡ true → goes i p ≡ true

  -- `first k` is the place found from k on, and `len` where none is
  module _ (orders : Orders) (passes : ℕ → Bool) (len : ℕ) (first : ℕ → ℕ) (last : first len ≡ len)
      (each : (k : ℕ) → k < len → first k ≡ cond (passes k && (leb len (first (k + 1)) || not (goes (first (k + 1)) k))) k (first (k + 1))) where
    abbrev front : ℕ → ℕ → ℕ
    front i f = cond (leb len f || not (goes f i)) i f

    -- to take the first of i and k and then the first behind it is to take the first of i and what is found from k on
    turn : (i k f : ℕ) (e y x : Bool) → k < len → leb len f ≡ e → goes f k ≡ y → goes k i ≡ x → front (pick i k) f ≡ front i (front k f)
    turn i k f true y true h p q r = rw (p, r, lt-leb len k h)
    turn i k f true y false h p q r = rw (p, r, lt-leb len k h)
    turn i k f false true true h p q r = rw (p, r, q, p, orders.forth f k i q r)
    turn i k f false true false h p q r = rw (p, r, q, p)
    turn i k f false false true h p q r = rw (p, r, q, lt-leb len k h, r)
    turn i k f false false false h p q r = rw (p, r, q, lt-leb len k h, r, orders.through f k i q r)

    folds_one : (b : Bool) (i k : ℕ) (rest : List ℕ) → passes k ≡ b → k < len
        → ((j : ℕ) → fold pick j rest ≡ front j (first (k + 1)))
        → fold pick i (cond b (k ∷ rest) rest) ≡ front i (first k)
    folds_one true i k rest e h ih = ih (pick i k) ∙ turn i k (first (k + 1)) _ _ _ h refl refl refl ∙ rw (each k h, e)
    folds_one false i k rest e h ih = ih i ∙ rw (each k h, e)

    folds : (i k n : ℕ) → k + n ≡ len → fold pick i (filter passes (range_with_len k n)) ≡ front i (first k)
    folds i k zero e =
        let here : k ≡ len = omega arith in
        rw (here, last, le-leb len len (le_refl len))
    folds i k (suc n) e =
        folds_one (passes k) i k (filter passes (range_with_len (k + 1) n)) refl (omega arith) (λ j. folds j (k + 1) n (omega arith))

    found_one : (b : Bool) (k : ℕ) (rest : List ℕ) → passes k ≡ b → k < len → fold pick k rest ≡ front k (first (k + 1))
        → unwrap_or (reduce pick rest) len ≡ first (k + 1) → unwrap_or (reduce pick (cond b (k ∷ rest) rest)) len ≡ first k
    found_one true k rest e h f ih = f ∙ rw (each k h, e)
    found_one false k rest e h f ih = ih ∙ rw (each k h, e)

    pub found : (k n : ℕ) → k + n ≡ len → unwrap_or (reduce pick (filter passes (range_with_len k n))) len ≡ first k
    found k zero e =
        let here : k ≡ len = omega arith in
        rw (here, last)
    found k (suc n) e =
        found_one (passes k) k (filter passes (range_with_len (k + 1) n)) refl (omega arith) (folds k (k + 1) n (omega arith)) (found (k + 1) n (omega arith))

  -- the same on values of the places, where f takes the value of the place that is picked
  module _ {X : Type 0} (passes : ℕ → Bool) (key : ℕ → X) (f : X → X → X) (keeps : (i k : ℕ) → i < k → f (key i) (key k) ≡ key (pick i k)) where
    below : (b : Bool) (i k : ℕ) → i < k → cond b k i < k + 1
    below true i k h = omega arith
    below false i k h = omega arith

    valued_one : (b : Bool) (i k : ℕ) (rest : List ℕ) → i < k → ((j : ℕ) → j < k + 1 → fold f (key j) (map key rest) ≡ key (fold pick j rest))
        → fold f (key i) (map key (cond b (k ∷ rest) rest)) ≡ key (fold pick i (cond b (k ∷ rest) rest))
    valued_one true i k rest h ih = ap (λ (x : X). fold f x (map key rest)) (keeps i k h) ∙ ih (pick i k) (below (goes k i) i k h)
    valued_one false i k rest h ih = ih i (omega arith)

    valued : (i k n : ℕ) → i < k → fold f (key i) (map key (filter passes (range_with_len k n))) ≡ key (fold pick i (filter passes (range_with_len k n)))
    valued i k zero h = refl
    valued i k (suc n) h = valued_one (passes k) i k (filter passes (range_with_len (k + 1) n)) h (λ j l. valued j (k + 1) n l)

    reduced_one : (b : Bool) (k : ℕ) (rest : List ℕ) → fold f (key k) (map key rest) ≡ key (fold pick k rest)
        → reduce f (map key rest) ≡ option_map key (reduce pick rest) → reduce f (map key (cond b (k ∷ rest) rest)) ≡ option_map key (reduce pick (cond b (k ∷ rest) rest))
    reduced_one true k rest v ih = ap Some v
    reduced_one false k rest v ih = ih

    pub reduced : (k n : ℕ) → reduce f (map key (filter passes (range_with_len k n))) ≡ option_map key (reduce pick (filter passes (range_with_len k n)))
    reduced k zero = refl
    reduced k (suc n) =
        reduced_one (passes k) k (filter passes (range_with_len (k + 1) n)) (valued k (k + 1) n (omega arith)) (reduced (k + 1) n)
