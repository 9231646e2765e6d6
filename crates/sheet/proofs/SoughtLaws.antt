-- The place where the component of a number is noted: each number has its own, and what is noted there is what the list of the components says.
use Prim.Native.Nat.{ℕ, zero, suc, ◌+◌, ◌-◌, ◌<◌}
use mathlib.Core.Path.{◌≡◌, refl, sym, ap, ◌∙◌}
use mathlib.Core.Bool.{Bool, true, false, ◌||◌}
use mathlib.Core.List.{List, [], ◌∷◌}
use native.Mathlib.Omega.{arith}
use lib.ListN.{length, get_or, set, length-set}
use lib.Dec.{eqb}
use borrow.Author.Tests.{eqb-true, eqb-false, eq-eqb, ne_eqb}
use Rattle.std.specs.Prelude.{Option, Some, is_some}
use Rattle.std.specs.List.{position_from}
use Rattle.std.proofs.lemmas.Iterator.Adapters.{position_from-zero}
use Rattle.std.proofs.lemmas.List.Folds.{position_or_len-set}
use Rattle.std.proofs.lemmas.List.Quantifiers.{position-Some}
use Rattle.record.proofs.Cases.{cases, either}
use Rattle.sheet.specs.declared.walk.Noted.{Noted}
use Rattle.sheet.specs.Pairs.{registered, own_tasks}
use Rattle.sheet.specs.inner.PairCourse.{entries_in, found}

-- a component's number, by what it is noted with
abbrev pub numbered : ℕ → Noted → Bool
numbered n st = eqb st.lowest (n + 1)

-- ---- the place found

module _ (cs : List Noted) (n : ℕ) where
  found_from : found cs n ≡ position_from (numbered n) 0 cs
  found_from = position_from-zero (numbered n) cs

  module _ (k : ℕ) (d : Noted) (e : found cs n ≡ Some k) where
    pub found_within : k < length cs
    found_within = (position-Some (numbered n) cs k d e).0

    pub found_number : (get_or cs k d).lowest ≡ n + 1
    found_number = eqb-true _ _ (position-Some (numbered n) cs k d e).1

-- a component is found by its number alone
pub found_once : (cs : List Noted) (m n k : ℕ) (d : Noted) → found cs m ≡ Some k → found cs n ≡ Some k → m ≡ n
found_once cs m n k d e f = let a = found_number cs m k d e in let b = found_number cs n k d f in omega arith

-- what changes but a component's number changes no place
pub found_set : (cs : List Noted) (n i : ℕ) (d st : Noted) → st.lowest ≡ (get_or cs i d).lowest → found (set cs i st) n ≡ found cs n
found_set cs n i d st e =
    rw (position_or_len-set (numbered n) cs i st d (ap (λ (x : ℕ). eqb x (n + 1)) e), length-set cs i st)

-- ---- the list of the components

same_test : (x number : ℕ) → 0 < x → eqb (x - 1) number ≡ eqb x (number + 1)
same_test x number h =
    either (eqb x (number + 1))
    (λ p. let e = eqb-true x (number + 1) p in eq-eqb (x - 1) number (omega arith) ∙ sym p)
    (λ p. ne_eqb (x - 1) number (λ e. eqb-false x (number + 1) p (omega arith)) ∙ sym p)

-- each component is noted with a number
abbrev pub Numbered : List Noted → Type 0
Numbered cs = (k : ℕ) (d : Noted) → k < length cs → 0 < (get_or cs k d).lowest

behind : (c : Noted) (cs : List Noted) → Numbered (c ∷ cs) → Numbered cs
behind c cs h k d l = h (suc k) d (omega arith)

module _ (n : ℕ) where
  registered_from : (cs : List Noted) (i : ℕ) → Numbered cs → is_some (position_from (numbered n) i cs) ≡ registered (entries_in cs) n
  unfolding registered
  registered_from [] i h = refl
  registered_from (c ∷ cs) i h =
      rw (same_test c.lowest n (h 0 c (omega arith)))
      (cases (λ (o : Option ℕ). is_some o ≡ (numbered n c || registered (entries_in cs) n)) (numbered n c)
      (λ p. rw p)
      (λ p. rw p (registered_from cs (i + 1) (behind c cs h))))

  tasks_first : (cs : List Noted) (k : ℕ) (d : Noted) → Numbered cs → k < length cs → numbered n (get_or cs k d) ≡ true
      → ((j : ℕ) → j < k → numbered n (get_or cs j d) ≡ false) → (get_or cs k d).tasks ≡ own_tasks (entries_in cs) n
  unfolding own_tasks
  tasks_first [] k d h l t f = absurd (omega arith)
  tasks_first (c ∷ cs) zero d h l t f = rw (same_test c.lowest n (h 0 c (omega arith)), t)
  tasks_first (c ∷ cs) (suc k) d h l t f =
      rw (same_test c.lowest n (h 0 c (omega arith)), f 0 (omega arith))
      (tasks_first cs k d (behind c cs h) (omega arith) t (λ j i. f (suc j) (omega arith)))

module _ (cs : List Noted) (h : Numbered cs) (n : ℕ) where
  pub found_registered : is_some (found cs n) ≡ registered (entries_in cs) n
  found_registered = ap is_some (found_from cs n) ∙ registered_from n cs 0 h

  pub found_tasks : (k : ℕ) (d : Noted) → found cs n ≡ Some k → (get_or cs k d).tasks ≡ own_tasks (entries_in cs) n
  found_tasks k d e = let p = position-Some (numbered n) cs k d e in tasks_first n cs k d h p.0 p.1 p.2
