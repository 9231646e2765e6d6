-- What the walk notes with each count of components is what the definition says: behind each step the state is the last one held with its count.
use Prim.Native.Nat.{ℕ, ◌+◌, ◌≤◌, ◌<◌}
use mathlib.Core.Path.{◌≡◌, sym, ap, subst, ◌∙◌}
use mathlib.Core.Bool.{cond}
use mathlib.Core.List.{List}
use native.Mathlib.Omega.{arith}
use lib.ListN.{length, get_or, set, replicate, length-set, length-replicate, get_or-replicate}
use lib.Seq.{ext_get_or, get_or-set_same, get_or-set_other}
use lib.Dec.{leb, ltb}
use borrow.Author.Tests.{leb-true, leb-false, ltb-true, ltb-false}
use Rattle.record.proofs.Cases.{cases, either}
use Rattle.sheet.specs.Judging.{State, refuse, ended}
use Rattle.sheet.specs.Register.{walked, held_of, noted}
use Rattle.sheet.proofs.HeldLaws.{noted_long, noted_at, last_held}

-- what f says of the states so far, noted at their counts, and at every other place what it says of the first
pub record Noting {A : Type 0} (f : State → A) (none : A) (s : List ℕ) (xs : List A) (st : State) : Type 0 where
  pub behind : (k : ℕ) (d : A) → k < st.count → get_or xs k d ≡ f (held_of s k)
  pub here : (d : A) → get_or xs st.count d ≡ f st
  pub empty : (k : ℕ) (d : A) → st.count < k → k < 257 → get_or xs k d ≡ none
  pub places : length xs ≡ 257

module _ {A : Type 0} (f : State → A) (none : A) (s : List ℕ) where
  pub noting_begun : (st : State) → st.count ≡ 0 → f st ≡ none → Noting f none s (replicate 257 none) st
  noting_begun st n z =
      record {
        behind = λ k d h. absurd (omega arith);
        here = λ d. get_or-replicate 257 st.count none d (omega arith) ∙ sym z;
        empty = λ k d h l. get_or-replicate 257 k none d l;
        places = length-replicate 257 none;
      }

  module _ (xs : List A) (st : State) (w : Noting f none s xs st) where
    -- up to a count, where f says the same of the state at that count and of the one held
    upto : f (held_of s st.count) ≡ f st → (k : ℕ) (d : A) → k ≤ st.count → get_or xs k d ≡ f (held_of s k)
    upto e k d h =
        either (ltb k st.count) (λ b. w.behind k d (ltb-true k st.count b))
        (λ b. let low = ltb-false k st.count b in
        let q : st.count ≡ k = omega arith in
        subst (λ (i : ℕ). get_or xs i d ≡ f (held_of s i)) q (w.here d ∙ sym e))

    pub noting_again : (next : State) → next.count ≤ 256 → st.count ≤ next.count → next.count ≤ st.count + 1
        → (st.count < next.count → held_of s st.count ≡ st) → Noting f none s (set xs next.count (f next)) next
    noting_again next few low high e =
        let other : (k : ℕ) (d : A) → (k ≡ next.count → ⊥) → get_or (set xs next.count (f next)) k d ≡ get_or xs k d =
        λ k d n. get_or-set_other xs next.count k (f next) d n in
        record {
          behind = λ k d h. other k d (λ q. omega (arith, q)) ∙ passed k d h;
          here = λ d. get_or-set_same xs next.count (f next) d (omega (arith, w.places));
          empty = λ k d h l. other k d (λ q. omega (arith, q)) ∙ w.empty k d (omega arith) l;
          places = length-set xs next.count (f next) ∙ w.places;
        }
      where
        passed : (k : ℕ) (d : A) → k < next.count → get_or xs k d ≡ f (held_of s k)
        passed k d h =
            either (ltb st.count next.count) (λ b. upto (ap f (e (ltb-true st.count next.count b))) k d (omega arith))
            (λ b. let same = ltb-false st.count next.count b in w.behind k d (omega arith))

    -- where the walk ends all is noted, if f says the same of its end as of its last state
    module _ (e : walked s ≡ ended st) (same : f (ended st) ≡ f st) where
      pub counted : (walked s).count ≡ st.count
      unfolding ended refuse
      counted = ap (λ (x : State). x.count) e

      pub noting_held : (k : ℕ) (d : A) → k ≤ st.count → get_or xs k d ≡ f (held_of s k)
      noting_held = upto (ap (λ (k : ℕ). f (held_of s k)) (sym counted) ∙ (ap f (last_held s ∙ e) ∙ same))

-- a number that is 0 at the first state
pub noting_over : (f : State → ℕ) (s xs : List ℕ) (st : State) (w : Noting f 0 s xs st) → walked s ≡ ended st → f (ended st) ≡ f st → xs ≡ noted f s
noting_over f s xs st w e same =
    ext_get_or 0 xs (noted f s) (w.places ∙ sym (noted_long f s))
    (λ k h. let l : k < 257 = omega (arith, w.places) in all k l ∙ sym (noted_at f s k l))
  where
    all : (k : ℕ) → k < 257 → get_or xs k 0 ≡ cond (leb k (walked s).count) (f (held_of s k)) 0
    all k h =
        let n = counted f 0 s xs st w e same in
        cases (λ (x : ℕ). get_or xs k 0 ≡ x) (leb k (walked s).count)
        (λ b. noting_held f 0 s xs st w e same k 0 (omega (arith, leb-true k (walked s).count b)))
        (λ b. w.empty k 0 (omega (arith, leb-false k (walked s).count b)) h)
