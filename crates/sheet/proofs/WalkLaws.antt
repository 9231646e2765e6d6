-- Laws of the walk, for any orderly judging: a step goes on only by moving on, so the bytes left bound the steps; the states held with each count of components lie along it.
use Prim.Native.Nat.{ℕ, zero, suc, ◌+◌, ◌-◌, ◌≤◌, ◌<◌}
use mathlib.Core.Path.{◌≡◌, refl, sym, ap, ◌∙◌}
use mathlib.Core.Bool.{Bool, true, false, cond}
use mathlib.Core.List.{List}
use native.Mathlib.Nat.{le_of_eq}
use native.Mathlib.Omega.{arith}
use lib.ListN.{length, take, drop, length-drop}
use lib.Seq.{take_all}
use lib.Dec.{leb}
use borrow.Author.Tests.{le-leb, lt-leb, leb-true, leb-false}
use Rattle.record.specs.Record.{Record}
use Rattle.record.specs.Layout.{size_of, record_of}
use Rattle.record.proofs.Cases.{cases, either}
use Rattle.record.proofs.RecordLaws.{size_within}
use Rattle.sheet.specs.Judging.{State}
use Rattle.sheet.specs.Walk.{Judging, step, walk, held, Onward, Orderly}

-- what is left of a sheet from a place on, as the code lends it
pub rest_is : (s : List ℕ) (p : ℕ) → take (length s - p) (drop p s) ≡ drop p s
rest_is s p = take_all (length s - p) (drop p s) (le_of_eq (length-drop p s))

pub room_of : (s : List ℕ) (p : ℕ) → p ≤ length s → p + size_of (record_of (drop p s)) ≤ length s
room_of s p h =
    let w = size_within (drop p s) in
    let e = length-drop p s in
    omega arith

-- a walk that goes on takes a step, and one that has stopped stays
module _ (judge : Judging) (more : ℕ) (s : List ℕ) (st : State) where
  pub walk_on : st.going ≡ true → walk judge (suc more) s st ≡ walk judge more s (step judge s st)
  unfolding walk
  walk_on e = rw e

  held_step : (k : ℕ) (b : Bool) → st.going ≡ true → leb (step judge s st).count k ≡ b → held judge (suc more) s k st ≡ cond b (held judge more s k (step judge s st)) st
  unfolding held
  held_step k b e h =
      let next = step judge s st in
      ap (λ (g : Bool). elim g [ true ↦ cond (leb next.count k) (held judge more s k next) st | false ↦ st ]) e
      ∙ ap (λ (l : Bool). cond l (held judge more s k next) st) h

  pub held_on : (k : ℕ) → st.going ≡ true → (step judge s st).count ≤ k → held judge (suc more) s k st ≡ held judge more s k (step judge s st)
  held_on k e h = held_step k true e (le-leb (step judge s st).count k h)

  pub held_here : (k : ℕ) → st.going ≡ true → k < (step judge s st).count → held judge (suc more) s k st ≡ st
  held_here k e h = held_step k false e (lt-leb (step judge s st).count k h)

pub walk_stopped : (judge : Judging) (more : ℕ) (s : List ℕ) (st : State) → st.going ≡ false → walk judge more s st ≡ st
unfolding walk
walk_stopped judge zero s st e = refl
walk_stopped judge (suc more) s st e = rw e

pub held_stopped : (judge : Judging) (more : ℕ) (s : List ℕ) (k : ℕ) (st : State) → st.going ≡ false → held judge more s k st ≡ st
unfolding held
held_stopped judge zero s k st e = refl
held_stopped judge (suc more) s k st e = rw e

elim_cases : {A : Type 0} (P : A → Type 0) (b : Bool) {x y : A} → (b ≡ true → P x) → (b ≡ false → P y) → P (elim b [ true ↦ x | false ↦ y ])
elim_cases P true p q = p refl
elim_cases P false p q = q refl

-- what is held is the walk's own state, or what is held of the walk behind a step that keeps the count
pub held_cases : (judge : Judging) (more : ℕ) (s : List ℕ) (st : State) (k : ℕ) (P : State → Type 0) → P st
    → (st.going ≡ true → (step judge s st).count ≤ k → P (held judge more s k (step judge s st))) → P (held judge (suc more) s k st)
unfolding held
held_cases judge more s st k P here on =
    elim_cases P st.going (λ g. cases P (leb (step judge s st).count k) (λ l. on g (leb-true _ _ l)) (λ l. here)) (λ g. here)

module _ (judge : Judging) (o : Orderly judge) (s : List ℕ) where
  pub step_advances : (st : State) → st.place ≤ length s → Onward (length s) st (step judge s st)
  unfolding step
  step_advances st h =
      let room = room_of s st.place h in
      let n : st.place + (length s - st.place) ≡ length s = omega arith in
      rw n at (o st (record_of (drop st.place s)) (length s - st.place) (omega arith))

  -- what each step keeps is kept to the end, and in each state held
  module _ (P : State → Type 0) (keeps : (st : State) → st.place ≤ length s → P st → P (step judge s st)) where
    pub walk_kept : (more : ℕ) (st : State) → st.place ≤ length s → P st → P (walk judge more s st)
    unfolding walk
    walk_kept zero st h p = p
    walk_kept (suc more) st h p =
        elim_cases P st.going (λ g. walk_kept more (step judge s st) (step_advances st h).within (keeps st h p)) (λ g. p)

    pub held_kept : (more k : ℕ) (st : State) → st.place ≤ length s → P st → P (held judge more s k st)
    unfolding held
    held_kept zero k st h p = p
    held_kept (suc more) k st h p =
        held_cases judge more s st k P p (λ g l. held_kept more k (step judge s st) (step_advances st h).within (keeps st h p))

  pub walk_few : (more : ℕ) (st : State) → st.place ≤ length s → st.count ≤ 256 → (walk judge more s st).count ≤ 256
  walk_few = walk_kept (λ (x : State). x.count ≤ 256) (λ st h. (step_advances st h).few)

  pub walk_within : (more : ℕ) (st : State) → st.place ≤ length s → (walk judge more s st).place ≤ length s
  walk_within more st h = walk_kept (λ (x : State). x.place ≤ length s) (λ x i p. (step_advances x i).within) more st h h

  walk_counts : (more : ℕ) (st : State) → st.place ≤ length s → st.count ≤ (walk judge more s st).count
  walk_counts more st h =
      walk_kept (λ (x : State). st.count ≤ x.count) (λ x i p. let a = (step_advances x i).counts in omega arith) more st h (omega arith)

  -- a place lies from the walk's place on, within the bytes
  pub record Between (p e : ℕ) : Type 0 where
    pub from : p ≤ e
    pub within : e ≤ length s

  pub held_between : (more k : ℕ) (st : State) → st.place ≤ length s → Between st.place (held judge more s k st).place
  held_between more k st h =
      held_kept (λ (x : State). Between st.place x.place) (λ x i p. let a = step_advances x i in record { from = omega (arith, a.kept); within = a.within }) more k st h
      (record { from = omega arith; within = h })

  -- a higher count of components is held no earlier
  pub held_rises : (more k : ℕ) (st : State) → st.place ≤ length s → (held judge more s k st).place ≤ (held judge more s (k + 1) st).place
  unfolding held
  held_rises zero k st h = omega arith
  held_rises (suc more) k st h =
      held_cases judge more s st k (λ (x : State). x.place ≤ (held judge (suc more) s (k + 1) st).place) (held_between (suc more) (k + 1) st h).from
      (λ g l. let a = step_advances st h in
      rw (held_on judge more s st (k + 1) g (omega arith)) (held_rises more k (step judge s st) a.within))

  -- with as many components as the walk has at its end, or more, its last state is held
  pub held_last : (more k : ℕ) (st : State) → st.place ≤ length s → (walk judge more s st).count ≤ k → held judge more s k st ≡ walk judge more s st
  unfolding held walk
  held_last zero k st h l = refl
  held_last (suc more) k st h l =
      either st.going
      (λ g. let next = step judge s st in
      let i = (step_advances st h).within in
      let e = walk_on judge more s st g in
      let m : (walk judge more s next).count ≤ k = rw e at l in
      held_on judge more s st k g (omega (arith, walk_counts more next i)) ∙ (held_last more k next i m ∙ sym e))
      (λ g. held_stopped judge (suc more) s k st g ∙ sym (walk_stopped judge (suc more) s st g))

  -- with fewer, as many are held as were asked for
  pub held_count : (more k : ℕ) (st : State) → st.place ≤ length s → st.count ≤ k → k ≤ (walk judge more s st).count → (held judge more s k st).count ≡ k
  unfolding held walk
  held_count zero k st h l m = omega arith
  held_count (suc more) k st h l m =
      either st.going
      (λ g. let next = step judge s st in
      let a = step_advances st h in
      let n : k ≤ (walk judge more s next).count = rw (walk_on judge more s st g) at m in
      either (leb next.count k)
      (λ b. let low = leb-true next.count k b in ap count (held_on judge more s st k g low) ∙ held_count more k next a.within low n)
      (λ b. let high = leb-false next.count k b in ap count (held_here judge more s st k g high) ∙ omega (arith, a.singly)))
      (λ g. ap count (held_stopped judge (suc more) s k st g) ∙ omega (arith, ap count (walk_stopped judge (suc more) s st g)))
    where
      count : State → ℕ
      count x = x.count

-- one step, as the code takes it
pub room_for : (s : List ℕ) (p : ℕ) (r : Record) → p ≤ length s → length s ≤ 65_536 → r ≡ record_of (take (length s - p) (drop p s)) → p + size_of r ≤ 65_536
room_for s p r h n e = let g : p + size_of r ≤ length s = rw (e, rest_is) (room_of s p h) in omega arith

pub stepped : (judge : Judging) (s : List ℕ) (st next : State) (r : Record) → r ≡ record_of (take (length s - st.place) (drop st.place s)) → next ≡ judge st r → next ≡ step judge s st
unfolding step
stepped judge s st next r e f = f ∙ ap (judge st) (e ∙ ap record_of (rest_is s st.place))
