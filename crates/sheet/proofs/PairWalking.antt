-- The loop over the pairs follows the walk of the definition: what is still to come from here gives the answer from the start, and each turn that
-- goes on moves on within the bytes.
use Prim.Native.Nat.{ℕ, zero, suc, ◌-◌, ◌≤◌, ◌<◌}
use mathlib.Core.Path.{◌≡◌, refl, sym, ap, ◌∙◌}
use mathlib.Core.Bool.{true}
use mathlib.Core.List.{List, []}
use native.Mathlib.Omega.{arith}
use lib.ListN.{length}
use Rattle.std.specs.Prelude.{Some, None, Ok, Err}
use Rattle.budget.specs.declared.refusal.Refusal.{Refusal}
use Rattle.budget.specs.Refusal.{number_of}
use Rattle.sheet.specs.declared.pairs.Course.{Course}
use Rattle.sheet.specs.declared.walk.Noted.{Noted}
use Rattle.sheet.specs.Register.{Entry}
use Rattle.sheet.specs.Pairs.{Pairing, stopped, pair_step, pair_walk, paired_from}
use Rattle.sheet.specs.inner.PairCourse.{entries_in, Kept, Turns, Walkable, Ends}
use Rattle.sheet.proofs.PairLaws.{step_moves, pair_walk_on, pair_walk_stopped}
use Rattle.sheet.proofs.CourseLaws.{kept_first}

module _ (s : List ℕ) (es : List Entry) (start : ℕ) where
  -- where the loop stands after some steps
  pub record PairWalking (cs : List Noted) (c : Course) : Type 0 where
    pub st : Pairing
    pub more : ℕ
    pub state : paired_from es s start ≡ pair_walk es more s st
    pub kept : Kept cs es c st
    pub enough : length s - st.place < more
    pub place : st.place ≤ length s

  module _ (cs : List Noted) (c : Course) (w : PairWalking cs c) where
    pub here : c.place ≤ length s
    here = rw w.kept.place w.place

    -- one step more
    stepping : (more : ℕ) → w.more ≡ suc more → paired_from es s start ≡ pair_walk es more s (pair_step es s w.st)
    stepping more m = w.state ∙ (ap (λ (n : ℕ). pair_walk es n s w.st) m ∙ pair_walk_on es s more w.st w.kept.going)

    module _ (after : List Noted) where
      turned : (next : Course) → Kept after es next (pair_step es s w.st) → (more : ℕ) → w.more ≡ more → PairWalking after next
      turned next k zero m = let l = w.enough in absurd (omega arith)
      turned next k (suc more) m =
          let i = step_moves es s w.st w.place in
          let l = w.enough in
          let n = i.goes k.going in
          let j = i.within in
          record { st = pair_step es s w.st; more = more; state = stepping more m; kept = k; enough = omega arith; place = i.within }

      module _ (next : Course) (f : Turns cs after c (Ok (Some next)) (λ (e : List Entry) (x : Pairing). pair_step e s x)) where
        kept_next : Kept after es next (pair_step es s w.st)
        kept_next = f es w.st w.kept

        pub again : PairWalking after next
        again = turned next kept_next w.more refl

        pub falls : length s - next.place < length s - c.place
        falls =
            let i = step_moves es s w.st w.place in
            let n = i.goes kept_next.going in
            let j = i.within in
            let p = kept_next.place in
            let q = w.kept.place in
            omega arith

      -- where the walk stops
      stopping : (n : ℕ) → pair_step es s w.st ≡ stopped n w.st → (more : ℕ) → w.more ≡ more → paired_from es s start ≡ stopped n w.st
      unfolding stopped
      stopping n e zero m = let l = w.enough in absurd (omega arith)
      stopping n e (suc more) m = stepping more m ∙ (ap (pair_walk es more s) e ∙ pair_walk_stopped es s more (stopped n w.st) refl)

      pub over : Turns cs after c (Ok None) (λ (e : List Entry) (x : Pairing). pair_step e s x) → Ends (Ok tt) (paired_from es s start)
      unfolding stopped
      over f = ap (λ (x : Pairing). x.refusal) (stopping 0 (f es w.st w.kept) w.more refl)

      pub refused_here : (r : Refusal) → Turns cs after c (Err r) (λ (e : List Entry) (x : Pairing). pair_step e s x)
          → Ends (Err (record { refusal = r; place = c.place })) (paired_from es s start)
      unfolding stopped
      refused_here r f =
          let e = stopping (number_of r) (f es w.st w.kept) w.more refl in
          (ap (λ (x : Pairing). x.refusal) e, ap (λ (x : Pairing). x.place) e ∙ sym w.kept.place)

pub begun : (s : List ℕ) (cs : List Noted) (start : ℕ) → Walkable s cs start → PairWalking s (entries_in cs) start cs (record { place = start; lowest = 0 })
unfolding paired_from
begun s cs start w =
    record {
      st = record { going = true; refusal = 0; place = start; pairs = [] };
      more = suc (length s);
      state = refl;
      kept = kept_first cs start w.numbered;
      enough = omega arith;
      place = w.within;
    }
