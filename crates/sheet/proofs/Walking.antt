-- The loop of the walk: behind each step the walk still to come is the same, and what was passed is noted.
use Prim.Native.Nat.{ℕ, zero, suc, ◌-◌, ◌≤◌, ◌<◌}
use mathlib.Core.Path.{◌≡◌, refl, sym, ap, ap₂, ◌∙◌}
use mathlib.Core.Bool.{false}
use mathlib.Core.List.{List}
use native.Mathlib.Omega.{arith}
use lib.ListN.{length, set, replicate}
use Rattle.std.specs.Prelude.{Some, None, Ok, Err}
use Rattle.budget.specs.declared.refusal.Refusal.{Refusal}
use Rattle.budget.specs.Refusal.{number_of}
use Rattle.sheet.specs.declared.fault.Fault.{Fault}
use Rattle.sheet.specs.declared.judging.State as judging
use Rattle.sheet.specs.declared.walk.Noted.{Noted}
use Rattle.sheet.specs.Judging.{State, most_bytes, refuse, ended, opened, judged}
use Rattle.sheet.specs.Walk.{step, walk, held, Onward}
use Rattle.sheet.specs.Register.{walked, held_of}
use Rattle.sheet.specs.Contents.{edges_of}
use Rattle.sheet.specs.Answered.{state_in, opened_in, step_in}
use Rattle.sheet.specs.inner.Noted.{noted_of, Found, Refused}
use Rattle.sheet.proofs.JudgingLaws.{orderly, Begins, opens}
use Rattle.sheet.proofs.Noting.{Noting, noting_begun, noting_again, noting_held, noting_over}
use Rattle.sheet.proofs.WalkLaws.{walk_on, walk_stopped, held_on, held_here, step_advances}

-- nothing noted
abbrev pub unnoted : Noted
unnoted = record { lowest = 0; tasks = 0 }

abbrev places : State → ℕ
places st = st.place

-- where the loop stands after some steps: what is still to come gives the answer
pub record Walking (s edges : List ℕ) (components : List Noted) (st : judging.State) : Type 0 where
  pub more : ℕ
  pub state : walked s ≡ walk judged more s (state_in st)
  pub ahead : (k : ℕ) → st.count ≤ k → held_of s k ≡ held judged more s k (state_in st)
  pub edged : Noting places 0 s edges (state_in st)
  pub noted : Noting noted_of unnoted s components (state_in st)
  pub enough : length s - st.place < more
  pub place : st.place ≤ length s
  pub few : st.count ≤ 256
  pub short : length s ≤ most_bytes

module _ (s : List ℕ) where
  pub begun : (st : judging.State) → opened_in (Ok st) ≡ opened (length s) → Walking s (replicate 257 0) (replicate 257 unnoted) st
  unfolding walked held_of
  begun st e =
      let b : Begins (length s) (state_in st) = rw (← e) at (opens (length s)) in
      record {
        more = suc (length s);
        state = rw e;
        ahead = λ k h. rw e;
        edged = noting_begun places 0 s (state_in st) b.count b.place;
        noted = noting_begun noted_of unnoted s (state_in st) b.count (ap₂ (λ (n m : ℕ). record { lowest = n; tasks = m }) b.lowest b.tasks);
        enough = omega (arith, b.place);
        place = omega (arith, b.place);
        few = omega (arith, b.count);
        short = b.short refl;
      }

  pub unopened : (f : Fault) → opened_in (Err f) ≡ opened (length s) → Refused s f
  unfolding walked
  unopened f e =
      let stays = walk_stopped judged (suc (length s)) s (opened_in (Err f)) refl in
      record { number = rw (← e) (ap (λ (x : State). x.refusal) stays); place = rw (← e) (ap (λ (x : State). x.place) stays) }

  -- behind a step
  module _ (edges : List ℕ) (components : List Noted) (st : judging.State) (w : Walking s edges components st) where
    stepping : (more : ℕ) → w.more ≡ more → walked s ≡ walk judged more s (state_in st)
    stepping more e = w.state ∙ ap (λ (n : ℕ). walk judged n s (state_in st)) e

    module _ (next : judging.State) (e : step_in st (Ok (Some next)) ≡ step judged s (state_in st)) where
      onward : Onward (length s) (state_in st) (state_in next)
      onward = rw e (step_advances judged orderly s (state_in st) w.place)

      turned : (more : ℕ) → w.more ≡ more → Walking s (set edges next.count next.place) (set components next.count (noted_of (state_in next))) next
      turned zero m = let l = w.enough in absurd (omega arith)
      turned (suc more) m =
          record {
            more = more;
            state = stepping (suc more) m ∙ (walk_on judged more s (state_in st) refl ∙ ap (walk judged more s) (sym e));
            ahead = λ k l. from k (omega (arith, onward.counts)) ∙ (held_on judged more s (state_in st) k refl (rw (← e) l) ∙ ap (held judged more s k) (sym e));
            edged = noting_again places 0 s edges (state_in st) w.edged (state_in next) (onward.few w.few) onward.counts onward.singly here;
            noted = noting_again noted_of unnoted s components (state_in st) w.noted (state_in next) (onward.few w.few) onward.counts onward.singly here;
            enough = let l = w.enough in let g = onward.goes refl in let i = onward.within in omega arith;
            place = onward.within;
            few = onward.few w.few;
            short = w.short;
          }
        where
          from : (k : ℕ) → st.count ≤ k → held_of s k ≡ held judged (suc more) s k (state_in st)
          from k l = w.ahead k l ∙ ap (λ (n : ℕ). held judged n s k (state_in st)) m

          -- one component more: the state before is the last one held with its count
          here : st.count < next.count → held_of s st.count ≡ state_in st
          here l = from st.count (omega arith) ∙ held_here judged more s (state_in st) st.count refl (rw (← e) l)

      pub again : Walking s (set edges next.count next.place) (set components next.count (noted_of (state_in next))) next
      again = turned w.more refl

      pub counted : next.count ≤ 256
      counted = onward.few w.few

      pub falls : length s - next.place < length s - st.place
      falls = let g = onward.goes refl in let i = onward.within in omega arith

    -- where the walk stops
    stopping : (last : State) → last ≡ step judged s (state_in st) → last.going ≡ false → (more : ℕ) → w.more ≡ more → walked s ≡ last
    stopping last e g zero m = let l = w.enough in absurd (omega arith)
    stopping last e g (suc more) m =
        stepping (suc more) m ∙ (walk_on judged more s (state_in st) refl ∙ (ap (walk judged more s) (sym e) ∙ walk_stopped judged more s last g))

    pub over : step_in st (Ok None) ≡ step judged s (state_in st) → Found s (record { state = st; edges = edges; components = components })
    unfolding ended refuse edges_of
    over e =
        let last = stopping (ended (state_in st)) e refl w.more refl in
        record {
          ends = last;
          edges = noting_over places s edges (state_in st) w.edged last refl;
          noted = noting_held noted_of unnoted s components (state_in st) w.noted last refl;
          long = w.noted.places;
        }

    pub refused_here : (r : Refusal) → step_in st (Err r) ≡ step judged s (state_in st) → Refused s (record { refusal = r; place = st.place })
    unfolding refuse
    refused_here r e =
        let last = stopping (refuse (number_of r) (state_in st)) e refl w.more refl in
        record { number = ap (λ (x : State). x.refusal) last; place = ap (λ (x : State). x.place) last }
