-- The walk's loop at instant t: the work left and the units are the run's, and the stop is where the walk from t on stops.
use Prim.Native.Nat.{ℕ, zero, suc, ◌+◌, ◌-◌, ◌<◌}
use native.Mathlib.Nat.{sub-zero, sub_self}
use native.Mathlib.Numerals.{add-one}
use native.Mathlib.Omega.{arith}
use mathlib.Core.Path.{◌≡◌, refl, sym, ap, ◌∙◌}
use mathlib.Core.Bool.{Bool, true, false, cond}
use mathlib.Core.List.{List}
use lib.ListN.{length, get_or}
use lib.Dec.{ltb}
use Rattle.std.specs.Prelude.{Option, Some}
use Rattle.std.specs.Prelude as std
use Rattle.std.specs.Option.{is_some}
use Rattle.budget.specs.declared.task.Task.{Task}
use Rattle.budget.specs.Limits.{most_tasks}
use Rattle.run.specs.declared.walk.Miss as source
use Rattle.run.specs.inner.Columns.{Works}
use Rattle.run.specs.Job.{Job}
use Rattle.run.specs.Run.{left_at, left_by}
use Rattle.run.specs.inner.Scan.{Slotted}
use Rattle.run.specs.Walked.{Miss, None, At, Walked, miss_in}
use Rattle.run.specs.Walk.{late_task, missed, miss_of, stop_from, stop, served_before, idle_before, walked_to}

-- the miss that is told at t tells whether a job is late then
told : (o : Option source.Miss) (t k : ℕ) (b : Bool) → ltb k most_tasks ≡ b → miss_in o ≡ cond b (At (record { 0 = t }) k) None → is_some o ≡ b
told (Some m) t k true e q = refl
told (Some m) t k false e q = absurd (cc)
told std.None t k true e q = absurd (cc)
told std.None t k false e q = refl

pub late_if_told : (o : Option source.Miss) (t k : ℕ) → miss_in o ≡ miss_of t k → ltb k most_tasks ≡ is_some o
unfolding miss_of
late_if_told o t k q = sym (told o t k (ltb k most_tasks) refl q)

pub record Walking (ks : List Task) (js : List Job) (s : List ℕ) (t : ℕ) (left : List ℕ) (served idle : ℕ) : Type 0 where
  pub leaves : left ≡ left_at ks js s t
  pub serves : served ≡ served_before ks js s t
  pub idles : idle ≡ idle_before ks js s t
  pub stops : stop ks js s ≡ stop_from ks js s t (length s - t)

module _ (ks : List Task) (js : List Job) (s : List ℕ) where
  pub begin : (left : List ℕ) → Works js left → Walking ks js s 0 left 0 0
  unfolding left_by served_before idle_before stop
  begin left e = record { leaves = sym e; serves = refl; idles = refl; stops = ap (stop_from ks js s 0) (sym (sub-zero (length s))) }

  -- whether a job is late at t, by the work left that the walk has
  missed_at : (t : ℕ) (left : List ℕ) (b : Bool) → left ≡ left_at ks js s t → ltb (late_task ks t js left) most_tasks ≡ b → missed ks js s t ≡ b
  unfolding missed
  missed_at t left b e h = rw (← e) h

  stop_later : (t n m : ℕ) → missed ks js s t ≡ false → n ≡ suc m → stop_from ks js s t n ≡ stop_from ks js s (t + 1) m
  unfolding stop_from
  stop_later t n m e h = rw (h, e, add-one)

  stop_here : (t n : ℕ) → missed ks js s t ≡ true → stop_from ks js s t n ≡ t
  unfolding stop_from
  stop_here t zero e = refl
  stop_here t (suc n) e = rw e

  module _ (t : ℕ) (left : List ℕ) (served idle : ℕ) (w : Walking ks js s t left served idle) where
    pub step : (after : List ℕ) (a b : ℕ) → t < length s
        → ltb (late_task ks t js left) most_tasks ≡ false → Slotted ks js t (get_or s t 0) left after a b → Walking ks js s (t + 1) after (served + a) (idle + b)
    unfolding left_by served_before idle_before
    step after a b h fine sl =
        let here = w.leaves in
        record {
          leaves = sl.leaves ∙ rw (add-one t, here);
          serves = rw (add-one t, ← here, ← w.serves, ← sl.serves);
          idles = rw (add-one t, ← here, ← w.idles, ← sl.idles);
          stops = w.stops ∙ stop_later t (length s - t) (length s - (t + 1)) (missed_at t left false here fine) (omega arith);
        }

    -- the walk stops at t: a job is late then, or the trace ends
    pub stop_late : ltb (late_task ks t js left) most_tasks ≡ true → stop ks js s ≡ t
    stop_late h = w.stops ∙ stop_here t (length s - t) (missed_at t left true w.leaves h)

    pub stop_end : t ≡ length s → stop ks js s ≡ t
    unfolding stop_from
    stop_end e = w.stops ∙ ap (λ (n : ℕ). stop_from ks js s t (n - t)) (sym e) ∙ ap (stop_from ks js s t) (sub_self t)

    pub answers : stop ks js s ≡ t → (miss : Miss) → miss ≡ miss_of t (late_task ks t js left)
        → (◌≡◌ {A = Walked} (record { refusal = 0; miss = miss; served = record { 0 = served }; idle = record { 0 = idle } }) (walked_to ks js s (stop ks js s)))
        × (left ≡ left_at ks js s (stop ks js s))
    unfolding walked_to
    answers e miss is = (rw (is, e, w.leaves, w.serves, w.idles), rw e w.leaves)
