-- The three kinds of slot: not supplied, supplied with none waiting, and supplied with a job to serve.
use Prim.Native.Nat.{ℕ, ◌-◌, ◌≤◌, ◌<◌}
use mathlib.Core.Path.{◌≡◌, sym}
use mathlib.Core.List.{List}
use lib.ListN.{length, get_or, set}
use lib.Seq.{set_out}
use borrow.Author.Tests.{eq-eqb, ne_eqb, lt-ltb, le-ltb}
use Rattle.budget.specs.declared.task.Task.{Task}
use Rattle.run.specs.Job.{Job}
use Rattle.run.specs.Order.{next}
use Rattle.run.specs.Run.{serve, slot_by}
use Rattle.run.specs.inner.Scan.{Slotted}
use Rattle.run.specs.Walk.{served_in, idle_in}

module _ (ks : List Task) (js : List Job) (n b : ℕ) (left : List ℕ) where
  pub not_supplied : b ≡ 0 → Slotted ks js n b left left 0 0
  unfolding slot_by served_in idle_in
  not_supplied e = record { leaves = rw (eq-eqb b 0 e); serves = rw (eq-eqb b 0 e); idles = rw (eq-eqb b 0 e) }

  module _ (p : ℕ) (supplied : b ≡ 0 → ⊥) (chosen : p ≡ next ks n js left) (same : length js ≡ length left) where
    pub none_waits : length left ≤ p → Slotted ks js n b left left 0 1
    unfolding slot_by serve served_in idle_in
    none_waits h =
        record {
          leaves = rw (ne_eqb b 0 supplied, ← chosen) (sym (set_out left p _ h));
          serves = rw (ne_eqb b 0 supplied, ← chosen, same, le-ltb p (length left) h);
          idles = rw (ne_eqb b 0 supplied, ← chosen, same, le-ltb p (length left) h);
        }

    pub one_served : p < length left → Slotted ks js n b left (set left p (get_or left p 0 - 1)) 1 0
    unfolding slot_by serve served_in idle_in
    one_served h =
        record {
          leaves = rw (ne_eqb b 0 supplied, ← chosen);
          serves = rw (ne_eqb b 0 supplied, ← chosen, same, lt-ltb p (length left) h);
          idles = rw (ne_eqb b 0 supplied, ← chosen, same, lt-ltb p (length left) h);
        }
