-- The run of the rules serves urgent jobs first: with the urgent jobs those due by t, the job with the earliest deadline is urgent if any is.
use Prim.Native.Nat.{ℕ}
use mathlib.Core.List.{List}
use borrow.Author.Tests.{leb-true, le-leb}
use native.Mathlib.Nat.{le_trans}
use Rattle.budget.specs.declared.task.Task.{Task}
use Rattle.run.specs.Job.{Job, deadline}
use Rattle.run.specs.Order.{goes_before}
use Rattle.run.specs.Run.{earliest_deadline}
use Rattle.run.proofs.LeastFirst.{decides, not_before}
use Rattle.run.proofs.Next.{next_waits, next_found, next_first}
use Rattle.promises.specs.inner.Serving.{UrgentFirst, due_by}

pub earliest_first : (ks : List Task) (js : List Job) (t : ℕ) → UrgentFirst (due_by ks t) js (earliest_deadline ks js)
unfolding due_by
earliest_first ks js t =
    let before = goes_before ks in
    record {
      waiting = λ n left l. next_waits before n js left l;
      busy = λ n left q l u w. next_found before n js left q l w;
      first = λ n left q l u w. le-leb _ _ (le_trans (not_before (deadline ks) _ _ (next_first before n (decides (deadline ks)) js left q l w)).keys (leb-true _ _ u));
    }
