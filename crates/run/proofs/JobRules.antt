-- The rules of the run for a list of jobs, as tests of its places: what holds from place k on is what holds at each of the places from k on.
use Prim.Native.Nat.{ℕ, zero, suc, ◌+◌}
use native.Mathlib.Numerals.{add-one}
use native.Mathlib.Omega.{arith}
use mathlib.Core.Path.{◌≡◌, refl, sym, ap, ◌∙◌}
use mathlib.Core.Bool.{Bool, true, false, not, ◌&&◌, ◌||◌}
use mathlib.Core.List.{List}
use lib.Dec.{eqb}
use lib.IntN.{pos, ◌+ℤ◌}
use lib.ListN.{length, get_or, drop, drop_of_length-le}
use lib.Seq.{drop-cons}
use lib.Signed.{le_z}
use Rattle.std.specs.List.{list_all, range_with_len}
use Rattle.budget.specs.declared.task.Task.{Task}
use Rattle.budget.specs.Task.{T}
use Rattle.run.specs.Job.{Job, task_of, in_order, apart, valid_job, before_all, legal_arrival, no_job}

and_assoc : (a b c : Bool) → (a && (b && c)) ≡ ((a && b) && c)
and_assoc true b c = refl
and_assoc false b c = refl

module _ (ks : List Task) (js : List Job) where
  -- the test of the job at place i behind job a, and that of the job at place i itself
  abbrev pub follows : Job → ℕ → Bool
  follows a i =
      in_order a (get_or js i no_job)
      && (not (eqb a.task (get_or js i no_job).task) || le_z (a.release +ℤ pos (T (task_of ks a))) (get_or js i no_job).release)

  abbrev pub is_legal : ℕ → Bool
  is_legal i = valid_job ks (get_or js i no_job) && before_all ks (get_or js i no_job) (drop (suc i) js)

  pub before_each : (a : Job) (k n : ℕ) → k + n ≡ length js → list_all (follows a) (range_with_len k n) ≡ before_all ks a (drop k js)
  unfolding before_all apart
  before_each a k zero e = sym (ap (before_all ks a) (drop_of_length-le js {i = k} (omega arith)))
  before_each a k (suc n) e =
      ap (λ t. follows a k && t) (before_each a (k + 1) n (omega arith)) ∙ rw (add-one k, drop-cons js k no_job (omega arith))

  pub legal_each : (k n : ℕ) → k + n ≡ length js → list_all is_legal (range_with_len k n) ≡ legal_arrival ks (drop k js)
  unfolding legal_arrival
  legal_each k zero e = sym (ap (legal_arrival ks) (drop_of_length-le js {i = k} (omega arith)))
  legal_each k (suc n) e =
      ap (λ t. is_legal k && t) (legal_each (k + 1) n (omega arith))
      ∙ rw (add-one k, drop-cons js k no_job (omega arith)) (sym (and_assoc (valid_job ks (get_or js k no_job)) _ _))
