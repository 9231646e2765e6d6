-- The arrival that shows a short answer right: each task has a job of its full work that becomes ready, as late as it may, in slot 0 and then
-- every T slots. A job is released J slots before, so that the first ones may be released before slot 0.
use Rattle.std.specs.Prelude.{ℕ, zero, suc, ◌+◌, ◌%◌, max, Bool, false, cond, List, [], ◌∷◌, ◌++◌, eqb, ℤ, pos, negsuc, ◌+ℤ◌}
use Rattle.std.proofs.Math.IntN.{sub_ℕ}
use Rattle.budget.specs.declared.task.Task.{Task}
use Rattle.budget.specs.Task.{T, C, J}
use Rattle.run.specs.Job.{Job, from_zero}

-- slot 0, and every p slots from there on
abbrev pub every_from_zero : ℕ → ℤ → Bool
every_from_zero p (pos n) = eqb (n % p) 0
every_from_zero p (negsuc n) = false

-- the jobs that are released in slot r, by rising task number, of tasks that are numbered from i on
unfoldable pub released_at : List Task → ℕ → ℤ → List Job
released_at [] i r = []
released_at (k ∷ ks) i r =
    let later = released_at ks (suc i) r in
    let latest = r +ℤ pos (J k) in
    cond (every_from_zero (T k) latest) (record { task = i; release = r; ready = from_zero latest; work = C k } ∷ later) later

-- the jobs of n slots from slot −early on, sorted by release and within a slot by task
unfoldable pub released_from : ℕ → List Task → ℕ → List Job
released_from early ks zero = []
released_from early ks (suc n) = released_from early ks n ++ released_at ks 0 (sub_ℕ n early)

-- the largest lateness of some tasks: no job of theirs is released earlier before slot 0
unfoldable pub most_late : List Task → ℕ
most_late [] = 0
most_late (k ∷ ks) = max (J k) (most_late ks)

-- all jobs that are released before slot t
unfoldable pub synchronous : List Task → ℕ → List Job
synchronous ks t = released_from (most_late ks) ks (most_late ks + t)
