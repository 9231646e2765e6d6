-- The columns of the jobs by place: the job at a place has the numbers that stand there.
use Prim.Native.Nat.{ℕ, zero, suc, ◌<◌}
use mathlib.Core.Path.{◌≡◌, refl, ap}
use mathlib.Core.List.{List, [], ◌∷◌, map}
use lib.IntN.{ℤ, pos}
use lib.ListN.{length, get_or}
use native.Mathlib.Nat.{le_of_suc-le-suc, suc_inj}
use native.Mathlib.Omega.{arith}
use Rattle.run.specs.declared.jobs.Jobs.{Jobs}
use Rattle.run.specs.inner.Columns.{OneLength, jobs_in}
use Rattle.run.specs.Job.{Job, no_job}
use Rattle.run.specs.Walk.{jobs_of}

-- the numbers at place i
abbrev row_of : List ℕ → List ℤ → List ℕ → List ℕ → ℕ → Job
row_of ts rs ready ws i = record { task = get_or ts i 0; release = get_or rs i (pos 0); ready = get_or ready i 0; work = get_or ws i 0 }

-- lists of one length
pub record Even (ts : List ℕ) (rs : List ℤ) (ready ws : List ℕ) : Type 0 where
  pub count : length (jobs_of ts rs ready ws) ≡ length ts
  pub at : (i : ℕ) → i < length ts → get_or (jobs_of ts rs ready ws) i no_job ≡ row_of ts rs ready ws i
  pub works : map (λ j. j.work) (jobs_of ts rs ready ws) ≡ ws

pub even : (ts : List ℕ) (rs : List ℤ) (ready ws : List ℕ) → length rs ≡ length ts → length ready ≡ length ts → length ws ≡ length ts → Even ts rs ready ws
unfolding jobs_of
even [] rs ready [] e f g = record { count = refl; at = λ i h. absurd (omega arith); works = refl }
even [] rs ready (w ∷ ws) e f g = absurd (omega (arith, g))
even (t ∷ ts) [] ready ws e f g = absurd (omega (arith, e))
even (t ∷ ts) (r ∷ rs) [] ws e f g = absurd (omega (arith, f))
even (t ∷ ts) (r ∷ rs) (a ∷ ready) [] e f g = absurd (omega (arith, g))
even (t ∷ ts) (r ∷ rs) (a ∷ ready) (w ∷ ws) e f g =
    let l = even ts rs ready ws (suc_inj e) (suc_inj f) (suc_inj g) in
    record { count = ap suc l.count; at = at l; works = ap (λ (xs : List ℕ). w ∷ xs) l.works }
  where
    at : Even ts rs ready ws → (i : ℕ) → i < suc (length ts) → get_or (jobs_of (t ∷ ts) (r ∷ rs) (a ∷ ready) (w ∷ ws)) i no_job ≡ row_of (t ∷ ts) (r ∷ rs) (a ∷ ready) (w ∷ ws) i
    at l zero h = refl
    at l (suc i) h = l.at i (le_of_suc-le-suc h)

-- the columns of a run that are of one length
abbrev pub row : Jobs → ℕ → Job
row jobs i = record { task = get_or jobs.tasks.now i 0; release = get_or jobs.releases.now i (pos 0); ready = get_or jobs.ready.now i 0; work = get_or jobs.works.now i 0 }

module _ (jobs : Jobs) (e : OneLength jobs) where
  all : Even jobs.tasks.now jobs.releases.now jobs.ready.now jobs.works.now
  all = even jobs.tasks.now jobs.releases.now jobs.ready.now jobs.works.now e.releases e.ready e.works

  pub count : length (jobs_in jobs) ≡ length jobs.tasks.now
  count = all.count

  pub at : (i : ℕ) → i < length jobs.tasks.now → get_or (jobs_in jobs) i no_job ≡ row jobs i
  at i h = all.at i h

  pub works : map (λ j. j.work) (jobs_in jobs) ≡ jobs.works.now
  works = all.works
