-- A list of jobs as columns of numbers, which the walk's inner functions read.
use Rattle.std.specs.Prelude.{ℕ, ◌^◌, ◌<◌, List, map, ◌≡◌, length}
use Rattle.budget.specs.declared.task.Task.{Task}
use Rattle.run.specs.declared.jobs.Jobs.{Jobs}
use Rattle.run.specs.declared.jobs.Job as source
use Rattle.run.specs.Job.{Job, deadline}
use Rattle.run.specs.Walk.{jobs_of}

-- a job as the code holds it
abbrev pub job_in : source.Job → Job
job_in job = record { task = job.task; release = job.release; ready = job.ready; work = job.work }

-- the jobs of the columns
abbrev pub jobs_in : Jobs → List Job
jobs_in jobs = jobs_of jobs.tasks.now jobs.releases.now jobs.ready.now jobs.works.now

-- the columns are of one length
pub record OneLength (jobs : Jobs) : Type 0 where
  pub releases : length jobs.releases.now ≡ length jobs.tasks.now
  pub ready : length jobs.ready.now ≡ length jobs.tasks.now
  pub works : length jobs.works.now ≡ length jobs.tasks.now

-- the job's task is there, and its deadline lies behind slot 0 and fits its type
pub record Timely (ks : List Task) (j : Job) : Type 0 where
  pub there : j.task < length ks
  pub behind : 0 < deadline ks j
  pub fits : deadline ks j < 2 ^ 31

-- the list is that of the jobs' deadlines
abbrev pub Deadlines : List Task → List Job → List ℕ → Type 0
Deadlines ks js xs = map (deadline ks) js ≡ xs

-- of their works
abbrev pub Works : List Job → List ℕ → Type 0
Works js xs = map (λ j. j.work) js ≡ xs
