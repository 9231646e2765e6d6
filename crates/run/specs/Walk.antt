-- What the walk answers (RULES 9): its refusal, where it stops, the miss there, the units served and idle, and the work left.
use Rattle.std.specs.Prelude.{ℕ, zero, suc, ◌+◌, Bool, true, cond, ◌&&◌, List, [], ◌∷◌, length, get_or, leb, ltb, eqb, ℤ, pos}
use Rattle.std.specs.Int.Signed.{lt_z}
use Rattle.budget.specs.declared.task.Table.{Table}
use Rattle.budget.specs.declared.task.Task.{Task}
use Rattle.budget.specs.Limits.{most_tasks}
use Rattle.budget.specs.Refusal as refusal
use Rattle.budget.specs.Task.{tasks_of, table_refusal}
use Rattle.run.specs.Job.{Job, deadline, legal_arrival}
use Rattle.run.specs.Order.{next}
use Rattle.run.specs.Run.{left_at}
use Rattle.run.specs.Walked.{Miss, None, At, Walked}
use Rattle.trace.specs.Answer.{longest}
use Rattle.trace.specs.Legal.{zeros_and_ones}

-- the most jobs that a walk takes
abbrev pub most_jobs : ℕ
most_jobs = 1_024

-- the jobs, given as the lists of their tasks, releases, readiness slots and works
unfoldable pub jobs_of : List ℕ → List ℤ → List ℕ → List ℕ → List Job
jobs_of [] rs ready ws = []
jobs_of (t ∷ ts) [] ready ws = []
jobs_of (t ∷ ts) (r ∷ rs) [] ws = []
jobs_of (t ∷ ts) (r ∷ rs) (a ∷ ready) [] = []
jobs_of (t ∷ ts) (r ∷ rs) (a ∷ ready) (w ∷ ws) = record { task = t; release = r; ready = a; work = w } ∷ jobs_of ts rs ready ws

-- every release lies before the trace's end; a readiness may lie behind it
unfoldable pub released_before : ℕ → List ℤ → Bool
released_before end [] = true
released_before end (r ∷ rs) = lt_z r (pos end) && released_before end rs

-- the job lists keep the rules of the run: of one length, not too many, a legal arrival, released before the trace ends
unfoldable pub valid_jobs : List Task → List ℕ → List ℤ → List ℕ → List ℕ → ℕ → Bool
valid_jobs ks ts rs ready ws end =
    eqb (length rs) (length ts)
    && (eqb (length ready) (length ts)
    && (eqb (length ws) (length ts)
    && (leb (length ts) most_jobs && (released_before end rs && legal_arrival ks (jobs_of ts rs ready ws)))))

-- a trace that is taken: not too long, and of zeros and ones
unfoldable pub valid_trace : List ℕ → Bool
valid_trace s = leb (length s) longest && zeros_and_ones s

-- the table is judged first (6, 9), then the jobs (12, also for unequal or too long lists), the trace (13) and the room (11) (RULES 13); room is
-- the length of the work-left buffer
unfoldable pub walk_refusal : Table → List ℕ → List ℤ → List ℕ → List ℕ → List ℕ → ℕ → ℕ
walk_refusal table ts rs ready ws s room =
    cond (eqb (table_refusal table) refusal.none)
    (cond (valid_jobs (tasks_of table) ts rs ready ws (length s))
    (cond (valid_trace s)
    (cond (eqb room (length ts)) refusal.none refusal.room)
    refusal.bad_trace)
    refusal.jobs)
    (table_refusal table)

-- a job is late at t: its deadline is t, and it has work left then
unfoldable pub late : List Task → ℕ → Job → ℕ → Bool
late ks t j left = eqb (deadline ks j) t && ltb 0 left

-- the lowest task number of the jobs late at t; 64, which numbers no task, where none is late
unfoldable pub late_task : List Task → ℕ → List Job → List ℕ → ℕ
late_task ks t [] left = most_tasks
late_task ks t (j ∷ js) [] = most_tasks
late_task ks t (j ∷ js) (w ∷ left) =
    let k = late_task ks t js left in
    cond (late ks t j w && ltb j.task k) j.task k

-- a job is late at instant t of the run
unfoldable pub missed : List Task → List Job → List ℕ → ℕ → Bool
missed ks js s t = ltb (late_task ks t js (left_at ks js s t)) most_tasks

-- the first instant from t on at which a job is late, or the instant n later where there is none before it
unfoldable pub stop_from : List Task → List Job → List ℕ → ℕ → ℕ → ℕ
stop_from ks js s t zero = t
stop_from ks js s t (suc n) =
    let later = stop_from ks js s (suc t) n in
    cond (missed ks js s t) t later

-- where the walk stops: the first instant with a late job, or the end of the trace
unfoldable pub stop : List Task → List Job → List ℕ → ℕ
stop ks js s = stop_from ks js s 0 (length s)

-- the miss that is answered, by the lowest late task at instant t
unfoldable pub miss_of : ℕ → ℕ → Miss
miss_of t k = cond (ltb k most_tasks) (At (record { 0 = t }) k) None

-- what slot n with trace byte b gives: one unit served where a job waits, one idle where none does; nothing where it is not supplied
unfoldable pub served_in : List Task → List Job → ℕ → ℕ → List ℕ → ℕ
served_in ks js n b left = cond (eqb b 0) 0 (cond (ltb (next ks n js left) (length js)) 1 0)

unfoldable pub idle_in : List Task → List Job → ℕ → ℕ → List ℕ → ℕ
idle_in ks js n b left = cond (eqb b 0) 0 (cond (ltb (next ks n js left) (length js)) 0 1)

-- the units served, and the units idle, in the slots before instant t
unfoldable pub served_before : List Task → List Job → List ℕ → ℕ → ℕ
served_before ks js s zero = 0
served_before ks js s (suc n) = served_before ks js s n + served_in ks js n (get_or s n 0) (left_at ks js s n)

unfoldable pub idle_before : List Task → List Job → List ℕ → ℕ → ℕ
idle_before ks js s zero = 0
idle_before ks js s (suc n) = idle_before ks js s n + idle_in ks js n (get_or s n 0) (left_at ks js s n)

-- what the walk answers at instant t, where it stops
unfoldable pub walked_to : List Task → List Job → List ℕ → ℕ → Walked
walked_to ks js s t =
    record {
      refusal = refusal.none;
      miss = miss_of t (late_task ks t js (left_at ks js s t));
      served = record { 0 = served_before ks js s t };
      idle = record { 0 = idle_before ks js s t };
    }

-- what stands where the walk is refused: no miss, and zeros (RULES 11)
unfoldable pub refused_walk : ℕ → Walked
refused_walk n = record { refusal = n; miss = None; served = record { 0 = 0 }; idle = record { 0 = 0 } }

-- what the walk answers
unfoldable pub walk_answer : Table → List ℕ → List ℤ → List ℕ → List ℕ → List ℕ → ℕ → Walked
walk_answer table ts rs ready ws s room =
    let n = walk_refusal table ts rs ready ws s room in
    let ks = tasks_of table in
    let js = jobs_of ts rs ready ws in
    let walked = walked_to ks js s (stop ks js s) in
    cond (eqb n refusal.none) walked (refused_walk n)

-- the work-left buffer as the walk leaves it: the work left of each job at the stop; a refusal writes nothing
unfoldable pub left_after : Table → List ℕ → List ℤ → List ℕ → List ℕ → List ℕ → List ℕ → List ℕ
left_after table ts rs ready ws s left =
    let n = walk_refusal table ts rs ready ws s (length left) in
    let ks = tasks_of table in
    let js = jobs_of ts rs ready ws in
    let after = left_at ks js s (stop ks js s) in
    cond (eqb n refusal.none) after left
