-- The judging of a sheet's records is orderly: it goes on only behind a record, and only a component record counts a component more.
use Prim.Native.Nat.{ℕ, ◌+◌, ◌≤◌, ◌<◌}
use mathlib.Core.Path.{◌≡◌, refl}
use mathlib.Core.Bool.{Bool, true, false, ◌&&◌, false≢true}
use native.Mathlib.Omega.{arith}
use lib.Dec.{leb, ltb, eqb}
use borrow.Author.Tests.{ne_eqb, leb-false, ltb-false, eqb-true, eqb-false}
use Rattle.budget.specs.declared.component.Capacity.{Capacity}
use Rattle.budget.specs.declared.component.Capacity.TheVariants.{Stated, Asked}
use Rattle.budget.specs.declared.refusal.Refusal.{Refusal}
use Rattle.budget.specs.declared.task.Task.{Task}
use Rattle.budget.specs.Component.{units_of}
use Rattle.budget.specs.Interface.{interface, interface_refusal}
use Rattle.budget.specs.Refusal.{number_of}
use Rattle.budget.specs.Task.{J, task_refusal}
use Rattle.budget.proofs.Refusals.{some}
use Rattle.record.specs.declared.layout.Head.{Head}
use Rattle.record.specs.Record.{Record, ComponentRecord, TaskRecord, PairRecord, EndRecord, NoRecord}
use Rattle.record.specs.Layout.{head_size, task_size, size_of}
use Rattle.record.proofs.Cases.{cases}
use Rattle.sheet.specs.Judging.{State, most_bytes, start, refuse, ended, opened, head_refusal, form_refusal, standing_refusal, record_refusal, after_head, after_task, after, judged}
use Rattle.sheet.specs.Walk.{Onward, Orderly}

-- a component record is not empty
pub some_head : (c : Capacity) → 14 ≤ head_size c
unfolding head_size
some_head (Stated u) = omega arith
some_head Asked = omega arith

-- nor is a task record
pub some_task : (stated : Bool) → 16 ≤ task_size stated
unfolding task_size
some_task true = omega arith
some_task false = omega arith

-- what is known of a record that is taken
pub record HeadTaken (st : State) (h : Head) : Type 0 where
  pub few : st.count < 256
  pub rises : st.lowest ≤ h.number
  pub ranges : interface_refusal (interface h.period.0 (units_of h.capacity) h.deadline.0) ≡ 0

pub head_taken : (st : State) (h : Head) → head_refusal st h ≡ 0 → HeadTaken st h
unfolding head_refusal
head_taken st h =
    cases Taken (leb 256 st.count) (λ p e. absurd (omega (arith, e)))
    (λ p. cases Taken (ltb h.number st.lowest) (λ q e. absurd (omega (arith, e)))
    (λ q e. record { few = leb-false 256 st.count p; rises = ltb-false h.number st.lowest q; ranges = e }))
  where
    Taken : ℕ → Type 0
    Taken n = n ≡ 0 → HeadTaken st h

pub record TaskTaken (st : State) (k : Task) (stated : Bool) : Type 0 where
  pub some : st.count ≡ 0 → ⊥
  pub few : st.tasks < 64
  pub ranges : task_refusal k ≡ 0
  pub late : stated ≡ true → 0 < J k

pub task_taken : (st : State) (k : Task) (stated : Bool) → standing_refusal st k stated ≡ 0 → TaskTaken st k stated
unfolding standing_refusal form_refusal
task_taken st k stated =
    cases Taken (eqb st.count 0) (λ p e. absurd (omega (arith, e)))
    (λ p. cases Taken (leb 64 st.tasks) (λ q e. absurd (omega (arith, e)))
    (λ q. cases Taken (stated && eqb (J k) 0) (λ l e. absurd (omega (arith, e)))
    (λ l e. record { some = eqb-false st.count 0 p; few = leb-false 64 st.tasks q; ranges = e; late = λ s. above s l })))
  where
    Taken : ℕ → Type 0
    Taken n = n ≡ 0 → TaskTaken st k stated

    above : stated ≡ true → (stated && eqb (J k) 0) ≡ false → 0 < J k
    above s l = let z = eqb-false (J k) 0 (rw s at l) in omega arith

-- one record, as the code judges it
module _ (st : State) (r : Record) where
  pub judged_refused : (n : Refusal) → number_of n ≡ record_refusal st r → refuse (number_of n) st ≡ judged st r
  unfolding judged
  judged_refused n e = rw (← e, ne_eqb _ 0 (some n))

  pub judged_taken : 0 ≡ record_refusal st r → after st r ≡ judged st r
  unfolding judged
  judged_taken e = rw (← e)

-- ---- the judging is orderly

refused : (st : State) (n k : ℕ) → st.place ≤ n → Onward n st (refuse k st)
unfolding refuse
refused st n k h =
    record { kept = omega arith; within = h; goes = λ e. absurd (false≢true e); counts = omega arith; singly = omega arith; few = λ l. l }

behind : (st : State) (r : Record) (left : ℕ) → size_of r ≤ left → record_refusal st r ≡ 0 → Onward (st.place + left) st (after st r)
unfolding record_refusal after ended size_of after_head after_task
behind st (ComponentRecord h) left w e =
    let some = some_head h.capacity in
    let t = head_taken st h e in
    record { kept = omega arith; within = omega arith; goes = λ g. omega arith; counts = omega arith; singly = omega arith; few = λ l. omega (arith, t.few) }
behind st (TaskRecord stated k) left w e =
    let some = some_task stated in
    record { kept = omega arith; within = omega arith; goes = λ g. omega arith; counts = omega arith; singly = omega arith; few = λ l. l }
behind st (PairRecord p) left w e = refused st (st.place + left) 0 (omega arith)
behind st (EndRecord count) left w e = refused st (st.place + left) 0 (omega arith)
behind st (NoRecord n) left w e = refused st (st.place + left) 0 (omega arith)

pub orderly : Orderly judged
unfolding judged
orderly st r left w =
    let n : ℕ = record_refusal st r in
    cases (Onward (st.place + left) st) (eqb n 0) (λ p. behind st r left w (eqb-true n 0 p)) (λ p. refused st (st.place + left) n (omega arith))

-- before the first record: a walk that goes on has a sheet that is not too long
pub record Begins (n : ℕ) (st : State) : Type 0 where
  pub place : st.place ≡ 0
  pub count : st.count ≡ 0
  pub lowest : st.lowest ≡ 0
  pub tasks : st.tasks ≡ 0
  pub short : st.going ≡ true → n ≤ most_bytes

pub opens : (n : ℕ) → Begins n (opened n)
unfolding opened refuse start
opens n =
    cases (Begins n) (ltb most_bytes n)
    (λ p. record { place = refl; count = refl; lowest = refl; tasks = refl; short = λ e. absurd (false≢true e) })
    (λ p. record { place = refl; count = refl; lowest = refl; tasks = refl; short = λ e. ltb-false most_bytes n p })
