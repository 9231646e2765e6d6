-- A component of a sheet that is judged in its tree is refused for its common period only: what its children add are tasks in their ranges, since a
-- child that is accepted has its capacity within its deadline, and its workload fits, so of the refusals of a component only that one is left.
use Prim.Native.Nat.{ℕ, zero, suc, ◌≤◌, ◌<◌, zero-le}
use native.Mathlib.Omega.{arith}
use mathlib.Core.Bool.{true, not}
use mathlib.Core.List.{List, [], ◌∷◌, ◌++◌}
use mathlib.Core.Path.{◌≡◌, refl, sym, subst, ◌∙◌}
use lib.Dec.{leb, eqb}
use lib.ListN.{length, take}
use lib.Seq.{take_all}
use borrow.Author.Tests.{eqb-false, not-true}
use Rattle.budget.specs.declared.component.Component.{Component}
use Rattle.budget.specs.declared.task.Task.{Task}
use Rattle.budget.specs.Component.{Right, common_period_of, interface_of, with_tasks}
use Rattle.budget.specs.Interface.{valid_interface}
use Rattle.budget.specs.Limits.{limit, most_tasks}
use Rattle.budget.specs.Refusal as refusal
use Rattle.budget.specs.Task.{table_of, tasks_of, valid_task, valid_tasks}
use Rattle.budget.proofs.CommonLaws.{with_tasks_right}
use Rattle.budget.proofs.TableLaws.{tasks_of_table}
use Rattle.budget.proofs.Ranges.{InRange, in_range, refused_period}
use Rattle.budget.proofs.Valid.{and_true, both, task_valid, valid_interface_lem}
use Rattle.judge.specs.numbers.Judged.{Judged}
use Rattle.judge.specs.numbers.Judged.{Refused, Answered}
use Rattle.judge.specs.declared.answer.Verdict.{Verdict}
use Rattle.judge.specs.Judged.{verdict_answer}
use Rattle.record.specs.declared.layout.Pair.{Pair}
use Rattle.record.specs.Field.{Bytes}
use Rattle.record.proofs.Cases.{cases, either}
use Rattle.sheet.specs.Check.{check, pairs_of}
use Rattle.transfer.specs.Reading.{reading}
use Rattle.transfer.proofs.ReadsBack.{sound_at}
use Rattle.transfer.proofs.Sheet.{accepted_sheet}
use Rattle.tree.specs.numbers.Load.{Load}
use Rattle.tree.specs.numbers.Outcome.{Outcome}
use Rattle.tree.specs.numbers.Offer.{Offer}
use Rattle.tree.specs.Nested.{OnlyLong, children_at}
use Rattle.tree.specs.Offer.{as_task, offered_on, offer_of, offer_in, withheld}
use Rattle.tree.specs.Outcome.{outcome_of}
use Rattle.tree.specs.Tree.{load_at, offers_to, outcome_at}
use Rattle.tree.specs.Workload.{all_offered, children, load_on, ready, tasks_from, waiting, workload}
use Rattle.tree.proofs.Accepted.{accepted_within, refused_number}
use Rattle.tree.proofs.WorkloadFits.{workload_fits}

-- ---- offers in their ranges

pub record Able (o : Offer) : Type 0 where
  pub fits : o.capacity ≤ o.deadline
  pub within : o.deadline ≤ o.period
  pub bounded : o.period ≤ limit

-- an offer that is not withheld has the numbers of an interface
abbrev Offered : Offer → Type 0
Offered o = (o.capacity ≡ withheld → ⊥) → Able o

-- of a component and the same with other tasks
module _ (c : Component) (v : valid_interface (interface_of c) ≡ true) (ks : List Task) where
  valid_still : valid_interface (interface_of (with_tasks c ks)) ≡ true
  unfolding with_tasks interface_of
  valid_still = v

  offered_able : (j : Judged) → verdict_answer (with_tasks c ks) ≡ j → Offered (offered_on c j)
  unfolding with_tasks interface_of
  offered_able (Refused n) e some = absurd (some refl)
  offered_able (Answered q Verdict.Accepted) e some =
      let i = valid_interface_lem _ v in
      record { fits = accepted_within (with_tasks c ks) valid_still q e; within = i.within; bounded = i.bounded }
  offered_able (Answered q (Verdict.Short t)) e some = absurd (some refl)
  offered_able (Answered q Verdict.None) e some = absurd (some refl)

  ready_able : Offered (offer_of c (outcome_of (ready (with_tasks c ks))))
  unfolding offer_of outcome_of
  ready_able = offered_able (verdict_answer (with_tasks c ks)) refl

waits_able : (c : Component) → Offered (offer_of c (outcome_of waiting))
unfolding offer_of outcome_of
waits_able c some = absurd (some refl)

load_able : (ps : List Pair) (os : List Offer) (c : Component) → valid_interface (interface_of c) ≡ true → Offered (offer_of c (outcome_of (load_on ps os c)))
unfolding load_on
load_able ps os c v =
    cases (λ (l : Load). Offered (offer_of c (outcome_of l))) (all_offered (children ps os c.number)) (λ p. ready_able c v _) (λ p. waits_able c)

-- ---- all offers of a list

abbrev Every : List Offer → Type 0
Every [] = Unit {0}
Every (o ∷ os) = Offered o × Every os

every_more : (os : List Offer) (o : Offer) → Every os → Offered o → Every (os ++ (o ∷ []))
every_more [] o w a = (a, tt)
every_more (p ∷ os) o w a = (w.0, every_more os o w.1 a)

offer_able : (os : List Offer) → Every os → (n : ℕ) → Offered (offer_in os n)
unfolding offer_in
offer_able [] w n = λ some. absurd (some refl)
offer_able (o ∷ os) w n = cases Offered (eqb o.number n) (λ p. w.0) (λ p. offer_able os w.1 n)

children_able : (ps : List Pair) (os : List Offer) → Every os → (n : ℕ) → Every (children ps os n)
unfolding children
children_able [] os w n = tt
children_able (p ∷ ps) os w n =
    cases Every (eqb p.parent n) (λ e. (offer_able os w p.child, children_able ps os w n)) (λ e. children_able ps os w n)

-- ---- their tasks

tasks_valid : (os : List Offer) → Every os → all_offered os ≡ true → valid_tasks (tasks_from os) ≡ true
unfolding all_offered tasks_from valid_tasks
tasks_valid [] w e = refl
tasks_valid (o ∷ os) w e =
    let b = both (not (eqb o.capacity withheld)) (all_offered os) e in
    let a = w.0 (eqb-false o.capacity withheld (not-true (eqb o.capacity withheld) b.0)) in
    let r = tasks_valid os w.1 b.1 in
    cases (λ (ks : List Task). valid_tasks ks ≡ true) (eqb o.capacity 0) (λ p. r)
    (λ p. and_true (task_valid (as_task o) (record { works = omega (arith, eqb-false o.capacity 0 p); fits = a.fits; within = a.within; bounded = a.bounded; late = zero-le })) r)

valid_append : (ks js : List Task) → valid_tasks ks ≡ true → valid_tasks js ≡ true → valid_tasks (ks ++ js) ≡ true
unfolding valid_tasks
valid_append [] js e f = f
valid_append (k ∷ ks) js e f = let b = both (valid_task k) (valid_tasks ks) e in and_true b.0 (valid_append ks js b.1 f)

-- a component whose workload fits, with tasks of its children in their ranges
loaded_in_range : (c : Component) → InRange c → (os : List Offer) → Every os → all_offered os ≡ true → length (workload c os) ≤ most_tasks → InRange (with_tasks c (take most_tasks (workload c os)))
unfolding with_tasks interface_of table_of workload
loaded_in_range c r os w e few =
    let whole = take_all most_tasks (workload c os) few in
    rw whole
    (record {
      count = few;
      interface = r.interface;
      tasks = rw (tasks_of_table (workload c os)) (valid_append (tasks_of c.table) (tasks_from os) r.tasks (tasks_valid os w e));
    })

-- ---- of a sheet

module _ (s : List ℕ) (bytes : Bytes s) (e : (check s).refusal ≡ 0) where
  read_in_range : (k : ℕ) → k < (check s).count → InRange (reading s k).component
  read_in_range k h =
      let x = accepted_sheet s bytes e in
      rw (x.reads k) (in_range _ (sound_at x.cs 0 x.fits.rising k (subst (λ (n : ℕ). k < n) x.count h)).ranges)

  offers_able : (k : ℕ) → k ≤ (check s).count → Every (offers_to s k)
  unfolding offers_to
  offers_able zero h = tt
  offers_able (suc k) h = every_more (offers_to s k) _ (offers_able k (omega arith)) (load_able (pairs_of s) (offers_to s k) (reading s k).component (read_in_range k h).interface)

  only_by : (c : Component) → InRange c → Right c → (n : ℕ) → verdict_answer c ≡ Refused n → n ≡ refusal.long
  only_by c r right n f =
      let m = refused_number c n f in
      either (leb (common_period_of c) limit)
      (λ p. absurd (m.1 (refused_period c r right ∙ rw p)))
      (λ p. sym m.0 ∙ (refused_period c r right ∙ rw p))

pub only_long : OnlyLong
unfolding outcome_at outcome_of load_at load_on
only_long s bytes e k h a n =
    let c = (reading s k).component in
    cases (λ (l : Load). outcome_of l ≡ Outcome.Judged a → a.verdict ≡ Refused n → n ≡ refusal.long) (all_offered (children_at s k))
    (λ p f g. only_by s bytes e _ (loaded_in_range c (read_in_range s bytes e k h) (children_at s k) (children_able (pairs_of s) (offers_to s k) (offers_able s bytes e k (omega arith)) c.number) p (workload_fits s bytes e k h)) (with_tasks_right c _) n (cc))
    (λ p f g. let z : ◌≡◌ {A = ℕ} 0 1 = cc f in absurd (omega arith))
