-- A workload gathered pair by pair: the tasks so far are those of the children met so far, behind the own ones, the common period so far is theirs, and
-- the children met so far with those still to come are all the children.
use Prim.Native.Nat.{ℕ, ◌-◌, ◌≤◌, min}
use native.Mathlib.Nat.{min-eq_left, min-eq_right}
use native.Mathlib.Omega.{arith}
use mathlib.Core.Bool.{Bool, true, false, cond, not, ◌&&◌, and_assoc}
use mathlib.Core.List.{List, [], ◌∷◌, ◌++◌, append-nil, append_assoc}
use mathlib.Core.Path.{◌≡◌, refl, sym, ap, ◌∙◌}
use lib.Dec.{leb, ltb, eqb}
use lib.ListN.{length, take, drop, replicate, length-append, length-take, length-drop}
use lib.Seq.{append_snoc, length-take-le, take_all, take-append-le, take-take}
use borrow.Rule.Slice.PartMut.{put_mid}
use borrow.Author.Tests.{leb-true, leb-false, ltb-true, ltb-false, le-ltb, eq-eqb, ne_eqb}
use Rattle.std.proofs.lemmas.List.{drop_all}
use Rattle.budget.specs.declared.common.Common.{Common}
use Rattle.budget.specs.declared.component.Component.{Component}
use Rattle.budget.specs.declared.task.Table.{Table}
use Rattle.budget.specs.declared.task.Task.{Task}
use Rattle.budget.specs.Common.{common_of}
use Rattle.budget.specs.Component.{Right, with_tasks}
use Rattle.budget.specs.Limits.{most_tasks}
use Rattle.budget.specs.Task.{no_task, tasks_of, table_of, appended}
use Rattle.budget.proofs.TableLaws.{append_returned, count_is}
use Rattle.record.specs.declared.layout.Pair.{Pair}
use Rattle.record.proofs.Cases.{either}
use Rattle.tree.specs.numbers.Offer.{Offer}
use Rattle.tree.specs.Offer.{withheld, offer_in, as_task}
use Rattle.tree.specs.Workload.{children, all_offered, tasks_from, workload, load_on, ready, waiting}
use Rattle.tree.proofs.WorkloadCommon.{grown_with, child_grown, own_held}

-- ---- tables that hold the first of many tasks

-- a task more behind tasks of which the table holds as many as it has places for
pub append_within : (t : Table) (ks : List Task) (k : Task) → t ≡ table_of (take most_tasks ks) → appended t k ≡ table_of (take most_tasks (ks ++ (k ∷ [])))
unfolding appended
append_within t ks k h =
    either (ltb (length ks) most_tasks)
    (λ e. let short = ltb-true (length ks) most_tasks e in
    append_returned t ks k (h ∙ ap table_of (take_all most_tasks ks (omega arith))) short
    ∙ ap table_of (sym (take_all most_tasks (ks ++ (k ∷ [])) (omega (arith, length-append ks (k ∷ []))))))
    (λ e. let long = ltb-false (length ks) most_tasks e in
    rw (le-ltb t.count most_tasks (omega (arith, count_is t (take most_tasks ks) h, length-take-le most_tasks ks long)))
    (h ∙ ap table_of (sym (take-append-le most_tasks ks (k ∷ []) long))))

-- the first tasks of a table, at most as many as it has places for
first_held : (ks : List Task) (n : ℕ) → length ks ≡ most_tasks → take most_tasks (take n ks) ≡ take (min n most_tasks) ks
first_held ks n whole =
    either (leb n most_tasks)
    (λ e. let few = leb-true n most_tasks e in
    rw (min-eq_left few) (take_all most_tasks (take n ks) (omega (arith, length-take-le n ks (omega arith)))))
    (λ e. let more : most_tasks ≤ n = omega (arith, leb-false n most_tasks e) in
    rw (min-eq_right more) (take-take most_tasks n ks more))

-- the own tasks with the places behind them cleared
pub cleared_all : (ks : List Task) (n count : ℕ) → length ks ≡ most_tasks → count ≡ min n most_tasks
    → record { count = count; tasks = take count ks ++ replicate (most_tasks - count) no_task } ≡ table_of (take most_tasks (take n ks))
unfolding table_of
cleared_all ks n count whole is =
    let first : take most_tasks (take n ks) ≡ take count ks = first_held ks n whole ∙ ap (λ (m : ℕ). take m ks) (sym is) in
    rw (first, length-take-le count ks (omega (arith, is)))

pub cleared_put : (ks : List Task) (count : ℕ) (cleared : List Task) → length ks ≡ most_tasks → count ≤ most_tasks
    → cleared ≡ replicate (length (take (most_tasks - count) (drop count ks))) no_task
    → put_mid count (most_tasks - count) ks cleared ≡ take count ks ++ replicate (most_tasks - count) no_task
cleared_put ks count cleared whole h e =
    let long : length (take (most_tasks - count) (drop count ks)) ≡ most_tasks - count = omega (arith, length-take (most_tasks - count) (drop count ks), length-drop count ks) in
    let none : drop (most_tasks - count) (drop count ks) ≡ [] = drop_all (most_tasks - count) (drop count ks) (omega (arith, length-drop count ks)) in
    rw (e, long, none, append-nil)

-- ---- one child more

snoc_task : (b : Bool) (o p : Offer) (os : List Offer) → tasks_from (os ++ (o ∷ [])) ≡ tasks_from os ++ tasks_from (o ∷ [])
    → cond b (tasks_from (os ++ (o ∷ []))) (as_task p ∷ tasks_from (os ++ (o ∷ []))) ≡ cond b (tasks_from os) (as_task p ∷ tasks_from os) ++ tasks_from (o ∷ [])
snoc_task true o p os e = e
snoc_task false o p os e = ap (λ (ks : List Task). as_task p ∷ ks) e

tasks_snoc : (os : List Offer) (o : Offer) → tasks_from (os ++ (o ∷ [])) ≡ tasks_from os ++ tasks_from (o ∷ [])
unfolding tasks_from
tasks_snoc [] o = refl
tasks_snoc (p ∷ os) o = snoc_task (eqb p.capacity 0) o p os (tasks_snoc os o)

workload_snoc : (c : Component) (os : List Offer) (o : Offer) → workload c (os ++ (o ∷ [])) ≡ workload c os ++ tasks_from (o ∷ [])
unfolding workload
workload_snoc c os o = ap (λ (ks : List Task). tasks_of c.table ++ ks) (tasks_snoc os o) ∙ sym (append_assoc (tasks_of c.table) (tasks_from os) _)

-- what the code makes of a table for a child's offer
abbrev pub with_child : Table → Offer → Table
with_child t o = cond (eqb o.capacity 0) t (appended t (as_task o))

child_by : (b : Bool) (t : Table) (ks : List Task) (o : Offer) → t ≡ table_of (take most_tasks ks)
    → cond b t (appended t (as_task o)) ≡ table_of (take most_tasks (ks ++ cond b [] (as_task o ∷ [])))
child_by true t ks o h = h ∙ ap (λ (l : List Task). table_of (take most_tasks l)) (sym (append-nil ks))
child_by false t ks o h = append_within t ks (as_task o) h

child_held : (c : Component) (os : List Offer) (t : Table) (o : Offer) → t ≡ table_of (take most_tasks (workload c os)) → with_child t o ≡ table_of (take most_tasks (workload c (os ++ (o ∷ []))))
unfolding tasks_from
child_held c os t o h = rw (workload_snoc c os o) (child_by (eqb o.capacity 0) t (workload c os) o h)

-- and of the common period
child_stored : (c : Component) (os : List Offer) (t : Table) (o : Offer) → t ≡ table_of (take most_tasks (workload c os)) → (s : Common) → s ≡ common_of c.period.0 (take most_tasks (workload c os))
    → grown_with s t o ≡ common_of c.period.0 (take most_tasks (workload c (os ++ (o ∷ []))))
unfolding tasks_from
child_stored c os t o h s e = rw (workload_snoc c os o) (child_grown c.period.0 t (workload c os) h s e o (eqb o.capacity 0))

offered_append : (os more : List Offer) → all_offered (os ++ more) ≡ (all_offered os && all_offered more)
unfolding all_offered
offered_append [] more = refl
offered_append (o ∷ os) more = ap (λ (b : Bool). not (eqb o.capacity withheld) && b) (offered_append os more) ∙ sym (and_assoc (not (eqb o.capacity withheld)) _ _)

-- ---- the loop over the pairs

-- what is gathered before the pairs that are left
pub record Gathering (ps rest : List Pair) (os : List Offer) (c : Component) (table : Table) (common : Common) : Type 0 where
  pub below : List Offer
  pub held : table ≡ table_of (take most_tasks (workload c below))
  pub stored : common ≡ common_of c.period.0 (take most_tasks (workload c below))
  pub todo : below ++ children rest os c.number ≡ children ps os c.number
  pub offered : all_offered below ≡ true

module _ (ps : List Pair) (os : List Offer) (c : Component) where
  pub gathering_none : Right c → length c.table.tasks ≡ most_tasks → (table : Table) → table ≡ table_of (take most_tasks (tasks_of c.table)) → Gathering ps ps os c table c.common
  unfolding workload tasks_from all_offered
  gathering_none right whole table e =
      record {
        below = [];
        held = e ∙ ap (λ (ks : List Task). table_of (take most_tasks ks)) (sym (append-nil (tasks_of c.table)));
        stored = right ∙ ap (common_of c.period.0) (sym (own_held c.table whole) ∙ ap (take most_tasks) (sym (append-nil (tasks_of c.table))));
        todo = refl;
        offered = refl;
      }

  -- the pair that comes next
  module _ (rest next : List Pair) (p : Pair) (here : rest ≡ p ∷ next) (table : Table) (common : Common) (w : Gathering ps rest os c table common) where
    -- it names another parent
    pub gathering_same : (p.parent ≡ c.number → ⊥) → Gathering ps next os c table common
    unfolding children
    gathering_same other =
        record {
          below = w.below;
          held = w.held;
          stored = w.stored;
          todo = let t = w.todo in rw (here, ne_eqb p.parent c.number other) at t;
          offered = w.offered;
        }

    -- it names this parent, and the child's offer is found
    module _ (is : p.parent ≡ c.number) (o : Offer) (found : o ≡ offer_in os p.child) where
      todo_next : w.below ++ (o ∷ children next os c.number) ≡ children ps os c.number
      unfolding children
      todo_next = let t = w.todo in rw found (rw (here, eq-eqb p.parent c.number is) at t)

      pub gathering_more : (o.capacity ≡ withheld → ⊥) → (longer : Table) → longer ≡ with_child table o → (more : Common) → more ≡ grown_with common table o → Gathering ps next os c longer more
      unfolding all_offered
      gathering_more some longer e more f =
          record {
            below = w.below ++ (o ∷ []);
            held = e ∙ child_held c w.below table o w.held;
            stored = f ∙ child_stored c w.below table o w.held common w.stored;
            todo = append_snoc w.below o (children next os c.number) ∙ todo_next;
            offered = rw (offered_append w.below (o ∷ []), w.offered, ne_eqb o.capacity withheld some);
          }

      -- a child that offers nothing keeps the parent waiting
      pub gathering_waits : o.capacity ≡ withheld → load_on ps os c ≡ waiting
      unfolding load_on all_offered
      gathering_waits none = rw (← todo_next, offered_append w.below (o ∷ children next os c.number), w.offered, eq-eqb o.capacity withheld none)

  -- no pair is left
  pub gathered : (rest : List Pair) → rest ≡ [] → (table : Table) (common : Common) → Gathering ps rest os c table common
      → load_on ps os c ≡ ready (record { number = c.number; period = c.period; capacity = c.capacity; deadline = c.deadline; common = common; table = table })
  unfolding load_on children with_tasks
  gathered rest e table common w =
      let t = w.todo in
      let all : w.below ≡ children ps os c.number = sym (append-nil w.below) ∙ (rw e at t) in
      rw (← all, w.offered, ← w.held, ← w.stored)
