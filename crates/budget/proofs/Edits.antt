-- What an edit answers, by the refusals that it comes upon in turn.
use Prim.Native.Nat.{ℕ, ◌≤◌, ◌<◌}
use mathlib.Core.Path.{◌≡◌, sym, ◌∙◌, ap}
use mathlib.Core.Bool.{false, cond, ◌&&◌}
use mathlib.Core.List.{List}
use native.Mathlib.Nat.{le_of_lt}
use native.Mathlib.Omega.{arith}
use lib.Dec.{leb}
use borrow.Author.Tests.{le-leb, lt-leb, le-ltb, lt-ltb, ne_eqb, leb-false}
use Rattle.budget.specs.declared.component.Capacity.{Capacity}
use Rattle.budget.specs.declared.component.Component.{Component}
use Rattle.budget.specs.Edit.{Edited}
use Rattle.budget.specs.declared.quantity.Time.{Time}
use Rattle.budget.specs.declared.task.Table.{Table}
use Rattle.budget.specs.declared.task.Task.{Task}
use Rattle.budget.specs.Component.{Right, held_refusal, is_right, range_refusal, refused, valid_component, with_tasks}
use Rattle.budget.specs.Edit.{edited, added, removed, adding_refusal, adding_answer, removing_refusal, removing_answer}
use Rattle.budget.specs.Limits.{most_tasks}
use Rattle.budget.specs.Refusal as refusal
use Rattle.budget.specs.Make.{making_answer, unmade}
use Rattle.budget.specs.Task.{task_refusal, tasks_of, valid_task}
use Rattle.budget.specs.inner.Edits.{adding_ranges, removed_answer}
use Rattle.budget.proofs.Answers.{failed}
use Rattle.budget.proofs.CommonLaws.{is_right_lem}
use Rattle.budget.proofs.Ranges.{InRange, ranges_passed, ranges_failed, refused_first, held_first, asked_next}

-- an edit that is refused, and one that is not
abbrev pub none : ℕ → Edited
none n = record { refusal = n; component = refused }

abbrev pub given : Component → List Task → Edited
given c ks = record { refusal = refusal.none; component = with_tasks c ks }

edited_refused : (r n : ℕ) (c : Component) (ks : List Task) → r ≡ n → (n ≡ refusal.none → ⊥) → edited r c ks ≡ none n
unfolding edited
edited_refused r n c ks e h = rw (e, ne_eqb n refusal.none h)

edited_given : (r : ℕ) (c : Component) (ks : List Task) → r ≡ refusal.none → edited r c ks ≡ given c ks
unfolding edited
edited_given r c ks e = rw e

-- ---- adding: a full table, then the ranges and the task, then the stored value
module _ (c : Component) (k : Task) where
  pub ranges_full : most_tasks ≤ c.table.count → adding_ranges c k ≡ refusal.tasks
  unfolding adding_ranges
  ranges_full h = rw (le-leb _ _ h)

  module _ (l : c.table.count < most_tasks) where
    pub ranges_out : (range_refusal c ≡ refusal.none → ⊥) → adding_ranges c k ≡ range_refusal c
    unfolding adding_ranges range_refusal
    ranges_out h =
        let under = le-ltb most_tasks c.table.count (le_of_lt l) in
        let out : valid_component c ≡ false = failed (valid_component c) (λ z. h (rw under z)) in
        rw (under, out, lt-leb _ _ l)

    pub ranges_task : InRange c → adding_ranges c k ≡ task_refusal k
    unfolding adding_ranges valid_component task_refusal
    ranges_task v = rw (lt-leb _ _ l, v.interface, v.tasks)

  pub adding_refused : (n : ℕ) → n ≡ adding_ranges c k → (n ≡ refusal.none → ⊥) → adding_answer c k ≡ none n
  unfolding adding_answer adding_refusal adding_ranges
  adding_refused n e h = edited_refused _ n c _ (ranges_failed (leb most_tasks c.table.count) (valid_component c && valid_task k) _ (λ z. h (e ∙ z)) ∙ sym e) h

  module _ (e : adding_ranges c k ≡ refusal.none) where
    pub adding_room : c.table.count < most_tasks
    unfolding adding_ranges
    adding_room = leb-false _ _ (ranges_passed (leb most_tasks c.table.count) (valid_component c && valid_task k) e).0

    adding_next : adding_refusal c k ≡ cond (is_right c) refusal.none refusal.common
    unfolding adding_refusal adding_ranges
    adding_next = let p = ranges_passed (leb most_tasks c.table.count) (valid_component c && valid_task k) e in rw (p.0, p.1)

    pub adding_wrong : is_right c ≡ false → adding_answer c k ≡ none refusal.common
    unfolding adding_answer
    adding_wrong w = edited_refused _ refusal.common c _ (adding_next ∙ rw w) (λ z. omega (arith, z))

    pub adding_given : Right c → adding_answer c k ≡ given c (added (tasks_of c.table) k)
    unfolding adding_answer
    adding_given r = edited_given _ c _ (adding_next ∙ rw (is_right_lem c r))

-- ---- removing: the ranges and the stored value, then the place
module _ (c : Component) (at : ℕ) where
  pub removing_ranges : (n : ℕ) → n ≡ range_refusal c → (n ≡ refusal.none → ⊥) → removing_answer c at ≡ none n
  unfolding removing_answer removing_refusal
  removing_ranges n e h = edited_refused _ n c _ (refused_first c _ (λ z. h (e ∙ z)) ∙ sym e) h

  pub removing_held : (n : ℕ) → n ≡ held_refusal c → (n ≡ refusal.none → ⊥) → removing_answer c at ≡ none n
  unfolding removing_answer removing_refusal held_refusal
  removing_held n e h = edited_refused _ n c _ (held_first c _ (λ z. h (e ∙ z)) ∙ sym e) h

  pub removing_taken : InRange c → Right c → removing_answer c at ≡ removed_answer c at
  unfolding removing_answer removing_refusal removed_answer
  removing_taken v r = ap (λ (n : ℕ). edited n c (removed (tasks_of c.table) at)) (asked_next c _ v ∙ rw (is_right_lem c r))

  pub removed_none : c.table.count ≤ at → removed_answer c at ≡ none refusal.place
  unfolding removed_answer
  removed_none h = edited_refused _ refusal.place c _ (rw (le-ltb _ _ h)) (λ e. omega (arith, e))

  pub removed_given : at < c.table.count → removed_answer c at ≡ given c (removed (tasks_of c.table) at)
  unfolding removed_answer
  removed_given h = edited_given _ c _ (rw (lt-ltb _ _ h))

-- ---- making: the ranges
pub making_refused : (n : ℕ) (p : Time) (q : Capacity) (d : Time) (t : Table) (r : ℕ) → r ≡ range_refusal (unmade n p q d t) → (r ≡ refusal.none → ⊥) → making_answer n p q d t ≡ none r
unfolding making_answer
making_refused n p q d t r e h = edited_refused _ r _ _ (sym e) h

pub making_given : (n : ℕ) (p : Time) (q : Capacity) (d : Time) (t : Table) → range_refusal (unmade n p q d t) ≡ refusal.none → making_answer n p q d t ≡ given (unmade n p q d t) (tasks_of t)
unfolding making_answer
making_given n p q d t e = edited_given _ _ _ e
