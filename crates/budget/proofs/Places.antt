-- A walk over tasks: those from a place on are the one that stands there and those from the next place on.
use Prim.Native.Nat.{ℕ, ◌+◌, ◌<◌}
use mathlib.Core.Path.{◌≡◌, sym, ◌∙◌}
use mathlib.Core.Bool.{true}
use mathlib.Core.List.{List, ◌∷◌, map}
use native.Mathlib.Numerals.{add-one}
use lib.ListN.{length, get_or, drop, length-map}
use lib.Seq.{drop-cons}
use Rattle.budget.specs.declared.task.Task.{Task}
use Rattle.budget.specs.Task.{no_task, valid_tasks}
use Rattle.budget.proofs.Valid.{ValidTask, valid_head, valid_tail}

-- what owning an array of structs tells of its list stands at `map`
pub length_mapped : {X Y : Type 0} (f : X → Y) (l : List X) (n : ℕ) → length (map f l) ≡ n → length l ≡ n
length_mapped f l n p = sym (length-map l f) ∙ p

pub from_place : (tasks : List Task) (n : ℕ) → n < length tasks → drop n tasks ≡ get_or tasks n no_task ∷ drop (n + 1) tasks
from_place tasks n h = rw (add-one n) (drop-cons tasks n no_task h)

-- of tasks in range the one at the place is, and those after it are
pub valid_from : (tasks : List Task) (n : ℕ) → n < length tasks → valid_tasks (drop n tasks) ≡ true → ValidTask (get_or tasks n no_task) × (valid_tasks (drop (n + 1) tasks) ≡ true)
valid_from tasks n h e =
    let v = rw (from_place tasks n h) at e in
    (valid_head (get_or tasks n no_task) _ v, valid_tail (get_or tasks n no_task) _ v)
