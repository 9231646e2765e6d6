-- Where a child stands: its task in the workload of its parent, and the child of each task behind the own ones.
use Prim.Native.Nat.{ℕ, zero, suc, ◌+◌, ◌≤◌, ◌<◌}
use mathlib.Core.Bool.{Bool, true, false, cond}
use mathlib.Core.List.{List, [], ◌∷◌, map}
use mathlib.Core.Path.{◌≡◌, refl, ◌∙◌}
use lib.Dec.{leb}
use lib.ListN.{length, get_or, take, length-append, length-map}
use lib.Seq.{get_or-append-add}
use borrow.Author.Tests.{le-leb}
use native.Mathlib.Omega.{arith}
use Rattle.budget.specs.declared.task.Task.{Task}
use Rattle.budget.specs.Interface.{Θ}
use Rattle.budget.specs.Task.{no_task}
use Rattle.nesting.specs.Tree.{Tree, as_task, fed, workload}

-- the child at place i is the one that stands, among those with a capacity, behind those of them that come before it
pub record FedAt (tree : Tree) (ks : List ℕ) (i : ℕ) : Type 0 where
  pub inside : length (fed tree (take i ks)) < length (fed tree ks)
  pub there : get_or (fed tree ks) (length (fed tree (take i ks))) 0 ≡ get_or ks i 0

-- what stands at place p of a list fs stands in ks too
pub record Stands (ks fs : List ℕ) (p : ℕ) : Type 0 where
  pub place : ℕ
  pub inside : place < length ks
  pub there : get_or ks place 0 ≡ get_or fs p 0

module _ (tree : Tree) where
  pub fed_at : (ks : List ℕ) (i : ℕ) → i < length ks → 1 ≤ Θ (tree.interface (get_or ks i 0)) → FedAt tree ks i
  unfolding fed
  fed_at [] i l h = absurd (omega arith)
  fed_at (k ∷ ks) zero l h =
      record { inside = rw (le-leb 1 (Θ (tree.interface k)) h) (omega arith); there = rw (le-leb 1 (Θ (tree.interface k)) h) refl }
  fed_at (k ∷ ks) (suc i) l h =
      let f = fed_at ks i (omega arith) h in
      record { inside = more (leb 1 (Θ (tree.interface k))) f.inside; there = same (leb 1 (Θ (tree.interface k))) f.there }
    where
      more : (b : Bool) → length (fed tree (take i ks)) < length (fed tree ks)
          → length (cond b (k ∷ fed tree (take i ks)) (fed tree (take i ks))) < length (cond b (k ∷ fed tree ks) (fed tree ks))
      more true g = omega arith
      more false g = g

      same : (b : Bool) → get_or (fed tree ks) (length (fed tree (take i ks))) 0 ≡ get_or ks i 0
          → get_or (cond b (k ∷ fed tree ks) (fed tree ks)) (length (cond b (k ∷ fed tree (take i ks)) (fed tree (take i ks)))) 0 ≡ get_or ks i 0
      same true e = e
      same false e = e

  fed_step : (k : ℕ) (ks fs : List ℕ) (b : Bool) → ((p : ℕ) → p < length fs → Stands ks fs p)
      → (p : ℕ) → p < length (cond b (k ∷ fs) fs) → Stands (k ∷ ks) (cond b (k ∷ fs) fs) p
  fed_step k ks fs true f zero l = record { place = 0; inside = omega arith; there = refl }
  fed_step k ks fs true f (suc p) l = let g = f p (omega arith) in record { place = suc g.place; inside = omega (arith, g.inside); there = g.there }
  fed_step k ks fs false f p l = let g = f p l in record { place = suc g.place; inside = omega (arith, g.inside); there = g.there }

  pub fed_stands : (ks : List ℕ) (p : ℕ) → p < length (fed tree ks) → Stands ks (fed tree ks) p
  unfolding fed
  fed_stands [] p l = absurd (omega arith)
  fed_stands (k ∷ ks) p l = fed_step k ks (fed tree ks) (leb 1 (Θ (tree.interface k))) (fed_stands ks) p l

map_at : (f : ℕ → Task) (ks : List ℕ) (p : ℕ) → p < length ks → get_or (map f ks) p no_task ≡ f (get_or ks p 0)
map_at f [] p l = absurd (omega arith)
map_at f (k ∷ ks) zero l = refl
map_at f (k ∷ ks) (suc p) l = map_at f ks p (omega arith)

module _ (tree : Tree) (c : ℕ) where
  -- the tasks behind the own ones are those of the children with a capacity
  pub task_at_lem : (p : ℕ) → p < length (fed tree (tree.children c))
      → get_or (workload tree c) (length (tree.own c) + p) no_task ≡ as_task (tree.interface (get_or (fed tree (tree.children c)) p 0))
  unfolding workload
  task_at_lem p l = get_or-append-add (tree.own c) _ p no_task ∙ map_at (λ k. as_task (tree.interface k)) (fed tree (tree.children c)) p l

  pub workload_length : length (workload tree c) ≡ length (tree.own c) + length (fed tree (tree.children c))
  unfolding workload
  workload_length = rw (length-append, length-map) refl
