-- Each budget of a child with a capacity that is released before slot n is among the jobs of its parent's run: it stands among those of its slot.
use Prim.Native.Nat.{ℕ, zero, suc, ◌+◌, ◌-◌, ◌*◌, ◌%◌, ◌<◌}
use mathlib.Core.Bool.{Bool, true, false, cond}
use mathlib.Core.List.{List, [], ◌∷◌, ◌++◌}
use mathlib.Core.Path.{◌≡◌, refl, ◌∙◌}
use lib.ListN.{length, get_or, length-append, get_or-append}
use lib.Seq.{get_or-append-add}
use borrow.Author.Tests.{eq-eqb, le-leb}
use native.Mathlib.Decide.{ℕ_discrete}
use native.Mathlib.Nat.{add-sub_cancel_left, add-suc, add-zero, le-add_right, mul-mod_left, suc-add}
use native.Mathlib.Omega.{arith}
use Rattle.budget.specs.Interface.{Π}
use Rattle.budget.proofs.Valid.{and_true}
use Rattle.run.specs.Job.{Job, no_job}
use Rattle.nesting.specs.Behaviour.{Behaviour, arrivals, budgets_in, from, jobs_in, released_in}
use Rattle.nesting.specs.Tree.{Tree, fed}
use Rattle.nesting.proofs.Jobs.{Found, budget_of}

found_left : (xs ys : List Job) (j : Job) → Found xs j → Found (xs ++ ys) j
found_left xs ys j f =
    let l = f.inside in
    record { place = f.place; inside = rw length-append (omega arith); there = get_or-append xs ys no_job f.place l ∙ f.there }

found_right : (xs ys : List Job) (j : Job) → Found ys j → Found (xs ++ ys) j
found_right xs ys j f =
    let l = f.inside in
    record { place = length xs + f.place; inside = rw length-append (omega arith); there = get_or-append-add xs ys f.place no_job ∙ f.there }

-- the first release and every p slots from there on
pub released_after : (f d p : ℕ) → released_in (from f) p (f + d * p) ≡ true
unfolding released_in
released_after f d p =
    let multiple : (f + d * p - f) % p ≡ 0 = rw (add-sub_cancel_left f (d * p)) (mul-mod_left d p) in
    and_true (le-leb f (f + d * p) (le-add_right f (d * p))) (eq-eqb ((f + d * p - f) % p) 0 multiple)

module _ (tree : Tree) (b : Behaviour) where
  step_found : (z : Bool) (x : Job) (rest : List Job) (j : Job) → Found rest j → Found (cond z (x ∷ rest) rest) j
  step_found true x rest j f = record { place = suc f.place; inside = omega (arith, f.inside); there = f.there }
  step_found false x rest j f = f

  -- the child at place p of a list
  budget_in : (ks : List ℕ) (i m p : ℕ) → p < length ks → released_in (b.first (get_or ks p 0)) (Π (tree.interface (get_or ks p 0))) m ≡ true
      → Found (budgets_in tree b ks i m) (budget_of tree b (get_or ks p 0) (i + p) m)
  unfolding budgets_in
  budget_in [] i m p l e = absurd (omega arith)
  budget_in (k ∷ ks) i m zero l e = rw (e, add-zero i) (record { place = 0; inside = omega arith; there = refl })
  budget_in (k ∷ ks) i m (suc p) l e =
      rw (add-suc i p, ← suc-add i p)
      (step_found (released_in (b.first k) (Π (tree.interface k)) m) _ (budgets_in tree b ks (suc i) m) (budget_of tree b (get_or ks p 0) (suc i + p) m)
      (budget_in ks (suc i) m p (omega arith) e))

  module _ (c p r : ℕ) where
    abbrev pub ChildsBudget : List Job → Type 0
    ChildsBudget js = Found js (budget_of tree b (get_or (fed tree (tree.children c)) p 0) (length (tree.own c) + p) r)

    abbrev Released : ℕ → Type 0
    Released m = released_in (b.first (get_or (fed tree (tree.children c)) p 0)) (Π (tree.interface (get_or (fed tree (tree.children c)) p 0))) m ≡ true

    in_slot : p < length (fed tree (tree.children c)) → Released r → (m : ℕ) → r ≡ m
        → ChildsBudget (budgets_in tree b (fed tree (tree.children c)) (length (tree.own c)) m)
    in_slot l e m same = rw (← same) (budget_in (fed tree (tree.children c)) (length (tree.own c)) r p l e)

    either_slot : (m : ℕ) (xs ys zs : List Job) → r < suc m → (r < m → ChildsBudget xs) → (r ≡ m → ChildsBudget zs) → Dec (r ≡ m)
        → ChildsBudget (xs ++ (ys ++ zs))
    either_slot m xs ys zs h before now (yes e) = found_right xs (ys ++ zs) _ (found_right ys zs _ (now e))
    either_slot m xs ys zs h before now (no d) = found_left xs (ys ++ zs) _ (before (omega arith))

    pub budget_found : p < length (fed tree (tree.children c)) → Released r → (n : ℕ) → r < n → ChildsBudget (arrivals tree b c n)
    unfolding arrivals
    budget_found l e zero h = absurd (omega arith)
    budget_found l e (suc m) h =
        either_slot m (arrivals tree b c m) (jobs_in (b.jobs c) m) _ h (budget_found l e m) (in_slot l e m) (ℕ_discrete r m)
