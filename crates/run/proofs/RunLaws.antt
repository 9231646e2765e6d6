-- Laws of the run by any rule of service: each job has its number in the work left at every instant, and work left never rises. Which job a slot serves is in Next.
use Prim.Native.Nat.{ℕ, zero, suc, ◌+◌, ◌≤◌}
use native.Mathlib.Nat.{le_refl, le_trans, add-zero, add-suc}
use native.Mathlib.Omega.{arith}
use mathlib.Core.Path.{◌≡◌, refl, ◌∙◌}
use mathlib.Core.Bool.{Bool, true, false, cond}
use mathlib.Core.List.{List, [], ◌∷◌}
use lib.ListN.{length, get_or, length-set, length-map}
use lib.Dec.{eqb}
use Rattle.run.specs.Job.{Job}
use Rattle.run.specs.Run.{Rule, serve, slot_by, left_by}

-- a slot keeps the number of jobs
either_length : (b : Bool) (left after : List ℕ) → length after ≡ length left → length (cond b left after) ≡ length left
either_length true left after e = refl
either_length false left after e = e

pub left_length : (rule : Rule) (js : List Job) (s : List ℕ) (t : ℕ) → length (left_by rule js s t) ≡ length js
unfolding left_by slot_by serve
left_length rule js s zero = length-map js _
left_length rule js s (suc t) =
    either_length (eqb (get_or s t 0) 0) (left_by rule js s t) _ (length-set (left_by rule js s t) _ _) ∙ left_length rule js s t

-- a unit takes work from one job and leaves the others'
pub serve_falls : (left : List ℕ) (p q : ℕ) → get_or (serve left p) q 0 ≤ get_or left q 0
unfolding serve
serve_falls [] p q = le_refl 0
serve_falls (w ∷ left) zero zero = omega arith
serve_falls (w ∷ left) zero (suc q) = le_refl _
serve_falls (w ∷ left) (suc p) zero = le_refl w
serve_falls (w ∷ left) (suc p) (suc q) = serve_falls left p q

either_falls : (b : Bool) (left after : List ℕ) (q : ℕ) → get_or after q 0 ≤ get_or left q 0 → get_or (cond b left after) q 0 ≤ get_or left q 0
either_falls true left after q h = le_refl _
either_falls false left after q h = h

-- work left never rises
pub left_falls : (rule : Rule) (js : List Job) (s : List ℕ) (t q : ℕ) → get_or (left_by rule js s (suc t)) q 0 ≤ get_or (left_by rule js s t) q 0
unfolding left_by slot_by
left_falls rule js s t q = either_falls (eqb (get_or s t 0) 0) (left_by rule js s t) _ q (serve_falls (left_by rule js s t) _ q)

pub left_falls_by : (rule : Rule) (js : List Job) (s : List ℕ) (t n q : ℕ) → get_or (left_by rule js s (t + n)) q 0 ≤ get_or (left_by rule js s t) q 0
left_falls_by rule js s t zero q = rw (add-zero t) (le_refl _)
left_falls_by rule js s t (suc n) q = rw (add-suc t n) (le_trans (left_falls rule js s (t + n) q) (left_falls_by rule js s t n q))
