-- A legal arrival by its parts: two legal arrivals, one behind the other, are one where each job of the second follows each of the first.
use Prim.Native.Nat.{ℕ, ◌+◌, ◌/◌, ◌%◌, ◌≤◌, ◌<◌}
use mathlib.Core.Bool.{true, ◌&&◌}
use mathlib.Core.List.{List, [], ◌∷◌, ◌++◌}
use mathlib.Core.Path.{◌≡◌, refl}
use native.Mathlib.Nat.{div-add-mod', lt_of_mul-lt-mul_right, mul-le-mul_right}
use native.Mathlib.Omega.{arith}
use Rattle.budget.specs.declared.task.Task.{Task}
use Rattle.budget.proofs.Valid.{and_true, both}
use Rattle.run.specs.Job.{Job, apart, before_all, in_order, legal_arrival, valid_job}

-- a job before another in a legal arrival
abbrev pub Follows : List Task → Job → Job → Type 0
Follows ks a b = (in_order a b && apart ks a b) ≡ true

abbrev pub Every : (Job → Type 0) → List Job → Type 0
Every P [] = Unit {0}
Every P (j ∷ js) = P j × Every P js

pub every_append : (P : Job → Type 0) (xs ys : List Job) → Every P xs → Every P ys → Every P (xs ++ ys)
every_append P [] ys a b = b
every_append P (x ∷ xs) ys a b = (a.0, every_append P xs ys a.1 b)

pub every_map : (P Q : Job → Type 0) → ((j : Job) → P j → Q j) → (xs : List Job) → Every P xs → Every Q xs
every_map P Q f [] a = tt
every_map P Q f (x ∷ xs) a = (f x a.0, every_map P Q f xs a.1)

pub before_all_lem : (ks : List Task) (a : Job) (js : List Job) → Every (Follows ks a) js → before_all ks a js ≡ true
unfolding before_all
before_all_lem ks a [] h = refl
before_all_lem ks a (b ∷ js) h = and_true h.0 (before_all_lem ks a js h.1)

before_append : (ks : List Task) (a : Job) (xs ys : List Job) → before_all ks a xs ≡ true → before_all ks a ys ≡ true → before_all ks a (xs ++ ys) ≡ true
unfolding before_all
before_append ks a [] ys e f = f
before_append ks a (x ∷ xs) ys e f =
    let x = both (in_order a x && apart ks a x) _ e in
    and_true x.0 (before_append ks a xs ys x.1 f)

pub legal_append : (ks : List Task) (xs ys : List Job) → legal_arrival ks xs ≡ true → legal_arrival ks ys ≡ true
    → Every (λ a. Every (Follows ks a) ys) xs → legal_arrival ks (xs ++ ys) ≡ true
unfolding legal_arrival
legal_append ks [] ys e f h = f
legal_append ks (j ∷ xs) ys e f h =
    let x = both (valid_job ks j) _ e in
    let y = both (before_all ks j xs) _ x.1 in
    and_true x.0 (and_true (before_append ks j xs ys y.0 (before_all_lem ks j ys h.0)) (legal_append ks xs ys y.1 f h.1))

-- two multiples of T lie T apart
pub multiples_apart : (m n t : ℕ) → m % t ≡ 0 → n % t ≡ 0 → m < n → m + t ≤ n
multiples_apart m n t a b l =
    let x = div-add-mod' m t in
    let y = div-add-mod' n t in
    let q : m / t < n / t = lt_of_mul-lt-mul_right t (omega arith) in
    omega (arith, mul-le-mul_right t q)
