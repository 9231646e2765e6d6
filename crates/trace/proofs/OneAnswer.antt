-- The trace question's contract leaves no second answer: it gives the refusal, and a Bool that is true exactly where a fact holds is one Bool.
use Prim.Native.Nat.{ℕ}
use mathlib.Core.Bool.{Bool, true, false}
use mathlib.Core.List.{List}
use mathlib.Core.Logic.{◌↔◌}
use mathlib.Core.Path.{◌≡◌, refl, sym, ◌∙◌}
use Rattle.budget.specs.declared.interface.Interface.{Interface}
use Rattle.trace.specs.Answer.{Legality, Answered}

one_truth : (a b : Bool) {P : Type 0} → (a ≡ true) ↔ P → (b ≡ true) ↔ P → a ≡ b
one_truth true b p q = sym (q.1 (p.0 refl))
one_truth false true p q = p.1 (q.0 refl)
one_truth false false p q = refl

pub one_answer : (i : Interface) (o : ℕ) (s : List ℕ) (a b : Legality) → Answered i o s a → Answered i o s b → a ≡ b
one_answer i o s a b x y k =
    record { refusal = (x.refused ∙ sym y.refused) k; legal = one_truth a.legal b.legal x.yes_exactly y.yes_exactly k }
