-- What a call answered, by the answer with its error made into another.
use mathlib.Core.Path.{◌≡◌, refl}
use Rattle.std.specs.Prelude.{Result, Ok, Err, MatchResult, IsErrAnd}

module _ {A E D : Type 0} (Q : E → D → Type 0) where
  pub mapped_ok : (r : Result A E) (m : Result A D) → MatchResult r (λ x. m ≡ Ok x) (λ e. IsErrAnd m (Q e)) → (x : A) → m ≡ Ok x → r ≡ Ok x
  mapped_ok (Ok y) m h x e = cc
  mapped_ok (Err d) m h x e = absurd (rw e at h)

  pub mapped_err : (r : Result A E) (m : Result A D) → MatchResult r (λ x. m ≡ Ok x) (λ e. IsErrAnd m (Q e)) → (f : D) → m ≡ Err f → (d : E) × (r ≡ Err d) × Q d f
  mapped_err (Ok y) m h f e = absurd (cc)
  mapped_err (Err d) m h f e = (d, refl, rw e at h)
