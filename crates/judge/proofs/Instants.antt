-- Why the instants up to L are enough, for any demand W that repeats after L and any supply S that at least adds up: an instant past L is one up to L and
-- whole L after it, and each whole L brings no less supply than demand.
use Prim.Native.Nat.{ℕ, zero, suc, ◌+◌, ◌-◌, ◌≤◌, ◌<◌}
use mathlib.Core.Path.{◌≡◌, refl, sym, ap, subst}
use native.Mathlib.Decide.{dec_le}
use native.Mathlib.Omega.{arith}

module _ (W S : ℕ → ℕ) (L : ℕ) (some : 1 ≤ L) (shift : (t : ℕ) → W (t + L) ≡ W t + W L) (add : (a b : ℕ) → S a + S b ≤ S (a + b)) where
  -- what holds up to L, and at t + L wherever it holds at t, holds for ever
  repeats : (P : ℕ → Type 0) → ((t : ℕ) → 1 ≤ t → t ≤ L → P t) → ((t : ℕ) → 1 ≤ t → P t → P (t + L)) → (n t : ℕ) → t ≤ n → 1 ≤ t → P t
  repeats P early later zero t h l = absurd (omega arith)
  repeats P early later (suc n) t h l = split (dec_le t L) (λ g. repeats P early later n (t - L) (omega arith) (omega arith))
    where
      split : Dec (t ≤ L) → ((L < t) → P (t - L)) → P t
      split (yes g) back = early t l g
      split (no g) back =
          let e : t - L + L ≡ t = omega arith in
          subst P e (later (t - L) (omega arith) (back (omega arith)))

  pub enough : ((t : ℕ) → 1 ≤ t → t ≤ L → W t ≤ S t) → (t : ℕ) → 1 ≤ t → W t ≤ S t
  enough fits t = repeats (λ u. W u ≤ S u) fits (λ u h f. omega (arith, shift u, add u L, fits L some (omega arith))) t t (omega arith)

  -- no step instant past L has a smaller margin than the least up to L, that of a supply s and a demand d
  pub no_smaller : W L ≤ S L → (s d : ℕ)
      → ((p : ℕ) → suc p ≤ L → W p < W (suc p) → s + W (suc p) ≤ S (suc p) + d)
      → (p : ℕ) → W p < W (suc p) → s + W (suc p) ≤ S (suc p) + d
  no_smaller whole s d least p h =
      repeats
      (λ t. (q : ℕ) → t ≡ suc q → W q < W t → s + W t ≤ S t + d)
      (λ t l g q e r. subst (λ (u : ℕ). u ≤ L → W q < W u → s + W u ≤ S u + d) (sym e) (λ g' r'. least q g' r') g r)
      (λ t l before q e r.
      let q_back : q ≡ (t - 1) + L = omega arith in
      let r' : W (t - 1) < W t = omega (arith, ap W q_back, shift (t - 1), shift t) in
      omega (arith, shift t, add t L, before (t - 1) (omega arith) r'))
      (suc p)
      (suc p)
      (omega arith)
      (omega arith)
      p
      refl
      h
