-- `all` answers the test of each release, and the definition goes by the same cases.
use mathlib.Core.Path.{◌≡◌, refl, ap, ◌∙◌}
use mathlib.Core.Bool.{◌&&◌}
use mathlib.Core.List.{List, [], ◌∷◌}
use Prim.Native.Nat.{ℕ}
use lib.IntN.{ℤ, pos}
use lib.Signed.{lt_z}
use borrow.Author.Rules.{rules}
use native.Mathlib.Omega.{arith}
use Rattle.std.proofs.lemmas.Int.{ints}
use borrow.Author.Tests.{tests}
use Rattle.std.specs.List.{list_all}
use Rattle.std.proofs.lemmas.Iterator.{YieldsList-from_slice}
use Rattle.std.proofs.lemmas.Iterator.Search.{all_from_yields_List}
use Rattle.run.specs.Walk.{released_before}
use Rattle.run.proofs.jobs.Jobs.is_released_before.Goals as goal

every : (end : ℕ) (rs : List ℤ) → list_all (λ r. lt_z r (pos end)) rs ≡ released_before end rs
unfolding released_before
every end [] = refl
every end (r ∷ rs) = ap (λ t. lt_z r (pos end) && t) (every end rs)

pub returns : goal.returns
returns c =
    let rs = c.args.self.now.releases.now in
    all_from_yields_List (λ r. lt_z r (pos c.args.end)) _ _ _ c.all.ensures.ran (YieldsList-from_slice rs cc) (λ x b q k. (search (rules, tests), grind (arith, ints))) ∙ every c.args.end rs
