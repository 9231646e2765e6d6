-- `all` answers the test of each byte, and the definition goes by the same cases.
use mathlib.Core.Path.{◌≡◌, refl, ap, ◌∙◌}
use mathlib.Core.Bool.{◌&&◌}
use mathlib.Core.List.{List, [], ◌∷◌}
use Prim.Native.Nat.{ℕ}
use lib.Dec.{leb}
use borrow.Author.Rules.{rules}
use borrow.Author.Tests.{tests}
use Rattle.std.specs.List.{list_all}
use Rattle.std.proofs.lemmas.Iterator.{YieldsList-from_slice}
use Rattle.std.proofs.lemmas.Iterator.Search.{all_from_yields_List}
use Rattle.trace.specs.Legal.{zeros_and_ones}
use Rattle.trace.proofs.legal.zeros_and_ones.Goals as goal

every : (s : List ℕ) → list_all (λ b. leb b 1) s ≡ zeros_and_ones s
unfolding zeros_and_ones
every [] = refl
every (b ∷ s) = ap (λ t. leb b 1 && t) (every s)

pub returns : goal.returns
returns c =
    let s = c.args.trace.now in
    all_from_yields_List (λ b. leb b 1) _ _ _ c.all.ensures.ran (YieldsList-from_slice s cc) (λ x b q k. search (rules, tests)) ∙ every s
