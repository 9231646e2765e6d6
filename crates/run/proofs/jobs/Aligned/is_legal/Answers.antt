-- `all` answers the test of each place, and the definition goes from place to place by the same tests.
use mathlib.Core.Path.{refl, ◌∙◌}
use native.Mathlib.Omega.{arith}
use borrow.Author.Rules.{rules}
use borrow.Author.Tests.{tests}
use Rattle.std.proofs.lemmas.Iterator.{YieldsList-from_range}
use Rattle.std.proofs.lemmas.Iterator.Search.{all_from_yields_List}
use Rattle.run.specs.inner.Columns.{jobs_in}
use Rattle.run.proofs.JobRules.{is_legal, legal_each}
use Rattle.run.proofs.Rows.{count}
use Rattle.run.proofs.jobs.Aligned.is_legal.Goals as goal

pub returns : goal.returns
returns c =
    let ks = c.args.table.now in
    let js = jobs_in c.args.self.now.jobs in
    all_from_yields_List (is_legal ks js) _ _ _ c.all.ensures.ran (YieldsList-from_range 0 _ _ refl refl) (λ x b q k. search (rules, tests))
    ∙ legal_each ks js 0 _ (omega (arith, count c.args.self.now.jobs c.args.self.now.even))
