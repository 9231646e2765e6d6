-- `all` answers the test of each later place, and the definition goes from place to place by the same tests.
use mathlib.Core.Path.{refl, ◌∙◌}
use native.Mathlib.Numerals.{add-one}
use native.Mathlib.Omega.{arith}
use borrow.Author.Rules.{rules}
use borrow.Author.Tests.{tests}
use Rattle.std.proofs.lemmas.Iterator.{YieldsList-from_range}
use Rattle.std.proofs.lemmas.Iterator.Search.{all_from_yields_List}
use Rattle.run.specs.inner.Columns.{job_in, jobs_in}
use Rattle.run.proofs.JobRules.{follows, before_each}
use Rattle.run.proofs.Rows.{count}
use Rattle.run.proofs.jobs.Aligned.is_before_rest.Goals as goal

pub returns : goal.returns
returns c =
    λ ks.
    rw c.at-job.ensures
    (λ e.
    let js = jobs_in c.args.self.now.jobs in
    let a = job_in c.at-job.result in
    rw (← (add-one c.args.i))
    (all_from_yields_List (follows ks js a) _ _ _ c.all.ensures.ran (YieldsList-from_range _ _ _ refl refl) (λ x b q k. rw e (search (rules, tests)))
    ∙ before_each ks js a _ _ (omega (arith, count c.args.self.now.jobs c.args.self.now.even))))
