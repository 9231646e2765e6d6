-- After k turns the page holds the lines of the first k components, and the row their offers.
use Rattle.report.specs.inner.Paged.{Lines}
use Rattle.tree.proofs.Pass.{Passing}
use Rattle.report.proofs.listing.add_components.Given as goal

abbrev pub invariant-loop-place : goal.invariant-loop-place
invariant-loop-place l = Passing l.sheet l.contents.count l.pass.pairs.now l.place l.offers × Lines l.sheet l.initial.page l.place l.page l.at
