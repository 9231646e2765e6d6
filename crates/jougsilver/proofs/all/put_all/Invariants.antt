-- After k turns the entries of the first k components are stored, and the row has their offers.
use mathlib.Core.Path.{◌≡◌}
use lib.Seq.{sets}
use Rattle.jougsilver.specs.Host.{entries_to}
use Rattle.tree.proofs.Pass.{Passing}
use Rattle.jougsilver.proofs.all.put_all.Given as goal

abbrev pub invariant-loop-place : goal.invariant-loop-place
invariant-loop-place l = Passing l.sheet l.contents.count l.pass.pairs.now l.place l.offers × (l.entries ≡ sets l.initial.entries 0 (entries_to l.sheet l.place))
