-- The edges of a sheet that is taken are those that the walk notes.
use Rattle.sheet.proofs.RegisterLaws.{taken_contents}
use Rattle.sheet.proofs.contents.contents_of.Goals as goal

pub returns : goal.returns
returns c = taken_contents _ _ _ c.in_ok-count.ensures c.in_ok-found.ensures.edges
