-- A sheet without pairs has the lines that its components have each by itself: no component of it is a parent.
use mathlib.Core.List.{List}
use mathlib.Core.Path.{ap}
use Rattle.record.specs.declared.layout.Pair.{Pair}
use Rattle.sheet.specs.Pairs.{named}
use Rattle.transfer.specs.Reading.{reading}
use Rattle.tree.specs.numbers.Outcome.{Outcome}
use Rattle.tree.proofs.NoParentAlone.{no_parent_alone}
use Rattle.report.specs.Lines.{component_line, outcome_fields}
use Rattle.report.specs.Listing.{UnpairedAlone}

pub unpaired_alone : UnpairedAlone
unfolding component_line outcome_fields named
unpaired_alone s bytes e none k l =
    let number = (reading s k).component.number in
    ap (λ (o : Outcome). component_line number o) (no_parent_alone s bytes e k l (ap (λ (ps : List Pair). named ps number) none))
