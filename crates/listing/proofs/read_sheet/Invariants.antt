-- The bytes held lie in the row, whose room falls with each read that brings some.
use Rattle.std.proofs.Common.{length, ◌-◌, ◌≤◌}
use Rattle.listing.proofs.read_sheet.Given as goal

abbrev pub invariant-loop-held : goal.invariant-loop-held
invariant-loop-held g l = l.held ≤ length l.row

abbrev pub decreases-loop-held : goal.decreases-loop-held
decreases-loop-held g l = length l.initial.row - l.held
