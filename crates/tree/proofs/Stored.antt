-- What the operations make is right: each answers a component with tasks as it is returned, or the stand-in, and both store the right value.
use Rattle.budget.proofs.EditRight.{making_right, adding_right, removing_right}
use Rattle.record.specs.Layout.{record_of}
use Rattle.transfer.proofs.ReadRight.{part_right, reading_right, read_at_right}
use Rattle.tree.specs.Stored.{StoredRight, making, adding, removing, reading_place, reading_between, reading_part, loading_place}
use Rattle.tree.proofs.LoadRight.{loading_right}

pub stored_right : StoredRight
stored_right (making n p q d t) = making_right n p q d t
stored_right (adding c k) = adding_right c k
stored_right (removing c at) = removing_right c at
stored_right (reading_place s k) = reading_right s k
stored_right (reading_between s edges k) = read_at_right s edges k
stored_right (reading_part s) = part_right s (record_of s)
stored_right (loading_place s k) = loading_right s k
