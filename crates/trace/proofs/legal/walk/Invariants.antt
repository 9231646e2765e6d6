-- The walk's loop goes as `keeps` does: what it answers from here is what it answers from the start, and that is whether the trace is legal.
use Prim.Native.Nat.{◌≤◌, ◌<◌}
use mathlib.Core.Path.{◌≡◌}
use lib.ListN.{drop}
use Rattle.budget.specs.Interface.{Π}
use Rattle.trace.proofs.Walk.{keeps}
use Rattle.trace.proofs.legal.walk.Given as goal

abbrev pub invariant-loop-byte : goal.invariant-loop-byte
invariant-loop-byte l =
    (l.slot.place < Π l.interface)
    × (l.slot.lacks ≤ l.slack)
    × (keeps (Π l.interface) l.deadline l.slack l.slot.place l.slot.lacks (drop l.byte-index l.trace) ≡ keeps (Π l.interface) l.deadline l.slack l.offset 0 l.trace)
