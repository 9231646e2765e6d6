-- With the edges of an accepted sheet a component is read as by its place: the edges lie in order within the sheet, and the part is what lies between them.
use Prim.Native.Nat.{◌+◌}
use native.Mathlib.Omega.{arith}
use mathlib.Core.Path.{sym}
use borrow.Author.Tests.{lt-leb, le-ltb}
use Rattle.sheet.proofs.ContentsLaws.{taken, edges_never_fall, edges_within}
use Rattle.transfer.specs.ReadAt.{ReadAtReads, part_at, read_at}
use Rattle.transfer.proofs.ReadLaws.{read_between}

pub read_at_reads : ReadAtReads
unfolding part_at read_at
read_at_reads s e k h =
    let few = (taken s e).few in
    let order = edges_never_fall s e k h in
    let within = edges_within s e (k + 1) (omega arith) in
    rw (lt-leb 256 k (omega arith), le-ltb _ _ order, le-ltb _ _ within) (sym (read_between s k e h))
