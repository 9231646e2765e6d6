-- A slot does what the run's `slot` says, by its three kinds: not supplied, none waiting, one served.
use native.Mathlib.Nat.{le_refl}
use native.Mathlib.Omega.{arith}
use Rattle.run.proofs.Rows.{count}
use Rattle.run.proofs.Slots.{not_supplied, none_waits, one_served}
use Rattle.run.specs.inner.Columns.{jobs_in}
use Rattle.run.proofs.scan.Timed.serve.Goals as goal

pub returns-then-byte-eq0 : goal.returns-then-byte-eq0
returns-then-byte-eq0 c =
    λ ks dues. not_supplied ks (jobs_in c.args.self.now.aligned.jobs) c.args.n c.args.byte c.args.left.now c.if-byte-eq0.true

pub returns-in-Some : goal.returns-in-Some
returns-in-Some c =
    λ ks dues.
    let s = c.args.self.now in
    one_served ks (jobs_in s.aligned.jobs) c.args.n c.args.byte c.args.left.now c.in-Some.place c.if-byte-eq0.false (c.in-Some.ensures.value ks dues)
    (omega (arith, count s.aligned.jobs s.aligned.even, s.long, c.requires)) c.in-Some.ensures.waiting.0

pub returns-in-None : goal.returns-in-None
returns-in-None c =
    λ ks dues.
    let s = c.args.self.now in
    none_waits ks (jobs_in s.aligned.jobs) c.args.n c.args.byte c.args.left.now _ c.if-byte-eq0.false (c.in-None.ensures.value ks dues)
    (omega (arith, count s.aligned.jobs s.aligned.even, s.long, c.requires)) (le_refl _)
