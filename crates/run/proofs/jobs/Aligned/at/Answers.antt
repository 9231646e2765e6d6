-- The job at a place has the numbers that the columns have there.
use Rattle.run.proofs.Rows.{at}
use Rattle.run.proofs.Shifted.{read}
use Rattle.std.proofs.Common.{get_or, pos}
use native.Mathlib.Omega.{arith}
use Rattle.run.proofs.jobs.Aligned.at.Goals as goal

pub returns : goal.returns
returns c =
    let aligned = c.args.self.now in
    let jobs = aligned.jobs in
    rw (read (get_or jobs.releases.now c.args.i (pos 0)) (omega arith)) (at jobs aligned.even c.args.i c.requires)
