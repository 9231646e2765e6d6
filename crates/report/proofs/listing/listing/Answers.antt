-- A refused sheet has its one line, a taken one its components' and the end's.
use native.Mathlib.Omega.{arith}
use mathlib.Core.Path.{refl}
use Rattle.std.specs.Prelude.{Ok, Err}
use Rattle.budget.proofs.Refusals.{some}
use Rattle.sheet.specs.Answered.{checked_in, contents_in}
use Rattle.tree.specs.inner.Known.{Known}
use Rattle.tree.proofs.Pass.{checked_is, known, known_few}
use Rattle.report.proofs.Pages.{refused_listing, taken_listing}
use Rattle.report.proofs.listing.listing.Goals as goal
use Rattle.report.proofs.listing.listing.Goals.{In-Ok}

pub returns-in-Err : goal.returns-in-Err
returns-in-Err c =
    let f = c.in-Err.fault in
    refused_listing _ _ (checked_in (Err f)) (checked_is _ (contents_in (Err f)) c.in-Err.ensures) (some f.refusal) (rw c.refused_line.ensures at c.put_line-in-Err.ensures)

-- the sheet is taken, and its edges and count are known
taken : (c : In-Ok) → Known c.args.sheet.now c.in-Ok.contents.edges c.in-Ok.contents.count
taken c = known _ (contents_in (Ok c.in-Ok.contents)) c.in-Ok.ensures refl

pub add_components-at-requires : goal.add_components-at-requires
add_components-at-requires c = taken (goal.at.add_components-at-requires c).In-Ok

pub put_line-requires : goal.put_line-requires
put_line-requires c = omega (arith, known_few (taken (goal.at.put_line-requires c).In-Ok), c.add_components-at.ensures.room)

pub returns-in-Ok : goal.returns-in-Ok
returns-in-Ok c =
    let x = c.in-Ok.contents in
    taken_listing _ _ (checked_in (Ok x.count)) (checked_is _ (contents_in (Ok x)) c.in-Ok.ensures) refl (known_few (taken (goal.at.returns-in-Ok c).In-Ok)) c.add_components-at.ensures (rw c.end_line.ensures at c.put_line.ensures)
