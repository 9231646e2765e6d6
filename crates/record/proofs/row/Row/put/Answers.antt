-- Field by field: the fields left to store, put onto the part as it stands, give the last part.
use Prim.Native.Nat.{◌+◌, ◌-◌, ◌<◌}
use mathlib.Core.List.{[], ◌∷◌, ◌++◌}
use mathlib.Core.Path.{◌≡◌, sym, ◌∙◌}
use lib.ListN.{length, get_or, length-take}
use borrow.Author.Rules.{rules}
use native.Mathlib.Omega.{arith}
use Rattle.std.proofs.lemmas.List.{length_push}
use Rattle.std.proofs.lemmas.Slice.Zip.{zip_turn}
use Rattle.record.proofs.KindLaws.{narrow}
use Rattle.record.proofs.RowLoops.{storing_part}
use Rattle.record.proofs.row.Row.put.Goals as goal
use Rattle.record.proofs.row.Row.put.Goals.{In-Some}

-- the field and the value of this turn
turn : (c : In-Some) → (length c.loop-width.yielded < length c.args.self.widths)
    × (c.in-Some.width.now ≡ get_or c.args.self.widths (length c.loop-width.yielded) 0)
    × (c.in-Some.value.now ≡ get_or c.args.values (length c.loop-width.yielded) 0)
turn c = let a = c.args in let l = c.loop-width in
    let t = zip_turn a.self.widths a.values l.yielded c.into_iter-width-iterator.result l.width-iterator c.next.new.self _ (cc) (cc) l.yielded_by (c.in-Some.width, c.in-Some.value) c.in-Some.is c.next.ensures.steps in
    (t.0, t.2 0, t.3 0)

pub put_number-requires : goal.put_number-requires
put_number-requires c = let t = turn (goal.at.put_number-requires c).In-Some in
    rw length-take (omega (arith, t.1, narrow c.args.self.widths c.args.self.narrow (length c.loop-width.yielded)))

pub loop-width-preserved : goal.loop-width-preserved
loop-width-preserved c = let a = c.args in let l = c.loop-width in let w = c.in-Some.width in let v = c.in-Some.value in
    let n : length a.self.widths ≡ 8 = search rules in
    let m : length a.values ≡ 8 = search rules in
    let t = turn (goal.at.loop-width-preserved c).In-Some in
    let next = length (l.yielded ++ ((w, v) ∷ [])) in
    let more : next ≡ length l.yielded + 1 = length_push l.yielded (w, v) in (
      (tt, tt),
      tt,
      storing_part a.part.now a.self.widths a.values (m ∙ sym n) l.part l.place (length l.yielded) l.invariant.2
          w.now v.now (l.place + w.now - l.place) next c.put_number.new.bytes c.requires t.0 t.1 t.2 (omega arith) more c.put_number.ensures,
    )
