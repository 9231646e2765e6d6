-- From the highest byte down: the number is the field that begins at the byte read last.
use Prim.Native.Nat.{◌-◌, ◌^◌, ◌<◌}
use mathlib.Core.List.{[], ◌∷◌, ◌++◌}
use mathlib.Core.Path.{◌≡◌, ◌∙◌}
use lib.ListN.{length, get_or}
use native.Mathlib.Omega.{arith}
use Rattle.std.proofs.lemmas.Grind.{get_or_default_zero}
use Rattle.std.proofs.lemmas.Iterator.Adapters.{YieldsList-from_rev_slice}
use Rattle.std.proofs.lemmas.Iterator.Consumers.{YieldsList-turn}
use Rattle.std.proofs.lemmas.List.{length_push, length-reverse, get_or-reverse}
use Rattle.record.proofs.FieldLoops.{read_none, read_more, small}
use Rattle.record.proofs.field.number_in.Goals as goal
use Rattle.record.proofs.field.number_in.Goals.{In-Some}

pub loop-byte-init : goal.loop-byte-init
loop-byte-init c = (tt, tt, read_none c.args.bytes.now)

-- which byte this turn has
turn : (c : In-Some) → (length c.loop-byte.yielded < length c.args.bytes.now)
    × (c.in-Some.byte.now ≡ get_or c.args.bytes.now (length c.args.bytes.now - 1 - length c.loop-byte.yielded) 0)
turn c = let s = c.args.bytes.now in let l = c.loop-byte in let b = c.in-Some.byte.now in let k = length l.yielded in
    let t = YieldsList-turn (YieldsList-from_rev_slice s cc) l.yielded l.byte-iterator l.yielded_by c.next.result c.next.new.self c.in-Some.byte c.in-Some.is c.next.ensures.steps in
    let h : k < length s = omega (arith, t.0, length-reverse s) in
    (h, t.1 ∙ (get_or-reverse s k b h ∙ get_or_default_zero s (length s - 1 - k) b (omega arith)))

-- it is a byte, and what is read before it leaves room for it
byte : (c : In-Some) → (c.in-Some.byte.now < 256) × (c.loop-byte.number < 256 ^ 3)
byte c = let t = turn c in let i = c.loop-byte.invariant.2 in (
  rw (t.1) (c.type_inv.bytes (length c.args.bytes.now - 1 - length c.loop-byte.yielded)).fits,
  small (length c.loop-byte.yielded) c.loop-byte.number (omega (arith, t.0)) i.fits,
)

pub overflow_mul-number : goal.overflow_mul-number
overflow_mul-number c = let b = byte (goal.at.overflow_mul-number c).In-Some in record { fits = omega (arith, b.1) }

pub overflow_add-number : goal.overflow_add-number
overflow_add-number c = let b = byte (goal.at.overflow_add-number c).In-Some in record { fits = omega (arith, b.0, b.1, c.from.ensures) }

pub loop-byte-preserved : goal.loop-byte-preserved
loop-byte-preserved c = let s = c.args.bytes.now in let l = c.loop-byte in let w = (goal.at.loop-byte-preserved c).In-Some in
    let t = turn w in let b = byte w in let e = c.from.ensures in
    (tt, tt, read_more s l.number (length l.yielded) l.invariant.2 c.from.result (length (l.yielded ++ (c.in-Some.byte ∷ []))) t.0 (length_push l.yielded c.in-Some.byte) (e ∙ t.1) (omega (arith, b.0, e)))
