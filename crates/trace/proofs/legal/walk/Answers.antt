-- The walk's loop goes as `keeps` does: what it answers from here is what it answers from the start, and that is whether the trace is legal.
use Prim.Native.Nat.{ℕ, ◌+◌, ◌-◌, ◌≤◌, ◌<◌, zero-le}
use mathlib.Core.Path.{◌≡◌, refl, sym, ◌∙◌}
use mathlib.Core.Logic.{◌↔◌}
use mathlib.Core.Bool.{Bool, true, false, cond}
use mathlib.Core.List.{List}
use lib.ListN.{length, drop, get_or, drop_of_length-le}
use lib.Seq.{drop-cons}
use lib.Dec.{ltb, eqb}
use borrow.Author.Tests.{lt-ltb, le-ltb, eq-eqb, ne_eqb}
use native.Mathlib.Decide.{ℕ_discrete}
use native.Mathlib.Numerals.{add-one}
use native.Mathlib.Omega.{arith}
use Rattle.budget.specs.declared.interface.Interface.{Interface}
use Rattle.budget.specs.Interface.{Π, Θ, Δ}
use Rattle.budget.specs.Refusal as refusal
use Rattle.trace.specs.Answer.{trace_refusal}
use Rattle.trace.specs.Legal.{Legal}
use Rattle.trace.proofs.Walk.{lacks, next, carried, keeps, legal_exactly}
use Rattle.trace.proofs.Refusals.{taken}
use Rattle.trace.proofs.legal.walk.Goals as goal

at : (p d k m l : ℕ) (s : List ℕ) (i : ℕ) → i < length s
    → keeps p d k m l (drop i s)
    ≡ cond (ltb k (lacks d m l (get_or s i 0))) false (keeps p d k (next p m) (carried p m (lacks d m l (get_or s i 0))) (drop (i + 1) s))
unfolding keeps
at p d k m l s i h = rw (add-one i, drop-cons s i 0)

-- a slot with which its period lacks too much, and one with which it doesn't
stop : (p d k m l : ℕ) (s : List ℕ) (i n : ℕ) → i < length s → n ≡ lacks d m l (get_or s i 0) → k < n → keeps p d k m l (drop i s) ≡ false
stop p d k m l s i n h e q = rw (at p d k m l s i h, ← e, lt-ltb k n q)

on : (p d k m l : ℕ) (s : List ℕ) (i n m' l' : ℕ) → i < length s → n ≡ lacks d m l (get_or s i 0) → n ≤ k → l' ≡ carried p m n → m' ≡ next p m
    → keeps p d k m' l' (drop (i + 1) s) ≡ keeps p d k m l (drop i s)
on p d k m l s i n m' l' h e q a b = rw (at p d k m l s i h, ← e, le-ltb k n q, ← a, ← b)

next_below : (p m : ℕ) → m < p → next p m < p
next_below p m h = go (ℕ_discrete (m + 1) p)
  where
    go : Dec (m + 1 ≡ p) → next p m < p
    go (yes e) = rw (eq-eqb (m + 1) p e) (omega arith)
    go (no e) = rw (ne_eqb (m + 1) p e) (omega arith)

carried_most : (p m n k : ℕ) → n ≤ k → carried p m n ≤ k
carried_most p m n k h = go (eqb (m + 1) p)
  where
    go : (t : Bool) → cond t 0 n ≤ k
    go true = zero-le
    go false = h

-- what the walk from the start says is whether the trace is legal
answers : (i : Interface) (o : ℕ) (s : List ℕ) → trace_refusal i o s ≡ refusal.none → (t : Bool) → t ≡ keeps (Π i) (Δ i) (Δ i - Θ i) o 0 s
    → (t ≡ true) ↔ Legal i o s
answers i o s e t q =
    let h = taken i o s e in
    rw q (legal_exactly i h.valid o h.below s h.bits)

pub overflow_sub-slack : goal.overflow_sub-slack
overflow_sub-slack c =
    let v = (taken _ _ _ c.requires).valid in
    omega (arith, v.fits, v.within)

pub loop-byte-init : goal.loop-byte-init
loop-byte-init c = ((taken _ _ _ c.requires).below, zero-le, refl)

pub lacking-lacks-requires : goal.lacking-lacks-requires
lacking-lacks-requires c =
    let v = (taken _ _ _ c.requires).valid in
    omega (arith, v.within, v.bounded)

pub returns-then-slack-lacks : goal.returns-then-slack-lacks
returns-then-slack-lacks c =
    answers _ _ _ c.requires false
    (sym (stop _ _ _ _ _ _ _ _ c.loop-byte-test.true c.lacking-lacks.ensures c.if-slack-lacks.true) ∙ c.loop-byte.invariant.2)

pub loop-byte-preserved : goal.loop-byte-preserved
loop-byte-preserved c =
    let l = c.loop-byte in
    let p = Π c.args.interface in
    let n = c.next-slot.ensures in (
      rw n.place (next_below p l.slot.place l.invariant.0),
      rw n.lacks (carried_most p l.slot.place _ _ c.if-slack-lacks.false),
      on _ _ _ _ _ _ _ _ _ _ c.loop-byte-test.true c.lacking-lacks.ensures c.if-slack-lacks.false n.lacks n.place ∙ l.invariant.2,
    )

pub returns : goal.returns
unfolding keeps
returns c =
    answers _ _ _ c.requires true (rw (drop_of_length-le _ c.loop-byte-test.false) at c.loop-byte.invariant.2)
