-- The first line end: what the search says of the bytes from the place on, said of all of them.
use Rattle.std.proofs.Common.{◌≡◌, ℕ, ◌+◌, ◌-◌, ◌<◌, ◌≤◌, drop, List, get_or, arith, get_or-drop, length-drop, sym, ap, ◌∙◌, rules, tests}
use Rattle.std.specs.List.{AllWithin}
use Rattle.std.proofs.lemmas.Iterator.{IsFirst-from_position, YieldsList-from_slice}
use Rattle.std.proofs.lemmas.List.{take_rest}
use Rattle.std.proofs.option.Match.{if_some, if_none}
use Rattle.lines.proofs.line_end.Goals as goal

-- what holds of none of the bytes from a place on holds of none of them all from that place on
passed_on : (bytes : List ℕ) (from r : ℕ) → AllWithin (λ byte. byte ≡ 10 → ⊥) (drop from bytes) 0 r → (k : ℕ) → k < from + r → from ≤ k → get_or bytes k 0 ≡ 10 → ⊥
passed_on bytes from r passed k below above ends =
    let place : from + (k - from) ≡ k = omega arith in
    passed (k - from) 0 (omega arith) (omega arith) (get_or-drop from bytes (k - from) 0 ∙ ap (λ i. get_or bytes i 0) place ∙ ends)

pub returns-in-Some : goal.returns-in-Some
returns-in-Some c =
    let first = if_some _ _ _ c.in-Some.is (IsFirst-from_position _ _ _ (λ byte. byte ≡ 10) (λ byte. byte ≡ 10 → ⊥) c.position.ensures.ran (YieldsList-from_slice (drop c.args.from c.args.bytes.now) (c.iter.ensures.rest ∙ take_rest c.args.bytes.now c.args.from)) (λ x q k. search (rules, tests)) (λ x q k. search (rules, tests))) in
    record {
      low = omega arith;
      none_before = passed_on c.args.bytes.now c.args.from c.in-Some.before first.2;
      ends = λ _. sym (get_or-drop c.args.from c.args.bytes.now c.in-Some.before 0) ∙ first.1 0;
    }

pub returns-in-None : goal.returns-in-None
returns-in-None c =
    let first = if_none _ _ c.in-None.is (IsFirst-from_position _ _ _ (λ byte. byte ≡ 10) (λ byte. byte ≡ 10 → ⊥) c.position.ensures.ran (YieldsList-from_slice (drop c.args.from c.args.bytes.now) (c.iter.ensures.rest ∙ take_rest c.args.bytes.now c.args.from)) (λ x q k. search (rules, tests)) (λ x q k. search (rules, tests))) in
    let long = length-drop c.args.from c.args.bytes.now in
    record {
      low = omega arith;
      none_before = λ k below above. passed_on c.args.bytes.now c.args.from _ first k (omega (arith, long)) above;
      ends = λ below. absurd (omega arith);
    }
