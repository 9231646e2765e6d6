-- The least of what waits, by deadline, task and place, is the job that the slot serves.
use mathlib.Core.Path.{◌≡◌, refl, ◌∙◌}
use Prim.Native.Nat.{ℕ, ◌<◌}
use mathlib.Core.List.{List}
use lib.ListN.{length, get_or}
use borrow.Author.Rules.{rules}
use borrow.Author.Tests.{tests}
use native.Mathlib.Omega.{arith}
use Rattle.std.proofs.lemmas.Iterator.{YieldsList-from_map, YieldsList-from_range}
use Rattle.std.proofs.lemmas.Iterator.Consumers.{YieldsList-at, YieldsList-from_filter, reduce_from_yields_List}
use Rattle.std.proofs.lemmas.Bool.Decides.{nat_tests}
use Rattle.std.specs.Prelude.{Option, None, Some, unwrap_or, option_map}
use Rattle.std.specs.Ordering.{nat_cmp, ordering_then, min_by_ordering}
use Rattle.run.proofs.Picks.{pick, reduced}
use Rattle.run.proofs.Scans.{goes_at, waits_at, first_waiting, next_first}
use Rattle.run.proofs.scan.Timed.choose.Goals as goal

-- of two places the one with the lower pair of deadline and task is kept, and the first where the pairs are the same
module _ (due ts : List ℕ) where
  key : ℕ → ℕ × ℕ × ℕ
  key i = (get_or due i 0, get_or ts i 0, i)

  kept : (i k : ℕ) → i < k
      → min_by_ordering (ordering_then (ordering_then (nat_cmp (get_or due i 0) (get_or due k 0)) (nat_cmp (get_or ts i 0) (get_or ts k 0))) (nat_cmp i k)) (key i) (key k)
      ≡ key (pick (goes_at due ts) i k)
  kept i k h = grind (arith, nat_tests)

-- the place alone
placed : (due ts : List ℕ) (o : Option ℕ) (n : ℕ) → unwrap_or (option_map (λ (t : ℕ × ℕ × ℕ). t.2) (option_map (key due ts) o)) n ≡ unwrap_or o n
unfolding key
placed due ts None n = refl
placed due ts (Some i) n = refl

pub returns-clause-value : goal.returns-clause-value
unfolding key
returns-clause-value c =
    λ ks dues.
    let s = c.args.self.now in
    let left = c.args.left.now in
    let least =
    reduce_from_yields_List _ _ _ c.min.ensures.ran
    (YieldsList-from_map _ (key s.due.now s.aligned.jobs.tasks.now)
    (YieldsList-at c.map.ensures.source
    (YieldsList-from_filter _ (waits_at s.aligned.jobs.ready.now left c.args.n) (YieldsList-from_range 0 (length left) _ c.filter.ensures.source (omega arith))
    c.filter.ensures.closure (λ x b q k. search (rules, tests))))
    c.map.ensures.closure (λ x b q k. search rules))
    ∙ reduced (goes_at s.due.now s.aligned.jobs.tasks.now) (waits_at s.aligned.jobs.ready.now left c.args.n) (key s.due.now s.aligned.jobs.tasks.now) _
    (λ i k h. kept s.due.now s.aligned.jobs.tasks.now i k h) 0 (length left) in
    let place : unwrap_or c.map-2.result (length left) ≡ unwrap_or (option_map (λ (t : ℕ × ℕ × ℕ). t.2) c.min.result) (length left) = search (rules, tests) in
    place ∙ rw least (placed s.due.now s.aligned.jobs.tasks.now (first_waiting s.due.now s.aligned.jobs.tasks.now s.aligned.jobs.ready.now left c.args.n) (length left))
    ∙ next_first ks s.aligned.jobs s.aligned.even s.due.now left dues (omega (arith, s.long, c.requires)) c.args.n
