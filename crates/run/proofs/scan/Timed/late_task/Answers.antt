-- The least of the late jobs' task numbers is the lowest late task.
use Prim.Native.Nat.{ℕ, ◌-◌}
use mathlib.Core.Path.{refl, sym, ap, ◌∙◌}
use lib.ListN.{length, get_or}
use borrow.Author.Rules.{rules}
use borrow.Author.Tests.{tests}
use native.Mathlib.Omega.{arith}
use Rattle.std.specs.Prelude.{Option, unwrap_or}
use Rattle.budget.specs.Limits.{most_tasks}
use Rattle.std.proofs.lemmas.Iterator.Adapters.{option_map_id}
use Rattle.std.proofs.lemmas.Iterator.{YieldsList-from_map, YieldsList-from_range}
use Rattle.std.proofs.lemmas.Iterator.Consumers.{YieldsList-at, YieldsList-from_filter, min_from_yields_List}
use Rattle.run.proofs.Scans.{late_at, late_least}
use Rattle.run.proofs.scan.Timed.late_task.Goals as goal

pub returns-clause-value : goal.returns-clause-value
returns-clause-value c =
    λ ks dues.
    let s = c.args.self.now in
    let left = c.args.left.now in
    ap (λ (o : Option ℕ). unwrap_or o most_tasks)
    (sym (option_map_id c.min.result)
    ∙ min_from_yields_List _ _ c.min.ensures.ran
    (YieldsList-from_map _ (λ i. get_or s.aligned.jobs.tasks.now i 0)
    (YieldsList-at c.map.ensures.source
    (YieldsList-from_filter _ (late_at s.due.now left c.args.t) (YieldsList-from_range 0 (length left) _ c.filter.ensures.source refl)
    c.filter.ensures.closure (λ x b q k. search (rules, tests))))
    c.map.ensures.closure (λ x b q k. search rules)))
    ∙ late_least ks s.aligned.jobs s.aligned.even s.due.now left dues (omega (arith, s.long, c.requires)) s.numbered c.args.t 0 (length left - 0) (omega arith)
