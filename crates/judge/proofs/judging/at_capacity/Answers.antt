-- `judge::judging::at_capacity` meets its contract: verdict and margin are read from what the scan up to L finds.
use mathlib.Core.Path.{◌∙◌, ap₂}
use Rattle.judge.specs.inner.Tried.{short_on, tight_on}
use Rattle.judge.proofs.AnswerLaws.{scanned_answer}
use Rattle.judge.proofs.MarginLaws.{tight_small}
use Rattle.judge.proofs.Whole.{scannable}
use Rattle.judge.proofs.judging.at_capacity.Goals as goal

pub scan-found-requires : goal.scan-found-requires
scan-found-requires c = rw (c.tasks.ensures, c.interface_at-interface.ensures) (scannable _ _ c.args.judgeable.whole _ c.requires)

pub margin_from-requires : goal.margin_from-requires
margin_from-requires c =
    let s = scannable _ _ c.args.judgeable.whole _ c.requires in
    tight_small _ _ _ _ s (c.scan-found.ensures.tight ∙ ap₂ (λ ks i. tight_on ks i c.args.judgeable.length.0) c.tasks.ensures c.interface_at-interface.ensures)

pub returns : goal.returns
returns c =
    scanned_answer _ _ _ _ _ _ _ c.args.judgeable.whole.is
    (c.scan-found.ensures.short ∙ ap₂ (λ ks i. short_on ks i c.args.judgeable.length.0) c.tasks.ensures c.interface_at-interface.ensures)
    (c.scan-found.ensures.tight ∙ ap₂ (λ ks i. tight_on ks i c.args.judgeable.length.0) c.tasks.ensures c.interface_at-interface.ensures)
    c.verdict_from.ensures
    c.margin_from.ensures
