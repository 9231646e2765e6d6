-- Components that are the same (RULES 2) are judged alike: no answer of the judge reads the task places from the count on.
use mathlib.Core.Path.{◌≡◌}
use Rattle.budget.specs.declared.component.Capacity.{Capacity}
use Rattle.budget.specs.declared.component.Capacity.TheVariants.{Stated, Asked}
use Rattle.budget.specs.declared.component.Component.{Component}
use Rattle.budget.specs.Component.{Same, common_period_of}
use Rattle.budget.proofs.EditLaws.{same_answers}
use Rattle.judge.specs.Capacity.{capacity_of, capacity_answer}
use Rattle.judge.specs.Judged.{judged_at, verdict_answer}
use Rattle.judge.specs.Margin.{margined_at, margin_answer}

pub record SameAnswers (a b : Component) : Type 0 where
  pub verdict : verdict_answer a ≡ verdict_answer b
  pub capacity : capacity_answer a ≡ capacity_answer b
  pub margin : margin_answer a ≡ margin_answer b

-- the verdict and the margin at each capacity, and the smallest capacity, are the same
module _ (a b : Component) (s : Same a b) where
  same_capacity : capacity_of a ≡ capacity_of b
  unfolding capacity_of common_period_of
  same_capacity = rw (s.tasks, s.period, s.deadline)

  same_judged : (k : Capacity) → judged_at a k ≡ judged_at b k
  unfolding judged_at common_period_of
  same_judged (Stated u) = rw (s.tasks, s.period, s.deadline)
  same_judged Asked = rw (same_capacity, s.deadline)

  same_margined : (k : Capacity) → margined_at a k ≡ margined_at b k
  unfolding margined_at common_period_of
  same_margined (Stated u) = rw (s.tasks, s.period, s.deadline)
  same_margined Asked = rw (same_capacity, s.tasks, s.period, s.deadline)

  pub same_answers_judged : SameAnswers a b
  unfolding verdict_answer capacity_answer margin_answer
  same_answers_judged =
      let refusal = (same_answers a b s).refusal in
      record {
        verdict = rw (refusal, same_judged, s.capacity);
        capacity = rw (refusal, same_capacity, s.deadline);
        margin = rw (refusal, same_margined, s.capacity);
      }
