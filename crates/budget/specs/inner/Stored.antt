-- What a stored common period says by itself: L, or refusal 10 for the mark. Of a component in its ranges whose stored value is right it is what the
-- common period's operation answers.
use Rattle.budget.specs.declared.common.Common.{Common}
use Rattle.budget.specs.declared.common.Common.TheVariants.{Within, Above}
use Rattle.budget.specs.Answered.{CommonPeriod}
use Rattle.budget.specs.Refusal as refusal

unfoldable pub stored_answer : Common → CommonPeriod
stored_answer (Within l) = record { refusal = refusal.none; length = l }
stored_answer Above = record { refusal = refusal.long; length = record { 0 = 0 } }
