-- What an edit of a component that is known to be right answers, in the numbers of RULES 11 and 12: as any edit's answer is read.
use Rattle.std.specs.Prelude.{Result, Ok, Err}
use Rattle.budget.specs.declared.refusal.Refusal.{Refusal}
use Rattle.budget.specs.declared.right.Known.{Known}
use Rattle.budget.specs.Edit.{Edited, edited_in}

abbrev pub known_in : Result Known Refusal → Edited
known_in (Ok k) = edited_in (Ok k.component)
known_in (Err r) = edited_in (Err r)
