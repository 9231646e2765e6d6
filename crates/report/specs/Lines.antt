-- The lines of the listing (RULES 15), as lists of bytes.
use Rattle.std.specs.Prelude.{ℕ, List, [], ◌∷◌, ◌++◌}
use Rattle.budget.specs.declared.quantity.Units.{Units}
use Rattle.judge.specs.numbers.Answer.{Answer}
use Rattle.judge.specs.numbers.Judged as Judged
use Rattle.judge.specs.numbers.Margined.{Margined}
use Rattle.judge.specs.declared.answer.Verdict.{Verdict}
use Rattle.tree.specs.numbers.Outcome.{Outcome}
use Rattle.report.specs.Text.{decimal, signed_text, spaced}

-- the fields behind a line's first, each behind a single space, and the newline
unfoldable pub behind : List (List ℕ) → List ℕ
behind [] = 10 ∷ []
behind (field ∷ fields) = spaced field ++ behind fields

-- the words in ASCII
abbrev pub refused_word : List ℕ
refused_word = 114 ∷ 101 ∷ 102 ∷ 117 ∷ 115 ∷ 101 ∷ 100 ∷ []

abbrev pub end_word : List ℕ
end_word = 101 ∷ 110 ∷ 100 ∷ []

abbrev pub accepted_word : List ℕ
accepted_word = 97 ∷ 99 ∷ 99 ∷ 101 ∷ 112 ∷ 116 ∷ 101 ∷ 100 ∷ []

abbrev pub short_word : List ℕ
short_word = 115 ∷ 104 ∷ 111 ∷ 114 ∷ 116 ∷ []

abbrev pub none_word : List ℕ
none_word = 110 ∷ 111 ∷ 110 ∷ 101 ∷ []

abbrev pub long_word : List ℕ
long_word = 108 ∷ 111 ∷ 110 ∷ 103 ∷ []

abbrev pub waiting_word : List ℕ
waiting_word = 119 ∷ 97 ∷ 105 ∷ 116 ∷ 105 ∷ 110 ∷ 103 ∷ []

abbrev pub dash_word : List ℕ
dash_word = 45 ∷ []

-- the one line of a refused sheet: the word, the refusal and the byte where the record begins
unfoldable pub refused_line : ℕ → ℕ → List ℕ
refused_line number place = refused_word ++ behind (decimal number ∷ decimal place ∷ [])

-- the margin and its instant, or a dash for each where there is no margin
unfoldable pub margin_fields : Margined → List (List ℕ)
margin_fields (Margined.Least margin instant) = signed_text margin ∷ decimal instant.0 ∷ []
margin_fields (Margined.Refused number) = dash_word ∷ dash_word ∷ []
margin_fields Margined.None = dash_word ∷ dash_word ∷ []

-- the word, the capacity it speaks of, a short one's first short instant, and the margin; `none` stands alone
unfoldable pub verdict_fields : Units → Verdict → Margined → List (List ℕ)
verdict_fields capacity Verdict.Accepted margined = accepted_word ∷ decimal capacity.0 ∷ margin_fields margined
verdict_fields capacity (Verdict.Short instant) margined = short_word ∷ decimal capacity.0 ∷ decimal instant.0 ∷ margin_fields margined
verdict_fields capacity Verdict.None margined = none_word ∷ []

-- a component that the judge refuses is long: 10 is the only refusal of one that stands in a taken sheet (OnlyLong of crate tree)
unfoldable pub answer_fields : Answer → List (List ℕ)
answer_fields answer =
    elim answer.verdict [
      | Judged.Refused number ↦ long_word ∷ []
      | Judged.Answered capacity verdict ↦ verdict_fields capacity verdict answer.margin
    ]

-- in its tree a component may have to wait
unfoldable pub outcome_fields : Outcome → List (List ℕ)
outcome_fields Outcome.Waiting = waiting_word ∷ []
outcome_fields (Outcome.Judged answer) = answer_fields answer

-- a component's line begins with its number
unfoldable pub component_line : ℕ → Outcome → List ℕ
component_line number outcome = decimal number ++ behind (outcome_fields outcome)

-- the last line of a taken sheet
unfoldable pub end_line : ℕ → List ℕ
end_line count = end_word ++ behind (decimal count ∷ [])
