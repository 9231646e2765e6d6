-- The refusal numbers by name (RULES 12), and how an answer is read as such a number. 0 stands for no refusal.
use Rattle.std.specs.Prelude.{ℕ, Result, Ok, Err, ◌≡◌}
use Rattle.budget.specs.declared.refusal.Refusal.{Refusal}

abbrev pub none : ℕ
none = 0

-- a sheet that ends inside a record, or where one has to begin
abbrev pub cut : ℕ
cut = 1

-- a record of a kind that there is not
abbrev pub kind : ℕ
kind = 2

-- a record whose length is not its kind's
abbrev pub bad_length : ℕ
bad_length = 3

-- a task that no component stands before
abbrev pub no_component : ℕ
no_component = 4

-- component numbers that do not rise
abbrev pub number : ℕ
number = 5

-- too many tasks of one component
abbrev pub tasks : ℕ
tasks = 6

-- too many components of one sheet
abbrev pub components : ℕ
components = 7

-- an end record that counts wrongly, or that is not the last
abbrev pub end : ℕ
end = 8

-- a number out of its range
abbrev pub range : ℕ
range = 9

-- a common period above the limit
abbrev pub long : ℕ
long = 10

-- a buffer that does not fit what is to be written
abbrev pub room : ℕ
room = 11

-- jobs that are no legal arrival, or that the walk has no room for
abbrev pub jobs : ℕ
jobs = 12

-- a trace that is too long, or that has a byte other than 0 and 1
abbrev pub bad_trace : ℕ
bad_trace = 13

-- a sheet that is too long
abbrev pub sheet : ℕ
sheet = 14

-- a place at which no component or task stands
abbrev pub place : ℕ
place = 15

-- a pair that breaks the rules of pairs, or a record that may not stand behind a pair and does
abbrev pub pair : ℕ
pair = 16

-- a stored common period that is not the component's own
abbrev pub common : ℕ
common = 17

-- the number of each refusal of the code
abbrev pub number_of : Refusal → ℕ
number_of Refusal.Cut = cut
number_of Refusal.Kind = kind
number_of Refusal.Length = bad_length
number_of Refusal.NoComponent = no_component
number_of Refusal.Number = number
number_of Refusal.Tasks = tasks
number_of Refusal.Components = components
number_of Refusal.End = end
number_of Refusal.Range = range
number_of Refusal.Long = long
number_of Refusal.Room = room
number_of Refusal.Jobs = jobs
number_of Refusal.Trace = bad_trace
number_of Refusal.Sheet = sheet
number_of Refusal.Place = place
number_of Refusal.Pair = pair
number_of Refusal.Common = common

-- the number that an answer has: 0, or that of its refusal
abbrev pub number_in : {A : Type 0} → Result A Refusal → ℕ
number_in (Ok a) = none
number_in (Err r) = number_of r

-- no refusal has the number that stands for none
abbrev pub SomeNumber : Type 0
SomeNumber = (r : Refusal) → number_of r ≡ none → ⊥

-- a number says which refusal it is: no two have the same
abbrev pub NumbersApart : Type 0
NumbersApart = (a b : Refusal) → number_of a ≡ number_of b → a ≡ b
