-- Who made each command of a desk, by the name that the caller of its seat has.
use Rattle.std.specs.Prelude.{◌≡◌, ℕ, ◌+◌, ◌-◌, ◌<◌, List, [], ◌∷◌, ◌++◌, All, codes, length, map, reverse, slice_index_or, take}
use Rattle.blot_desk.specs.declared.{event.Event.Event, event.Event.TheVariants.Submit, event.Reply.Reply, question.Found.Found, question.Question.Question, question.StepRow.StepRow}
use Rattle.blot_desk.specs.declared.event.Reply.TheVariants.{Accepted, Refused}
use Rattle.blot_desk.specs.declared.question.Found.TheVariants as found
use Rattle.blot_desk.specs.declared.question.StepRow.TheVariants as steps
use Rattle.blot_desk.specs.Desk.{IsRun, DeskState}
use Rattle.blot_desk.specs.Questions.{found_of, refusals_from}

-- the makers of the commands that were accepted, the k-th that of the command of number k; and of those that were refused, in their order
pub record Makers : Type 0 where
  pub accepted : List (List ℕ)
  pub refused : List (List ℕ)

-- nobody made a command yet
abbrev pub no_makers : Makers
no_makers = record { accepted = []; refused = [] }

-- one event more: the maker of a command is put behind those of the commands that were accepted or refused as it was
abbrev pub with_maker : List ℕ → Event → Reply → Makers → Makers
with_maker maker (Submit command) (Accepted number) makers = record makers { accepted = makers.accepted ++ maker ∷ [] }
with_maker maker (Submit command) (Refused reason) makers = record makers { refused = makers.refused ++ maker ∷ [] }
with_maker maker event reply makers = makers

-- the makers are those of what a desk holds: a command that is accepted has the next number, and so many numbers are given as makers of such
-- commands are noted; and each refused command has its maker
pub record AreMakers (makers : Makers) (desk : DeskState) : Type 0 where
  pub of_accepted : length makers.accepted + 1 ≡ desk.book.next
  pub of_refused : length makers.refused ≡ length (refusals_from 1 desk.history)

-- ---- who made what a question is answered

-- the name of a caller without one
abbrev pub no_name : List ℕ
no_name = codes "*"

-- the number of a done step
abbrev pub step_number : StepRow → ℕ
step_number (steps.Entry entry) = entry.number
step_number (steps.Withdraw number withdrawn) = number
step_number (steps.Withdrawn number) = number

-- who made a done step. The first number is 1. Each step has a maker: `*` stands here so that a step of no number would be told too
abbrev pub maker_of_step : Makers → StepRow → List ℕ
maker_of_step makers row = slice_index_or makers.accepted (step_number row - 1) no_name

abbrev pub step_makers : Makers → List StepRow → List (List ℕ)
step_makers makers rows = map (maker_of_step makers) rows

-- who made so many of the newest refused commands, the newest first
abbrev pub refusal_makers : ℕ → Makers → List (List ℕ)
refusal_makers count makers = take count (reverse makers.refused)

-- who made each row of what was found, in their order; nobody is told of what else was found
abbrev pub makers_of : Makers → Found → List (List ℕ)
makers_of makers (found.Steps rows) = step_makers makers rows
makers_of makers (found.Refusals rows) = refusal_makers (length rows) makers
makers_of makers other = []

-- an answer is that of what a desk held after a run of some events, and the names are those of its makers then
pub record IsFoundBy (question : Question) (answer : Found) (names : List (List ℕ)) : Type 0 where
  pub desk : DeskState
  pub makers : Makers
  pub run : IsRun desk
  pub made : AreMakers makers desk
  pub found_is : answer ≡ found_of desk question
  pub names_are : names ≡ makers_of makers answer

-- ---- names by their places

-- the name at a place, and those at some places
abbrev pub name_at : List (List ℕ) → ℕ → List ℕ
name_at names place = slice_index_or names place no_name

abbrev pub names_at : List (List ℕ) → List ℕ → List (List ℕ)
names_at names places = map (name_at names) places

-- some places are within a list of names
abbrev pub AreWithin : List (List ℕ) → List ℕ → Type 0
AreWithin names places = All (λ place. place < length names) places

-- makers as they are noted: who they are, the names that have a place, and for how many more commands there is room
pub record NotedMakers : Type 0 where
  pub makers : Makers
  pub names : List (List ℕ)
  pub room : ℕ
