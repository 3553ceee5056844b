-- The rows of a line: how many words it has, and what the word at each place says. Source: this project's rule.
use Rattle.std.specs.Prelude.{ℕ, ◌==◌, List, length, Option, Result, Ok, Err, if◌then◌else◌, ok_or}
use Rattle.blot_console.specs.declared.fault.Wrong.{Wrong}
use Rattle.blot_console.specs.declared.fault.Wrong.TheVariants.{WrongCount, BadValue}
use Rattle.blot_console.specs.Words.{word_at}

-- a line has so many words, the first among them
unfoldable pub counted : ℕ → List (List ℕ) → Result (Unit {0}) Wrong
counted count words = if length words == count then Ok tt else Err WrongCount

-- what a word says, or that the word at this place is bad
abbrev pub at : {A : Type 0} → ℕ → Option A → Result A Wrong
at place said = ok_or said (BadValue place)

-- what the word at a place says, by a form
unfoldable pub value_at : {A : Type 0} → ℕ → (List ℕ → Option A) → List (List ℕ) → Result A Wrong
value_at place form words = at place (form (word_at place words))
