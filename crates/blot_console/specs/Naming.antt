-- The line by which an operator's connection names itself, and what is answered until it has a name. Source: this project's rule.
use Rattle.std.specs.Prelude.{ℕ, ◌==◌, nat_le, List, [], ◌∷◌, ◌++◌, length, codes, Option, Some, None, Result, Ok, Err, if◌then◌else◌}
use Rattle.blot_types.specs.Keys.{same_text}
use Rattle.blot_console.specs.declared.{fault.LineFault.LineFault, naming.Naming.Naming, parsing.TheConstants.LINE_MAX}
use Rattle.blot_console.specs.declared.fault.LineFault.TheVariants.{BadValue, TooLong, UnknownWord, WrongCount}
use Rattle.blot_console.specs.declared.naming.Naming.TheVariants.{Bad, Full, Named, Taken}
use Rattle.blot_console.specs.Answers.{bad_text}
use Rattle.blot_console.specs.Forms.{text_form}
use Rattle.blot_console.specs.Replies.{word_text, word_line}
use Rattle.blot_console.specs.Words.{words_of, word_at}

-- the word at place 1 is the name, where it has the form of one
abbrev pub name_by : Option (List ℕ) → Result (List ℕ) LineFault
name_by (Some name) = Ok name
name_by None = Err (BadValue 1)

-- the name that words give: the second of two, of which the first is `operator`
unfoldable pub name_in : List (List ℕ) → Result (List ℕ) LineFault
name_in words =
    if same_text (word_at 0 words) (codes "operator") then (if length words == 2 then name_by (text_form (word_at 1 words)) else Err WrongCount)
    else Err UnknownWord

-- the name that a line gives
unfoldable pub name_parsed : List ℕ → Result (List ℕ) LineFault
name_parsed line = if nat_le (length line) LINE_MAX then name_in (words_of line) else Err TooLong

-- the answer to such a line
abbrev pub naming_text : Naming → List ℕ
naming_text (Named name) = codes "operator" ++ word_text name ++ 10 ∷ []
naming_text Taken = word_line (codes "taken")
naming_text Full = word_line (codes "full")
naming_text (Bad fault) = bad_text fault
