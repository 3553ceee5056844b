-- How a run ends whose words are refused, and what standard error is told.
use Rattle.std.specs.Prelude.{ℕ, Bool, true, false, List, Option, Some}
use Rattle.std.specs.Str.{trim_end}
use Rattle.blot_stream.specs.declared.outcome.Outcome.{Outcome}
use Rattle.blot_stream.specs.declared.outcome.Outcome.TheVariants.{BadWords as WordsRefused, NoMemory as OutOfMemory}
use Rattle.blot_stream.specs.Outcome.{last_line_of}
use Rattle.blot_arguments.specs.declared.refusal.Refusal.{Refusal}
use Rattle.blot_arguments.specs.declared.refusal.Refusal.TheVariants.{Usage, NoMemory}

-- out of memory is told apart from words that are refused
abbrev pub outcome_of : Refusal → Outcome
outcome_of NoMemory = OutOfMemory
outcome_of refusal = WordsRefused

-- whether a sentence is told first: not where the text of clap says all, nor out of memory
abbrev pub has_sentence : Refusal → Bool
has_sentence (Usage text) = false
has_sentence NoMemory = false
has_sentence refusal = true

-- what standard error is told last, without its last LF: the text of clap without the white space at its end, or
-- else the outcome's last line
abbrev pub text_of : Refusal → Option (List ℕ)
text_of (Usage text) = Some (trim_end text.bytes.items)
text_of NoMemory = last_line_of OutOfMemory
text_of refusal = last_line_of WordsRefused
