-- How a run ends that failed, and what standard error is told.
use Rattle.std.specs.Prelude.{ℕ, Bool, true, false, List, Option, Err}
use Rattle.blot_stream.specs.declared.outcome.Outcome.{Outcome}
use Rattle.blot_stream.specs.declared.outcome.Outcome.TheVariants.{InputFault, NoMemory as OutOfMemory}
use Rattle.blot_stream.specs.Outcome.{last_line_of, served_outcome, outcome_of as stopped_outcome}
use Rattle.blot_arguments.specs.Refusal as refused
use Rattle.blotter_main.specs.declared.failure.Failure.{Failure}
use Rattle.blotter_main.specs.declared.failure.Failure.TheVariants.{Words, Stopped, Served, NoMemory}

abbrev pub outcome_of : Failure → Outcome
outcome_of (Words refusal) = refused.outcome_of refusal
outcome_of (Stopped fault) = stopped_outcome (Err fault)
outcome_of (Served fault) = served_outcome (Err fault)
outcome_of NoMemory = OutOfMemory
outcome_of _ = InputFault

-- out of memory is told by its last line alone
abbrev pub is_explained : Outcome → Bool
is_explained OutOfMemory = false
is_explained outcome = true

-- whether a sentence is told first
abbrev pub has_sentence : Failure → Bool
has_sentence (Words refusal) = refused.has_sentence refusal
has_sentence failure = is_explained (outcome_of failure)

-- what standard error is told last, without its last LF
abbrev pub text_of : Failure → Option (List ℕ)
text_of (Words refusal) = refused.text_of refusal
text_of failure = last_line_of (outcome_of failure)
