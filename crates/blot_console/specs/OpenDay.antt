-- The two lines that an open day has and no other, and what is told of sessions. Source: this project's rule.
use Rattle.std.specs.Prelude.{ℕ, ◌==◌, nat_le, Bool, true, false, List, [], ◌∷◌, ◌++◌, length, codes, Option, Some, None, option_map, Result, Ok, Err, if◌then◌else◌, flat_map}
use Rattle.blot_types.specs.Keys.{same_text}
use Rattle.blot_report.specs.Text.{end_text}
use Rattle.blot_console.specs.declared.{fault.LineFault.LineFault, fault.LineFault.TheVariants.WrongCount, open_day.DayAsk.DayAsk, open_day.SessionLine.SessionLine, parsing.TheConstants.LINE_MAX}
use Rattle.blot_console.specs.declared.open_day.DayAsk.TheVariants.{Close, Sessions}
use Rattle.blot_console.specs.Replies.{word_text, number_text}
use Rattle.blot_console.specs.Words.{words_of, word_at}

-- what a first word asks that only an open day knows
unfoldable pub day_ask_of : List ℕ → Option DayAsk
day_ask_of word =
    if same_text word (codes "close") then Some Close
    else (if same_text word (codes "sessions") then Some Sessions
    else None)

-- it is the only word
abbrev pub day_asked : DayAsk → List (List ℕ) → Result DayAsk LineFault
day_asked ask words = if length words == 1 then Ok ask else Err WrongCount

-- what a line of words asks of an open day, or that its words are too many
unfoldable pub day_words : List (List ℕ) → Option (Result DayAsk LineFault)
day_words words = option_map (λ ask. day_asked ask words) (day_ask_of (word_at 0 words))

-- a line of bytes; none where it is no line that only an open day knows, or is too long
unfoldable pub day_parsed : List ℕ → Option (Result DayAsk LineFault)
day_parsed line = if nat_le (length line) LINE_MAX then day_words (words_of line) else None

-- whether a session is on
abbrev pub on_text : Bool → List ℕ
on_text true = codes "on"
on_text false = codes "off"

-- a session: its peer, whether it is on, and the number that is expected
abbrev pub session_text : SessionLine → List ℕ
session_text line = codes "session" ++ word_text line.peer ++ word_text (on_text line.is_on) ++ number_text line.expected ++ 10 ∷ []

-- lines of sessions, and how many they are
abbrev pub sessions_answer : List SessionLine → List ℕ
sessions_answer lines = flat_map session_text lines ++ end_text (length lines)
