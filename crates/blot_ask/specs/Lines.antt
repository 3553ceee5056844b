-- The lines of a text, and the texts of lines. Source: this project's rule.
use Rattle.std.specs.Prelude.{◌≡◌, ℕ, Bool, true, false, ◌==◌, List, [], ◌∷◌, ◌++◌, Option, Some, IfSome, flat_map}
use Rattle.std.specs.List.{list_all, list_any}
use Rattle.std.specs.Io.KnownBytes.{Consumes, IsAtEnd, prepend_known}
use Rattle.blot_stream.specs.Texts.{lines_of}

-- a line with its LF, and lines with theirs
abbrev pub with_end : List ℕ → List ℕ
with_end line = line ++ 10 ∷ []

abbrev pub text_of : List (List ℕ) → List ℕ
text_of lines = flat_map with_end lines

-- a byte ends a line
abbrev pub is_end : ℕ → Bool
is_end byte = byte == 10

-- nothing is asked by a line of spaces, or of nothing at all
abbrev pub is_blank : List ℕ → Bool
is_blank line = list_all (λ byte. byte == 0x20) line

-- the bytes that a stream has left, behind those that were read ahead
abbrev pub unread : List ℕ → Option (List ℕ) → Option (List ℕ)
unread ahead known = prepend_known ahead known

-- a line is taken, which an LF ended, or else the end of the stream
abbrev pub TakesLine : Bool → Option (List ℕ) → Option (List ℕ) → List ℕ → Type 0
TakesLine true before after line = Consumes before after (with_end line) × (list_any is_end line ≡ false)
TakesLine false before after line = Consumes before after line × (list_any is_end line ≡ false) × IsAtEnd after

-- a line of an input is taken, or the input is over. A last line needs no LF, unless it is empty
abbrev pub TakesInput : Bool → Option (List ℕ) → Option (List ℕ) → List ℕ → Type 0
TakesInput true before after line = IfSome before (λ bytes. (rest : List ℕ) × (after ≡ Some rest) × (lines_of bytes ≡ line ∷ lines_of rest))
TakesInput false before after line = IsAtEnd before × IsAtEnd after

-- a stream gave more ahead, or has ended
abbrev pub Refills : Bool → List ℕ → Option (List ℕ) → Option (List ℕ) → Type 0
Refills true ahead before after = Consumes before after ahead
Refills false ahead before after = (ahead ≡ []) × Consumes before after [] × IsAtEnd after
