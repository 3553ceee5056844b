-- What a typed line asks: a line whose words are divided by tabs. Source: this project's rule.
use Rattle.std.specs.Prelude.{ℕ, Bool, true, false, not, ◌&&◌, ◌==◌, List, [], ◌∷◌, map, if◌then◌else◌, filter}
use Rattle.std.specs.List.{join_by, list_any, slice_split}
use Rattle.blot_ask.specs.declared.typing.Mark.{Mark}
use Rattle.blot_ask.specs.declared.typing.Mark.TheVariants.{Letter, Quote, Gap}

-- what a byte is, inside of quotes or outside: a space is a gap between words outside alone
unfoldable pub mark_of : Bool → ℕ → Mark
mark_of quoted byte = if byte == 0x22 then Quote else if byte == 0x20 && not quoted then Gap else Letter byte

-- whether what comes behind a mark is inside of quotes
abbrev pub is_quoted_behind : Mark → Bool → Bool
is_quoted_behind Quote quoted = not quoted
is_quoted_behind Gap quoted = quoted
is_quoted_behind (Letter byte) quoted = quoted

-- the marks of a line, byte by byte
abbrev pub marks_of : Bool → List ℕ → List Mark
marks_of quoted [] = []
marks_of quoted (byte ∷ line) = mark_of quoted byte ∷ marks_of (is_quoted_behind (mark_of quoted byte) quoted) line

-- whether a mark divides words
abbrev pub is_gap : Mark → Bool
is_gap Gap = true
is_gap Quote = false
is_gap (Letter byte) = false

-- a piece between gaps is a word where something stands in it, were it a pair of quotes alone
abbrev pub is_word : List Mark → Bool
is_word [] = false
is_word (mark ∷ marks) = true

-- the bytes of a word, without its quotes
abbrev pub letters_of : List Mark → List ℕ
letters_of [] = []
letters_of (Letter byte ∷ marks) = byte ∷ letters_of marks
letters_of (Quote ∷ marks) = letters_of marks
letters_of (Gap ∷ marks) = letters_of marks

-- the words of a line that spaces divide
abbrev pub words_of : List ℕ → List (List ℕ)
words_of line = map letters_of (filter is_word (slice_split is_gap (marks_of false line)))

-- words with a tab between two
abbrev pub with_tabs : List (List ℕ) → List ℕ
with_tabs words = join_by (λ word. word) (9 ∷ []) words

-- what a typed line asks: a line with a tab in it stays as it is
unfoldable pub typed : List ℕ → List ℕ
typed line = if list_any (λ byte. byte == 9) line then line else with_tabs (words_of line)
