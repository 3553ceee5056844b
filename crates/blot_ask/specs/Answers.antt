-- Which answers are lists, and when an answer is complete. Source: this project's rule.
use Rattle.std.specs.Prelude.{ℕ, Bool, true, false, not, ◌&&◌, ◌||◌, ◌==◌, if◌then◌else◌, List, [], ◌∷◌, codes}
use Rattle.std.specs.List.{before_first, list_any}
use Rattle.blot_types.specs.Keys.{same_text}

-- a byte divides words
abbrev pub is_tab : ℕ → Bool
is_tab byte = byte == 9

-- the first word of a line
abbrev pub first_word : List ℕ → List ℕ
first_word line = before_first is_tab line

-- whether a line is a single word
abbrev pub is_single : List ℕ → Bool
is_single line = not (list_any is_tab line)

-- whether a word asks for a list: its answer ends with a line of its own
unfoldable pub is_list : List ℕ → Bool
is_list word =
    same_text word (codes "report") || same_text word (codes "execution") || same_text word (codes "allocation") || same_text word (codes "orders")
    || same_text word (codes "positions") || same_text word (codes "steps") || same_text word (codes "refusals") || same_text word (codes "sessions")

-- whether a line ends a list: the line `end`, or in place of the whole list a single word, as `none`, or a line that tells what is wrong
unfoldable pub ends_list : Bool → List ℕ → Bool
ends_list is_first line =
    same_text (first_word line) (codes "end") || (is_first && (is_single line || same_text (first_word line) (codes "bad")))

-- whether the answer to a line is complete with a line of it, its first or a later one
abbrev pub is_complete : List ℕ → Bool → List ℕ → Bool
is_complete asked is_first line = not (is_list (first_word asked)) || ends_list is_first line

-- whether there are no lines
abbrev pub is_none : List (List ℕ) → Bool
is_none [] = true
is_none (line ∷ lines) = false

-- whether lines are the answer to a line: they go on to the one with which it is complete, and no further
abbrev pub is_answer_from : List ℕ → Bool → List (List ℕ) → Bool
is_answer_from asked is_first [] = false
is_answer_from asked is_first (line ∷ lines) = if is_complete asked is_first line then is_none lines else is_answer_from asked false lines

abbrev pub is_answer : List ℕ → List (List ℕ) → Bool
is_answer asked lines = is_answer_from asked true lines
