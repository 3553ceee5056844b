-- The words of an operator's line, divided by tabs. Source: this project's rule.
use Rattle.std.specs.Prelude.{◌≡◌, ℕ, ◌<◌, ◌==◌, Bool, List, [], ◌∷◌, length, slice_index_or, Option, Some, None}
use Rattle.std.specs.Borrow.{Bor}
use Rattle.std.specs.List.{slice_split}

-- the byte between two words
abbrev pub is_tab : ℕ → Bool
is_tab byte = byte == 9

-- the words of a line; an empty line has one, which is empty
abbrev pub words_of : List ℕ → List (List ℕ)
words_of line = slice_split is_tab line

-- the words after a tab, if there is one
abbrev pub words_behind : Option (List ℕ) → List (List ℕ)
words_behind None = []
words_behind (Some rest) = words_of rest

-- the word at a place: the first of a line stands at 0
abbrev pub word_at : ℕ → List (List ℕ) → List ℕ
word_at place words = slice_index_or words place []

-- the first two words are given, and the others are left; or there is no word or one
abbrev pub GivesPair : List (List ℕ) → Option (Bor (List ℕ) × Bor (List ℕ)) → List (List ℕ) → Type 0
GivesPair old None new = length old < 2
GivesPair old (Some pair) new = old ≡ pair.0.now ∷ pair.1.now ∷ new
