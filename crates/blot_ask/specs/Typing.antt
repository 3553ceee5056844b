-- A typed line as its bytes come: the text so far, and what is yet added to it. Source: this project's rule.
use Rattle.std.specs.Prelude.{◌≡◌, ℕ, Bool, List, [], ◌∷◌, ◌++◌, map, filter, flat_map}
use Rattle.std.specs.List.{slice_split}
use Rattle.blot_ask.specs.declared.{typing.Mark.Mark, typing.Place.Place, typing.Typing.Typing}
use Rattle.blot_ask.specs.declared.typing.Place.TheVariants.{First, Within, Behind}
use Rattle.blot_ask.specs.Typed.{is_gap, is_word, letters_of, marks_of, with_tabs}

-- the words of pieces, each behind a tab
abbrev pub words_behind : List (List Mark) → List ℕ
words_behind pieces = flat_map (λ word. (9 ∷ []) ++ word) (map letters_of (filter is_word pieces))

-- what pieces add: before all words, in a word, which the first of them goes on with, and behind a word
abbrev pub added : Place → List (List Mark) → List ℕ
added First pieces = with_tabs (map letters_of (filter is_word pieces))
added Within [] = []
added Within (piece ∷ pieces) = letters_of piece ++ words_behind pieces
added Behind pieces = words_behind pieces

-- what a line comes to of which this has been read, where this is its rest
unfoldable pub comes_to : List ℕ → Place → Bool → List ℕ → List ℕ
comes_to text place quoted rest = text ++ added place (slice_split is_gap (marks_of quoted rest))

abbrev pub comes_on_to : Typing → List ℕ → List ℕ
comes_on_to typing rest = comes_to typing.text.items typing.place typing.quoted rest

-- a tab behind a word
abbrev pub tab_at : Place → List ℕ
tab_at First = []
tab_at Within = []
tab_at Behind = 9 ∷ []

-- where a gap leads
abbrev pub behind : Place → Place
behind First = First
behind Within = Behind
behind Behind = Behind

-- a word is begun, or goes on
pub record BeginsWord (old new : Typing) : Type 0 where
  pub text : new.text.items ≡ old.text.items ++ tab_at old.place
  pub place : new.place ≡ Within
  pub quoted : new.quoted ≡ old.quoted
