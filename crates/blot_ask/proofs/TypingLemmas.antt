-- A typed line, byte by byte.
use Rattle.std.proofs.Common.{◌≡◌, ℕ, Bool, true, false, not, List, [], ◌∷◌, ◌++◌, Result, Ok, Err, refl, sym, ap, ◌∙◌, IfOk, ◌==◌, append_assoc, append-nil}
use Rattle.std.specs.List.{list_any, onto_first, slice_split}
use Rattle.blot_ask.specs.declared.{typing.Mark.Mark, typing.Place.Place}
use Rattle.blot_ask.specs.declared.typing.Mark.TheVariants.{Letter, Quote, Gap}
use Rattle.blot_ask.specs.declared.typing.Place.TheVariants.{First, Within, Behind}
use Rattle.blot_ask.specs.Typed.{is_gap, is_quoted_behind, mark_of, marks_of, typed, with_tabs, words_of}
use Rattle.blot_ask.specs.Typing.{added, behind, comes_to, tab_at}

quote_added : (place : Place) (pieces : List (List Mark)) → tab_at place ++ added Within pieces ≡ added place (onto_first Quote pieces)
quote_added First [] = refl
quote_added First (piece ∷ pieces) = refl
quote_added Within [] = refl
quote_added Within (piece ∷ pieces) = refl
quote_added Behind [] = refl
quote_added Behind (piece ∷ pieces) = refl

letter_added : (place : Place) (byte : ℕ) (pieces : List (List Mark)) → tab_at place ++ (byte ∷ added Within pieces) ≡ added place (onto_first (Letter byte) pieces)
letter_added First byte [] = refl
letter_added First byte (piece ∷ pieces) = refl
letter_added Within byte [] = refl
letter_added Within byte (piece ∷ pieces) = refl
letter_added Behind byte [] = refl
letter_added Behind byte (piece ∷ pieces) = refl

gap_added : (place : Place) (pieces : List (List Mark)) → added (behind place) pieces ≡ added place ([] ∷ pieces)
gap_added First pieces = refl
gap_added Within pieces = refl
gap_added Behind pieces = refl

-- what is yet added where the next byte has this mark
by_mark : (place : Place) (quoted : Bool) (byte : ℕ) (rest : List ℕ) (mark : Mark) → mark_of quoted byte ≡ mark
    → added place (slice_split is_gap (mark ∷ marks_of (is_quoted_behind mark quoted) rest)) ≡ added place (slice_split is_gap (marks_of quoted (byte ∷ rest)))
by_mark place quoted byte rest mark is = ap (λ mark. added place (slice_split is_gap (mark ∷ marks_of (is_quoted_behind mark quoted) rest))) (sym is)

-- a word that has begun, or goes on
begun : (text text' : List ℕ) (place place' : Place) (quoted quoted' : Bool) (more : List ℕ → Place → Bool → List ℕ)
    → text' ≡ text ++ tab_at place → place' ≡ Within → quoted' ≡ quoted → more text' place' quoted' ≡ more (text ++ tab_at place) Within quoted
begun text text' place place' quoted quoted' more is_text is_place is_quoted =
    ap (λ found. more found place' quoted') is_text ∙ ap (λ found. more (text ++ tab_at place) found quoted') is_place
    ∙ ap (λ found. more (text ++ tab_at place) Within found) is_quoted

took_quote :
    (text : List ℕ) (place : Place) (quoted : Bool) (byte : ℕ) (rest : List ℕ) → mark_of quoted byte ≡ Quote
    → comes_to (text ++ tab_at place) Within (not quoted) rest ≡ comes_to text place quoted (byte ∷ rest)
unfolding comes_to
took_quote text place quoted byte rest is =
    append_assoc text (tab_at place) _
    ∙ ap (λ more. text ++ more) (quote_added place (slice_split is_gap (marks_of (not quoted) rest)) ∙ by_mark place quoted byte rest Quote is)

took_letter :
    (text : List ℕ) (place : Place) (quoted : Bool) (byte letter : ℕ) (rest : List ℕ) → mark_of quoted byte ≡ Letter letter
    → comes_to ((text ++ tab_at place) ++ letter ∷ []) Within quoted rest ≡ comes_to text place quoted (byte ∷ rest)
unfolding comes_to
took_letter text place quoted byte letter rest is =
    append_assoc (text ++ tab_at place) (letter ∷ []) _ ∙ append_assoc text (tab_at place) _
    ∙ ap (λ more. text ++ more) (letter_added place letter (slice_split is_gap (marks_of quoted rest)) ∙ by_mark place quoted byte rest (Letter letter) is)

pub takes_quote :
    (text text' : List ℕ) (place place' : Place) (quoted quoted' : Bool) (byte : ℕ) (rest : List ℕ)
    → text' ≡ text ++ tab_at place → place' ≡ Within → quoted' ≡ quoted → mark_of quoted byte ≡ Quote
    → comes_to text' place' (not quoted') rest ≡ comes_to text place quoted (byte ∷ rest)
takes_quote text text' place place' quoted quoted' byte rest is_text is_place is_quoted is =
    begun text text' place place' quoted quoted' (λ text place quoted. comes_to text place (not quoted) rest) is_text is_place is_quoted
    ∙ took_quote text place quoted byte rest is

pub takes_letter :
    (text text' : List ℕ) (place place' : Place) (quoted quoted' : Bool) (byte letter : ℕ) (rest : List ℕ)
    → text' ≡ text ++ tab_at place → place' ≡ Within → quoted' ≡ quoted → mark_of quoted byte ≡ Letter letter
    → comes_to (text' ++ letter ∷ []) place' quoted' rest ≡ comes_to text place quoted (byte ∷ rest)
takes_letter text text' place place' quoted quoted' byte letter rest is_text is_place is_quoted is =
    begun text text' place place' quoted quoted' (λ text place quoted. comes_to (text ++ letter ∷ []) place quoted rest) is_text is_place is_quoted
    ∙ took_letter text place quoted byte letter rest is

pub took_gap :
    (text : List ℕ) (place : Place) (quoted : Bool) (byte : ℕ) (rest : List ℕ) → mark_of quoted byte ≡ Gap
    → comes_to text (behind place) quoted rest ≡ comes_to text place quoted (byte ∷ rest)
unfolding comes_to
took_gap text place quoted byte rest is =
    ap (λ more. text ++ more) (gap_added place (slice_split is_gap (marks_of quoted rest)) ∙ by_mark place quoted byte rest Gap is)

pub at_first : (line : List ℕ) → comes_to [] First false line ≡ with_tabs (words_of line)
unfolding comes_to
at_first line = refl

at_last_added : (place : Place) → added place ([] ∷ []) ≡ []
at_last_added First = refl
at_last_added Within = refl
at_last_added Behind = refl

pub at_last : (text : List ℕ) (place : Place) (quoted : Bool) → comes_to text place quoted [] ≡ text
unfolding comes_to
at_last text place quoted = ap (λ more. text ++ more) (at_last_added place) ∙ append-nil text

-- a line with a tab in it, and one without
pub stays : (line : List ℕ) → list_any (λ byte. byte == 9) line ≡ true → typed line ≡ line
unfolding typed
stays line some = rw some refl

pub is_divided : (line : List ℕ) → list_any (λ byte. byte == 9) line ≡ false → typed line ≡ with_tabs (words_of line)
unfolding typed
is_divided line none = rw none refl

pub if_ok : {T E : Type 0} (P Q : T → Type 0) (result : Result T E) → IfOk result P → ((x : T) → P x → Q x) → IfOk result Q
if_ok P Q (Ok x) holds more = more x holds
if_ok P Q (Err e) holds more = tt
