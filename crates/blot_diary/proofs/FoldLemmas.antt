-- The two folds over one frame more.
use Rattle.std.proofs.Common.{◌≡◌, ℕ, List, [], ◌∷◌, ◌++◌, Option, Some, None, refl, ap, ◌∙◌, fold, filter_map, append-nil}
use Rattle.std.specs.List.{cons_option}
use Rattle.std.proofs.lemmas.List.Sums.{fold-append}
use Rattle.blot_tag.specs.Fields.{fields_of}
use Rattle.blot_types.proofs.GeneralLemmas.{cons-append}
use Rattle.blot_diary.specs.declared.{kept.Kept.Kept, kept.Noted.Noted, numbers.SequenceNumbers.SequenceNumbers}
use Rattle.blot_diary.specs.Events.{BringsLast, events_in, noted_of, with_last}
use Rattle.blot_diary.specs.Keeping.{kept_in, kept_of}
use Rattle.blot_diary.specs.Numbering.{first_numbers, numbers_after, numbers_in}

filter_map-last : {A B : Type 0} (h : A → Option B) (xs : List A) (x : A) → filter_map h (xs ++ x ∷ []) ≡ filter_map h xs ++ cons_option (h x) []
filter_map-last h [] x = refl
filter_map-last h (first ∷ xs) x = ap (cons_option (h first)) (filter_map-last h xs x) ∙ cons-append (h first) (filter_map h xs) (cons_option (h x) [])

kept_in-last : (kept : Kept) (frames : List (List ℕ)) (frame : List ℕ) → kept_of (fields_of frame) ≡ Some kept → kept_in (frames ++ frame ∷ []) ≡ kept_in frames ++ kept ∷ []
kept_in-last kept frames frame is =
    filter_map-last (λ frame. kept_of (fields_of frame)) frames frame ∙ ap (λ one. kept_in frames ++ cons_option one []) is

with_last-cons : (events : List Noted) (noted : Option Noted) → events ++ cons_option noted [] ≡ with_last events noted
with_last-cons events None = append-nil events
with_last-cons events (Some noted) = refl

pub brings_last : (kept : Kept) (frames : List (List ℕ)) (frame : List ℕ) → kept_of (fields_of frame) ≡ Some kept → BringsLast frames frame (noted_of kept)
brings_last kept frames frame is =
    ap (filter_map noted_of) (kept_in-last kept frames frame is) ∙ filter_map-last noted_of (kept_in frames) kept ∙ with_last-cons (events_in frames) (noted_of kept)

pub numbers_last : (own peer : List ℕ) (numbers : SequenceNumbers) (kept : Kept) (frames : List (List ℕ)) (frame : List ℕ)
    → kept_of (fields_of frame) ≡ Some kept → numbers_in own peer frames ≡ numbers
    → numbers_in own peer (frames ++ frame ∷ []) ≡ numbers_after own peer numbers kept
numbers_last own peer numbers kept frames frame is before =
    ap (fold (numbers_after own peer) first_numbers) (kept_in-last kept frames frame is)
    ∙ fold-append (numbers_after own peer) first_numbers (kept_in frames) (kept ∷ [])
    ∙ ap (λ numbers. numbers_after own peer numbers kept) before
