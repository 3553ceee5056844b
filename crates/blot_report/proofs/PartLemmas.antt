-- The parts of a day, as they are found one after the other.
use Rattle.std.proofs.Common.{◌≡◌, ℕ, ℤ, ◌+◌, ◌<◌, arith, true, List, [], ◌∷◌, ◌++◌, length, take, drop, get_or, Option, Some, sym, ap, subst, ◌∙◌, All, filter_map, flat_map, append-nil, append_assoc, take-append-drop}
use Rattle.std.specs.List.{cons_option}
use Rattle.std.proofs.lemmas.List.Elements.{All-nil}
use Rattle.std.proofs.lemmas.List.Folds.{flat_map-map}
use Rattle.blot_types.specs.declared.{allocation.Line.Line, allocation.Terms.Terms, command.Entry.Entry, part.Part.Part}
use Rattle.blot_types.specs.Allocations.{Allocation}
use Rattle.blot_types.specs.Legal.{is_book}
use Rattle.blot_types.specs.Position.{part_of_line, from_house, moves_of_line, moves_of, IsSmall, TermsFit}
use Rattle.blot_types.proofs.GeneralLemmas.{length-found}
use Rattle.blot_command.specs.Standings.{standing_of}
use Rattle.blot_command.proofs.ReadyLemmas.{length-book}
use Rattle.blot_report.specs.Day.{survivor_parts_on, allocations_on, day_parts_of}
use Rattle.blot_report.specs.Standings.{between, moves_among, part_on, parts_among, terms_among, terms_on}
use Rattle.blot_report.proofs.StandingLemmas.{parts-told, terms-told}
use Rattle.blot_report.proofs.ListLemmas.{behind, between-few, between-none, flat-more, flat_found-more, more, All-between, all-mapped}
use Rattle.blot_report.proofs.WeightLemmas.{Books, IsLight, books-on, light-front, light-with}

-- ---- the moves of lines

pub moves-next :
    (initial items middle after : List Part) (terms : Terms) (lines : List Line) (index : ℕ) (line : Line) (part taken : Part) → index < length lines → line ≡ get_or lines index line
    → items ≡ initial ++ flat_map (moves_of_line terms) (take index lines) → part ≡ part_of_line terms line → taken ≡ from_house part → middle ≡ items ++ part ∷ [] → after ≡ middle ++ taken ∷ []
    → after ≡ initial ++ flat_map (moves_of_line terms) (take (index + 1) lines)
moves-next initial items middle after terms lines index line part taken within is so_far part_is taken_is one two =
    let both : part ∷ taken ∷ [] ≡ moves_of_line terms line = λ i. part_is i ∷ (taken_is ∙ ap from_house part_is) i ∷ [] in
    let put : after ≡ items ++ moves_of_line terms line =
    two ∙ ap (λ front. front ++ taken ∷ []) one ∙ append_assoc items (part ∷ []) (taken ∷ []) ∙ ap (λ back. items ++ back) both in
    behind initial (flat_map (moves_of_line terms) (take index lines)) (moves_of_line terms line) items after so_far put
    ∙ ap (λ done. initial ++ done) (sym (flat-more (moves_of_line terms) lines index line within is))

-- ---- the parts of a day

-- they are those of its fills, and then the moves
pub day_parts-told : (list : List Entry) (day : Option ℤ) → (parts_among list day list ++ moves_among list day list) ≡ day_parts_of list day
day_parts-told list day =
    (λ i. parts-told list day i ++ flat_map moves_of (terms-told list day i))
    ∙ ap (λ moves. survivor_parts_on list day ++ moves) (flat_map-map moves_of (λ (a : Allocation). a.terms) (allocations_on list day))

-- the terms of some entries book their blocks
books-told : (list : List Entry) (day : Option ℤ) (first after : ℕ) → is_book list ≡ true → All Books (terms_among list day (between list first after))
books-told list day first after book =
    All-between Books (λ e. terms_on day (standing_of list e) e) list first after
    (subst (All Books) (sym (terms-told list day)) (all-mapped Books (λ (a : Allocation). a.terms) (allocations_on list day) (books-on list day book)))

-- what the fills of some entries add is light, with what the allocations of some move
pub light-told :
    (list : List Entry) (day : Option ℤ) (first after place : ℕ) → is_book list ≡ true → All IsSmall (parts_among list day (between list first after))
    → All TermsFit (terms_among list day (between list first place))
    → IsLight (parts_among list day (between list first after) ++ moves_among list day (between list first place))
light-told list day first after place book small fit =
    let fills = length-found (λ e. part_on day (standing_of list e) e) (between list first after) in
    let terms = length-found (λ e. terms_on day (standing_of list e) e) (between list first place) in
    let some = between-few list first after in
    let others = between-few list first place in
    let entries = length-book list book in
    light-with (parts_among list day (between list first after)) (terms_among list day (between list first place)) small (omega (arith, fills, some, entries)) fit
    (books-told list day first place book) (omega (arith, terms, others, entries))

-- and so are the fills alone
pub light-fills : (list : List Entry) (day : Option ℤ) (first after : ℕ) → is_book list ≡ true → All IsSmall (parts_among list day (between list first after)) → IsLight (parts_among list day (between list first after))
light-fills list day first after book small =
    let none : terms_among list day (between list first first) ≡ [] = ap (filter_map (λ e. terms_on day (standing_of list e) e)) (between-none list first) in
    light-front (parts_among list day (between list first after)) (moves_among list day (between list first first))
    (light-told list day first after first book small (subst (All TermsFit) (sym none) (All-nil TermsFit)))

-- the first of some moves after other parts are light where all are
pub light-moves : (done moves : List Part) (index : ℕ) (part : Part) → IsLight (done ++ moves) → index < length moves → part ≡ get_or moves index part
    → IsLight ((done ++ take index moves) ++ part ∷ [])
light-moves done moves index part light within is =
    let next : take (index + 1) moves ≡ take index moves ++ part ∷ [] = more moves index part within is in
    let whole : done ++ moves ≡ (done ++ take (index + 1) moves) ++ drop (index + 1) moves =
    ap (λ back. done ++ back) (sym (take-append-drop (index + 1) moves)) ∙ sym (append_assoc done (take (index + 1) moves) (drop (index + 1) moves)) in
    subst IsLight (ap (λ front. done ++ front) next ∙ sym (append_assoc done (take index moves) (part ∷ [])))
    (light-front (done ++ take (index + 1) moves) (drop (index + 1) moves) (subst IsLight whole light))

-- what the allocations of some entries move, with one more that brings terms
pub moved-more :
    (list : List Entry) (day : Option ℤ) (before after : List Entry) (entry : Entry) (terms : Terms) → after ≡ before ++ entry ∷ [] → terms_on day (standing_of list entry) entry ≡ Some terms
    → moves_among list day after ≡ moves_among list day before ++ moves_of terms
moved-more list day before after entry terms next brought =
    let f : Entry → Option Terms = λ e. terms_on day (standing_of list e) e in
    flat_found-more moves_of f before after entry next
    ∙ ap (λ back. flat_map moves_of (filter_map f before) ++ back) (ap (λ o. flat_map moves_of (cons_option o [])) brought ∙ append-nil (moves_of terms))
