-- A list without an entry of it; and no entry of a book takes another out.
use Rattle.std.proofs.Common.{◌≡◌, ◌==◌, true, List, [], ◌∷◌, ◌++◌, reverse, Some, None, sym, ap, ◌∙◌, find, is_none, not}
use Rattle.std.proofs.lemmas.Bool.{and_parts}
use Rattle.std.proofs.lemmas.List.{reverse-append, reverse-reverse}
use Rattle.blot_types.specs.declared.command.Entry.{Entry}
use Rattle.blot_types.specs.declared.refused.Refused.TheVariants.{NotLive}
use Rattle.blot_types.specs.Legal.{is_book, legal_in, numbers_rise, refusal_in, rises_in, without}
use Rattle.blot_types.specs.Refusals.{withdrawn_by}
use Rattle.blot_types.proofs.AcceptLemmas.{unmapped}
use Rattle.blot_types.proofs.AcceptOutLemmas.{accepts}
use Rattle.blot_types.proofs.BustLemmas.{reverse-middle}
use Rattle.blot_types.proofs.ChainLemmas.{none_is}
use Rattle.blot_types.proofs.LawLemmas.{book_parts}
use Rattle.blot_types.proofs.NeedLemmas.{without-out}
use Rattle.blot_types.proofs.StayLemmas.{filter-reverse}
use Rattle.blot_command.specs.Book.{has_number}
use Rattle.blot_command.specs.Law.{has_entry}

-- the list without an entry
pub without-split : (list front back : List Entry) (entry : Entry) → list ≡ front ++ entry ∷ back → numbers_rise list ≡ true → without entry.number list ≡ front ++ back
without-split list front back entry is rise =
    let whole : reverse list ≡ reverse back ++ entry ∷ reverse front = ap reverse is ∙ reverse-middle front back entry in
    let turned : reverse (without entry.number list) ≡ reverse back ++ reverse front =
    sym (filter-reverse (λ (e : Entry). not (e.number == entry.number)) list) ∙ ap (without entry.number) whole
    ∙ without-out entry (reverse back) (reverse front) (ap rises_in (sym whole) ∙ rise) in
    sym (reverse-reverse (without entry.number list)) ∙ ap reverse (turned ∙ sym (reverse-append front back)) ∙ reverse-reverse (front ++ back)

-- no entry of a book takes another out
legal-none : (later earlier : List Entry) (entry : Entry) → legal_in (later ++ entry ∷ earlier) ≡ true → withdrawn_by entry.command ≡ None
legal-none [] earlier entry legal =
    let parts : (is_none (refusal_in earlier entry.command) ≡ true) × (legal_in earlier ≡ true) = and_parts _ _ legal in
    unmapped NotLive (withdrawn_by entry.command) (accepts earlier entry.command (none_is _ parts.0)).enters
legal-none (first ∷ later) earlier entry legal = legal-none later earlier entry (and_parts _ _ legal).1

pub withdrawn-none : (list : List Entry) (entry : Entry) → find (has_number entry.number) list ≡ Some entry → is_book list ≡ true → withdrawn_by entry.command ≡ None
withdrawn-none list entry found book =
    let has = has_entry list entry.number entry found in
    legal-none (reverse has.back) (reverse has.front) entry (ap legal_in (sym (ap reverse has.is ∙ reverse-middle has.front has.back entry)) ∙ (book_parts list book).1)
