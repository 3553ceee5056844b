-- What the quantity rule leaves: the lines of an allocation book what its block is.
use Rattle.std.proofs.Common.{◌≡◌, true, ℤ, pos, List, [], ◌∷◌, reverse, Option, Some, None, sym, subst, is_none, All, IfSome, filter_map, option_map, option_and_then}
use Rattle.std.proofs.lemmas.Bool.{and_parts}
use Rattle.std.proofs.lemmas.List.{reverse-reverse, reverse-append}
use Rattle.std.proofs.lemmas.List.Elements.{All-nil, All-push}
use Rattle.blot_types.specs.declared.{allocation.Terms.Terms, command.Command.Command, command.Entry.Entry}
use Rattle.blot_types.specs.Allocations.{Allocation, allocation_of}
use Rattle.blot_types.specs.Legal.{refusal_in, legal_in, is_legal}
use Rattle.blot_types.specs.Order.{cum_of}
use Rattle.blot_types.specs.Refusals.{current_fill, booked, mismatch}
use Rattle.blot_types.proofs.AcceptOutLemmas.{accepts}
use Rattle.blot_types.proofs.ChainLemmas.{none_is}
use Rattle.blot_types.proofs.BookedLemmas.{BooksBlock, mismatch-none}

books_found :
    (wanted : Terms → ℤ) (found : Option Allocation)
    → option_and_then (λ terms. mismatch (wanted terms) (pos terms.block) (booked terms.lines)) (option_map (λ a. a.terms) found) ≡ None → IfSome found BooksBlock
books_found wanted None none = tt
books_found wanted (Some a) none = mismatch-none (wanted a.terms) (pos a.terms.block) (booked a.terms.lines) none

accepted_books : (entries : List Entry) (command : Command) → refusal_in entries command ≡ None → IfSome (allocation_of command) BooksBlock
accepted_books entries command accepted =
    books_found (λ terms. cum_of (filter_map (current_fill entries) terms.execs)) (allocation_of command) (accepts entries command accepted).adding

-- so do all those of a legal list
abbrev pub EntryBooks : Entry → Type 0
EntryBooks entry = IfSome (allocation_of entry.command) BooksBlock

all_book_in : (entries : List Entry) → legal_in entries ≡ true → All EntryBooks (reverse entries)
all_book_in [] legal = All-nil EntryBooks
all_book_in (entry ∷ earlier) legal =
    let parts : (is_none (refusal_in earlier entry.command) ≡ true) × (legal_in earlier ≡ true) = and_parts _ _ legal in
    subst (All EntryBooks) (sym (reverse-append (entry ∷ []) earlier))
    (All-push EntryBooks (reverse earlier) entry (all_book_in earlier parts.1) (accepted_books earlier entry.command (none_is (refusal_in earlier entry.command) parts.0)))

pub all_book : (list : List Entry) → is_legal list ≡ true → All EntryBooks list
all_book list legal = subst (All EntryBooks) (reverse-reverse list) (all_book_in (reverse list) legal)
