-- What a book's lists have: few entries, and allocations whose lines book their block.
use Rattle.std.proofs.Common.{◌≡◌, ℕ, ◌+◌, ◌<◌, ◌≤◌, true, List, length, get_or, sym, subst, IsTrue}
use Rattle.std.proofs.lemmas.Bool.{and_parts}
use Rattle.std.proofs.lemmas.List.Elements.{All-get_or}
use Rattle.blot_types.specs.declared.{command.Entry.Entry, TheConstants.EVENTS_MAX}
use Rattle.blot_types.specs.Legal.{is_numbered, is_legal, is_book}
use Rattle.blot_types.proofs.LegalLemmas.{length_numbered}
use Rattle.blot_types.proofs.QuantityLemmas.{EntryBooks, all_book}

pub numbered : (list : List Entry) → IsTrue (is_book list) → is_numbered list ≡ true
numbered list book = let parts : (is_numbered list ≡ true) × (is_legal list ≡ true) = and_parts _ _ book in parts.0

pub few_entries : (list : List Entry) → IsTrue (is_book list) → length list ≤ EVENTS_MAX + 1
few_entries list book = length_numbered list (numbered list book)

pub entry_books : (list : List Entry) (index : ℕ) (entry : Entry) → IsTrue (is_book list) → index < length list → entry ≡ get_or list index entry → EntryBooks entry
entry_books list index entry book within is =
    let parts : (is_numbered list ≡ true) × (is_legal list ≡ true) = and_parts _ _ book in
    subst EntryBooks (sym is) (All-get_or EntryBooks list index entry within (all_book list parts.1))
