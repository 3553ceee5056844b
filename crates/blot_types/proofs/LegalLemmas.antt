-- Lists of entries: their legality as they grow.
use Rattle.std.proofs.Common.{◌≡◌, ℕ, ◌+◌, ◌<◌, ◌≤◌, List, [], ◌∷◌, ◌++◌, length, get_or, take, drop, reverse, map, Option, Some, None, Bool, true, false, ◌&&◌, refl, ap, ◌∙◌, sym, arith, inl, inr, is_none, is_some, nat_lt, All, take-append-drop, lt-ltb, ltb-true}
use Rattle.std.specs.List.{list_all}
use Rattle.std.proofs.lemmas.List.Elements.{All-head, All-tail}
use Rattle.std.proofs.lemmas.List.Folds.{list_all-append}
use Rattle.std.proofs.lemmas.List.{reverse-append, length-reverse, take_more}
use Rattle.std.proofs.lemmas.Bool.{cases_Bool, and_from}
use Rattle.blot_types.specs.declared.{command.Entry.Entry, TheConstants.EVENTS_MAX}
use Rattle.blot_types.specs.Legal.{is_above_entries, rises_in, numbers_rise, legal_in, is_legal, is_numbered, is_book, entry_refusal}

-- a list with one more entry is legal where the entries before accept it and are legal
pub is_legal-push : (list : List Entry) (entry : Entry) → is_legal (list ++ entry ∷ []) ≡ (is_none (entry_refusal list entry.command) && is_legal list)
is_legal-push list entry = ap legal_in (reverse-append list (entry ∷ []))

-- its numbers rise where the new number is above the others, and they rise
pub numbers_rise-push : (list : List Entry) (entry : Entry) → numbers_rise (list ++ entry ∷ []) ≡ (is_above_entries entry.number (reverse list) && numbers_rise list)
numbers_rise-push list entry = ap rises_in (reverse-append list (entry ∷ []))

-- the older entries of a legal list are legal
legal_in-older : (later earlier : List Entry) → legal_in (later ++ earlier) ≡ true → legal_in earlier ≡ true
legal_in-older [] earlier h = h
legal_in-older (entry ∷ later) earlier h = legal_in-older later earlier (grind (arith, h))

-- the front of a legal list is legal
pub is_legal-front : (front back : List Entry) → is_legal (front ++ back) ≡ true → is_legal front ≡ true
is_legal-front front back h = legal_in-older (reverse back) (reverse front) (sym (ap legal_in (reverse-append front back)) ∙ h)

clash : {A : Type 0} (reason : Option A) (legal : Bool) → is_some reason ≡ true → (is_none reason && legal) ≡ true → ⊥
clash None legal some none = cc
clash (Some x) legal some none = cc

-- a list whose front refuses the next entry isn't legal
pub is_legal-stops :
    (list : List Entry) (index : ℕ) (entry : Entry) → index < length list → entry ≡ get_or list index entry
    → is_some (entry_refusal (take index list) entry.command) ≡ true → is_legal list ≡ false
is_legal-stops list index entry within is refused =
    elim (cases_Bool (is_legal list)) [
      | inl legal ↦
          let front : is_legal (take (index + 1) list) ≡ true =
          is_legal-front (take (index + 1) list) (drop (index + 1) list) (rw take-append-drop legal) in
          let more : take (index + 1) list ≡ take index list ++ entry ∷ [] = rw is (take_more list index entry within) in
          let pushed : (is_none (entry_refusal (take index list) entry.command) && is_legal (take index list)) ≡ true =
          sym (is_legal-push (take index list) entry) ∙ ap is_legal (sym more) ∙ front in
          absurd (clash (entry_refusal (take index list) entry.command) _ refused pushed)
      | inr illegal ↦ illegal
    ]

-- entries whose numbers fall below a limit are fewer than it allows
length_below : (limit : ℕ) (entries : List Entry) → is_above_entries limit entries ≡ true → rises_in entries ≡ true → length entries ≤ limit
length_below limit [] above rises = omega arith
length_below limit (entry ∷ earlier) above rises =
    let tests : (nat_lt entry.number limit ≡ true) × (is_above_entries entry.number earlier ≡ true) × (rises_in earlier ≡ true) = grind (arith, above, rises) in
    let fewer : length earlier ≤ entry.number = length_below entry.number earlier tests.1 tests.2 in
    omega (arith, fewer, ltb-true _ _ tests.0)

-- a numbered list has no more entries than there are numbers
pub length_numbered : (list : List Entry) → is_numbered list ≡ true → length list ≤ EVENTS_MAX + 1
length_numbered list numbered =
    let parts : (numbers_rise list ≡ true) × (is_above_entries (EVENTS_MAX + 1) (reverse list) ≡ true) = grind (arith, numbered) in
    omega (arith, length_below (EVENTS_MAX + 1) (reverse list) parts.1 parts.0, length-reverse list)

-- a number above those of a list is above each of its entries, newest first too
above_from_All : (number : ℕ) (list : List Entry) → All (λ earlier. earlier < number) (map (λ entry. entry.number) list) → is_above_entries number list ≡ true
above_from_All number [] above = refl
above_from_All number (entry ∷ list) above =
    and_from _ _ (lt-ltb _ _ (All-head (λ earlier. earlier < number) entry.number (map (λ e. e.number) list) above))
    (above_from_All number list (All-tail (λ earlier. earlier < number) entry.number (map (λ e. e.number) list) above))

list_all-reverse : {A : Type 0} (test : A → Bool) (xs : List A) → list_all test (reverse xs) ≡ list_all test xs
list_all-reverse test [] = refl
list_all-reverse test (x ∷ xs) =
    let same : list_all test (reverse xs) ≡ list_all test xs = list_all-reverse test xs in
    let split : list_all test (reverse (x ∷ xs)) ≡ (list_all test (reverse xs) && (test x && true)) =
    ap (list_all test) (reverse-append (x ∷ []) xs) ∙ list_all-append test (reverse xs) (x ∷ []) in
    grind (arith, same, split)

-- a book accepts a command, and its number is above the others: then it stands after them in a book
pub is_book-push :
    (list : List Entry) (entry : Entry) → is_book list ≡ true → entry_refusal list entry.command ≡ None
    → All (λ earlier. earlier < entry.number) (map (λ e. e.number) list) → entry.number ≤ EVENTS_MAX → is_book (list ++ entry ∷ []) ≡ true
is_book-push list entry book accepted above within =
    let parts : (numbers_rise list ≡ true) × (is_above_entries (EVENTS_MAX + 1) (reverse list) ≡ true) × (is_legal list ≡ true) = grind (arith, book) in
    let below : is_above_entries entry.number (reverse list) ≡ true = list_all-reverse (λ e. nat_lt e.number entry.number) list ∙ above_from_All entry.number list above in
    let limited : nat_lt entry.number (EVENTS_MAX + 1) ≡ true = lt-ltb _ _ (omega arith) in
    rw (numbers_rise-push, is_legal-push, reverse-append) (rw (below, parts.0, limited, parts.1, accepted, parts.2) refl)

-- a book without its last entry is a book
pub is_book-front : (list : List Entry) (entry : Entry) → is_book (list ++ entry ∷ []) ≡ true → is_book list ≡ true
is_book-front list entry book =
    let whole = book in
    let parts : (numbers_rise (list ++ entry ∷ []) ≡ true) × (is_above_entries (EVENTS_MAX + 1) (reverse (list ++ entry ∷ [])) ≡ true) × (is_legal (list ++ entry ∷ []) ≡ true) = grind (arith, whole) in
    let rise : (is_above_entries entry.number (reverse list) && numbers_rise list) ≡ true = sym (numbers_rise-push list entry) ∙ parts.0 in
    let limited : (nat_lt entry.number (EVENTS_MAX + 1) && is_above_entries (EVENTS_MAX + 1) (reverse list)) ≡ true =
    sym (ap (is_above_entries (EVENTS_MAX + 1)) (reverse-append list (entry ∷ []))) ∙ parts.1 in
    let legal : is_legal list ≡ true = is_legal-front list (entry ∷ []) parts.2 in
    grind (arith, rise, limited, legal)
