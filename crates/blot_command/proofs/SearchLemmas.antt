-- What is found among entries by its number. The numbers rise.
use Rattle.std.proofs.Common.{◌≡◌, ◌≢◌, ℕ, zero, suc, ◌-◌, ◌<◌, ◌==◌, true, List, [], ◌∷◌, length, reverse, get_or, Option, Some, None, refl, sym, ap, subst, ◌∙◌, arith, inl, inr, find, option_and_then, option_map, ltb-true, eq-eqb, eqb-true, ne_eqb}
use Rattle.std.specs.List.{cons_option}
use Rattle.std.specs.Option.{option_or}
use Rattle.std.proofs.lemmas.Bool.{cases_Bool, and_parts, eqb-false}
use Rattle.std.proofs.lemmas.List.{length-reverse, get_or-reverse, reverse-reverse}
use Rattle.std.proofs.lemmas.List.Elements.{filter_map-append}
use Rattle.std.proofs.lemmas.List.Folds.{find-append}
use Rattle.blot_types.specs.declared.{command.Entry.Entry, lines.Version.Version}
use Rattle.blot_types.specs.Legal.{is_above_entries, rises_in, numbers_rise}
use Rattle.blot_types.specs.Survivors.{version_of, versions_of, version_numbered}
use Rattle.blot_types.proofs.EntryLemmas.{version-number}
use Rattle.blot_command.specs.Book.{has_number}
use Rattle.blot_command.specs.Shown.{fill_numbered}

-- ---- the numbers rise, place by place

above-at : (n : ℕ) (entries : List Entry) (j : ℕ) (d : Entry) → is_above_entries n entries ≡ true → j < length entries → (get_or entries j d).number < n
above-at n [] j d above within = absurd (omega arith)
above-at n (entry ∷ earlier) zero d above within = ltb-true _ _ (and_parts _ _ above).0
above-at n (entry ∷ earlier) (suc j) d above within = above-at n earlier j d (and_parts _ _ above).1 (omega arith)

falling-at :
    (entries : List Entry) (i j : ℕ) (d : Entry) → rises_in entries ≡ true → i < j → j < length entries
    → (get_or entries j d).number < (get_or entries i d).number
falling-at [] i j d fall less within = absurd (omega arith)
falling-at (entry ∷ earlier) i zero d fall less within = absurd (omega arith)
falling-at (entry ∷ earlier) zero (suc j) d fall less within = above-at entry.number earlier j d (and_parts _ _ fall).0 (omega arith)
falling-at (entry ∷ earlier) (suc i) (suc j) d fall less within = falling-at earlier i j d (and_parts _ _ fall).1 (omega arith) (omega arith)

turned-at : (entries : List Entry) (k : ℕ) (d : Entry) → k < length entries → get_or entries k d ≡ get_or (reverse entries) (length entries - 1 - k) d
turned-at entries k d within =
    let len : length (reverse entries) ≡ length entries = length-reverse entries in
    ap (λ all. get_or all k d) (sym (reverse-reverse entries)) ∙ get_or-reverse (reverse entries) k d (omega (arith, len)) ∙ ap (λ n. get_or (reverse entries) (n - 1 - k) d) len

-- each number is below those after it
abbrev pub Rise : List Entry → Type 0
Rise entries = (i j : ℕ) (d : Entry) → i < j → j < length entries → (get_or entries i d).number < (get_or entries j d).number

pub rise : (entries : List Entry) → numbers_rise entries ≡ true → Rise entries
rise entries rises i j d less within =
    let len : length (reverse entries) ≡ length entries = length-reverse entries in
    let at_i = ap (λ (entry : Entry). entry.number) (turned-at entries i d (omega arith)) in
    let at_j = ap (λ (entry : Entry). entry.number) (turned-at entries j d within) in
    let falling : (get_or (reverse entries) (length entries - 1 - i) d).number < (get_or (reverse entries) (length entries - 1 - j) d).number =
    falling-at (reverse entries) (length entries - 1 - j) (length entries - 1 - i) d rises (omega (arith, less, within)) (omega (arith, len, less, within)) in
    subst (λ n. n < (get_or entries j d).number) (sym at_i) (subst (λ n. (get_or (reverse entries) (length entries - 1 - i) d).number < n) (sym at_j) falling)

-- ---- the entry of a number

-- none has it
pub find-none : (n : ℕ) (entries : List Entry) → ((k : ℕ) (d : Entry) → k < length entries → (get_or entries k d).number ≢ n) → find (has_number n) entries ≡ None
find-none n [] other = refl
find-none n (entry ∷ later) other =
    rw (ne_eqb entry.number n (other 0 entry (omega arith))) (find-none n later (λ k d less. other (suc k) d (omega (arith, less))))

-- ---- the version of a number

tail : (entry : Entry) (later : List Entry) → Rise (entry ∷ later) → Rise later
tail entry later rises i j d less within = rises (suc i) (suc j) d (omega arith) (omega arith)

none-later : (n : ℕ) (entry : Entry) (later : List Entry) → Rise (entry ∷ later) → entry.number ≡ n → find (has_number n) later ≡ None
none-later n entry later rises own = find-none n later (λ k d less same. (let more = rises 0 (suc k) d (omega arith) (omega (arith, less)) in absurd (omega (arith, more, same, own))))

first-version : (entry : Entry) (brought : Option Version) (rest : Option Version) (n : ℕ) → version_of entry ≡ brought → entry.number ≡ n → rest ≡ None
    → option_or (find (λ version. version.number == n) (cons_option brought [])) rest ≡ brought
first-version entry None rest n is own none = none
first-version entry (Some version) rest n is own none = rw (eq-eqb version.number n (version-number entry version is ∙ own)) refl

other-version : (entry : Entry) (brought : Option Version) (n : ℕ) → version_of entry ≡ brought → entry.number ≢ n → find (λ version. version.number == n) (cons_option brought []) ≡ None
other-version entry None n is other = refl
other-version entry (Some version) n is other = rw (ne_eqb version.number n (λ same. other (sym (version-number entry version is) ∙ same))) refl

split : (entry : Entry) (later : List Entry) (n : ℕ) → version_numbered (entry ∷ later) n ≡ option_or (find (λ version. version.number == n) (cons_option (version_of entry) [])) (version_numbered later n)
split entry later n =
    ap (find (λ version. version.number == n)) (filter_map-append version_of (entry ∷ []) later)
    ∙ find-append (λ version. version.number == n) (cons_option (version_of entry) []) (versions_of later)

pub version-by_number : (n : ℕ) (entries : List Entry) → Rise entries → option_and_then version_of (find (has_number n) entries) ≡ version_numbered entries n
version-by_number n [] rises = refl
version-by_number n (entry ∷ later) rises =
    let rest = version-by_number n later (tail entry later rises) in
    elim (cases_Bool (entry.number == n)) [
      | inl same ↦
          let own : entry.number ≡ n = eqb-true entry.number n same in
          let none : version_numbered later n ≡ None = sym rest ∙ ap (option_and_then version_of) (none-later n entry later rises own) in
          rw same (sym (split entry later n ∙ first-version entry (version_of entry) (version_numbered later n) n refl own none))
      | inr other ↦
          rw other (rest ∙ sym (split entry later n ∙ rw (other-version entry (version_of entry) n refl (eqb-false entry.number n other)) refl))
    ]

pub fill-by_number : (n : ℕ) (entries : List Entry) → Rise entries → option_map (λ version. version.fill) (option_and_then version_of (find (has_number n) entries)) ≡ fill_numbered n (versions_of entries)
fill-by_number n entries rises = ap (option_map (λ (version : Version). version.fill)) (version-by_number n entries rises)
