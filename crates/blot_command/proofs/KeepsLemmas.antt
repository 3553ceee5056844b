-- What a state keeps for the earlier steps, it keeps after each later one, and after each later one taken back.
use Rattle.std.proofs.Common.{◌≡◌, ℕ, ◌<◌, ◌≤◌, true, false, List, [], ◌∷◌, ◌++◌, Some, ◌⊎◌, refl, sym, ap, subst, ◌∙◌, inl, inr, arith, Contains, find, nat_eq, not, eqb-true, eq-eqb}
use Rattle.std.proofs.lemmas.Bool.{cases_Bool}
use Rattle.std.proofs.lemmas.Option.{same_Some}
use Rattle.std.proofs.lemmas.List.{map-append}
use Rattle.std.proofs.lemmas.List.Elements.{All-weaker, All-contains, All-contains_itself, Contains-append_left, Contains-append_right, Contains-append_cases, Contains-push_cases}
use Rattle.blot_types.specs.declared.command.Entry.{Entry}
use Rattle.blot_types.specs.Legal.{is_book, without}
use Rattle.blot_types.proofs.LawLemmas.{book_parts}
use Rattle.blot_types.proofs.GeneralLemmas.{found-contains}
use Rattle.blot_places.specs.Shown.{item_at, with_item, without as without_item}
use Rattle.blot_command.specs.declared.inverse.Inverse.{Inverse}
use Rattle.blot_command.specs.declared.inverse.Inverse.TheVariants.{Number, Taken}
use Rattle.blot_command.specs.Book.{Shown, entry_number, has_number, numbers_of}
use Rattle.blot_command.specs.Law.{has_entry}
use Rattle.blot_command.specs.Meanings.{entry_meaning, command_meaning, KeepsFor}
use Rattle.blot_command.specs.Undoable.{KeepsEarlier}
use Rattle.blot_command.specs.Withdrawing.{with_entry, shares_exec, StandsOnce, IsThere, Keeps}
use Rattle.blot_command.proofs.SplitLemmas.{without-split}
use Rattle.blot_command.proofs.WithinLemmas.{either, middle_cases, middle_own, middle_other, mapped, from_mapped, from_passed, found_number, with_item_cases, at-with_own, at-with_other, at-without_other, without_other}

-- the entries in a book, listed and kept, and its numbers
abbrev pub entries_within : Shown → List Entry
entries_within shown = shown.list ++ shown.kept

abbrev pub numbers_within : Shown → List ℕ
numbers_within shown = numbers_of shown.kept ++ numbers_of shown.list

-- an entry in a book has its number there, and what is so of the numbers of its entries is so of each number
pub number_within : (shown : Shown) (entry : Entry) → Contains (entries_within shown) entry → Contains (numbers_within shown) entry.number
number_within shown entry within =
    elim (Contains-append_cases shown.list shown.kept entry within) [
      | inl listed ↦ Contains-append_right (numbers_of shown.kept) (numbers_of shown.list) entry.number (mapped entry_number shown.list entry listed)
      | inr kept ↦ Contains-append_left (numbers_of shown.kept) (numbers_of shown.list) entry.number (mapped entry_number shown.kept entry kept)
    ]

each_number : (shown : Shown) (P : ℕ → Type 0) → ((entry : Entry) → Contains (entries_within shown) entry → P entry.number) → (n : ℕ) → Contains (numbers_within shown) n → P n
each_number shown P each n within =
    elim (Contains-append_cases (numbers_of shown.kept) (numbers_of shown.list) n within) [
      | inl kept ↦ (let it = from_mapped entry_number shown.kept n kept in subst P it.2 (each it.0 (Contains-append_right shown.list shown.kept it.0 it.1)))
      | inr listed ↦ (let it = from_mapped entry_number shown.list n listed in subst P it.2 (each it.0 (Contains-append_left shown.list shown.kept it.0 it.1)))
    ]

-- where no entry comes in, no number does
pub numbers_from :
    (old new : Shown) → ((other : Entry) → Contains (entries_within new) other → Contains (entries_within old) other) → (n : ℕ) → Contains (numbers_within new) n
    → Contains (numbers_within old) n
numbers_from old new was = each_number new (Contains (numbers_within old)) (λ other within. number_within old other (was other within))

-- between two books no more than one number comes in, and what is below it stays
pub record Carries (number : ℕ) (old new : Shown) : Type 0 where
  pub there : (entry : Entry) → entry.number < number → StandsOnce old entry.number → IsThere old entry → IsThere new entry
  pub within : (other : Entry) → Contains (entries_within new) other → Contains (entries_within old) other ⊎ (other.number ≡ number)
  pub once : (n : ℕ) → n < number → StandsOnce old n → StandsOnce new n

pub carries_numbers : (number : ℕ) (old new : Shown) → Carries number old new → (n : ℕ) → Contains (numbers_within new) n → Contains (numbers_within old) n ⊎ (n ≡ number)
carries_numbers number old new carries =
    each_number new (λ n. Contains (numbers_within old) n ⊎ (n ≡ number)) (λ other within. elim (carries.within other within) [
      | inl was ↦ inl (number_within old other was)
      | inr came ↦ inr came
    ])

-- so what earlier steps need is kept
keeps_taken : (number n : ℕ) (old new : Shown) (entry : Entry) → Carries number old new → n < number → Keeps old n entry → Keeps new n entry
keeps_taken number n old new entry carries below keeps =
    let less : entry.number < number = omega (arith, keeps.earlier, below) in
    let Free : Entry → Type 0 = λ other. shares_exec entry other ≡ true → (other.number ≤ entry.number) ⊎ (n < other.number) in
    record {
      earlier = keeps.earlier;
      once = carries.once entry.number less keeps.once;
      there = carries.there entry less keeps.once keeps.there;
      untaken = All-weaker (Contains (entries_within new)) Free
          (λ other within shares. elim (carries.within other within) [
            | inl was ↦ All-contains Free (entries_within old) other keeps.untaken was shares
            | inr came ↦ inr (omega (arith, came, below))
          ])
          (entries_within new) (All-contains_itself (entries_within new));
      free = λ within. elim (carries_numbers number old new carries n within) [
        | inl was ↦ keeps.free was
        | inr came ↦ omega (arith, came, below)
      ];
    }

keeps_one : (number n : ℕ) (old new : Shown) (inverse : Inverse) → Carries number old new → n < number → KeepsFor old n inverse → KeepsFor new n inverse
keeps_one number n old new (Number own) carries below kept = tt
keeps_one number n old new (Taken entry) carries below keeps = keeps_taken number n old new entry carries below keeps

pub keeps_earlier : (number : ℕ) (old new : Shown) → Carries number old new → KeepsEarlier command_meaning number old new
keeps_earlier number old new carries n inverse below kept = keeps_one number n old new inverse carries below kept

pub keeps_earlier-entry : (number : ℕ) (old new : Shown) → Carries number old new → KeepsEarlier entry_meaning number old new
keeps_earlier-entry number old new carries n inverse below kept = tt

-- ---- one more entry at the end

numbers-push : (list : List Entry) (entry : Entry) → numbers_of (list ++ entry ∷ []) ≡ numbers_of list ++ entry.number ∷ []
numbers-push list entry = map-append entry_number list (entry ∷ [])

pub pushed_was : (list : List Entry) (entry : Entry) (n : ℕ) → Contains (numbers_of list) n → Contains (numbers_of (list ++ entry ∷ [])) n
pushed_was list entry n within = subst (λ l. Contains l n) (sym (numbers-push list entry)) (Contains-append_left (numbers_of list) (entry.number ∷ []) n within)

pushed_number : (list : List Entry) (entry : Entry) (n : ℕ) → Contains (numbers_of (list ++ entry ∷ [])) n → Contains (numbers_of list) n ⊎ (entry.number ≡ n)
pushed_number list entry n within = Contains-push_cases (numbers_of list) entry.number n (subst (λ l. Contains l n) (numbers-push list entry) within)

pub carries_push : (old : Shown) (entry : Entry) → Carries entry.number old (with_entry entry old)
carries_push old entry = record {
  there = λ other below once there. elim there [ inl listed ↦ inl (Contains-append_left old.list (entry ∷ []) other listed) | inr kept ↦ inr kept ];
  within = λ other within. elim (Contains-append_cases (old.list ++ entry ∷ []) old.kept other within) [
    | inl listed ↦ elim (Contains-push_cases old.list entry other listed) [
      | inl was ↦ inl (Contains-append_left old.list old.kept other was)
      | inr own ↦ inr (ap entry_number (sym own))
    ]
    | inr kept ↦ inl (Contains-append_right old.list old.kept other kept)
  ];
  once = λ n below once kept listed. elim (pushed_number old.list entry n listed) [ inl was ↦ once kept was | inr own ↦ omega (arith, own, below) ];
}

-- and the last one taken out
pub popped_within : (new : Shown) (entry other : Entry) → Contains (entries_within new) other → Contains (entries_within (with_entry entry new)) other
popped_within new entry other within =
    let list = new.list ++ entry ∷ [] in
    either new.list new.kept list new.kept other (λ listed. Contains-append_left list new.kept other (Contains-append_left new.list (entry ∷ []) other listed))
    (λ kept. Contains-append_right list new.kept other kept) within

pub carries_pop : (new : Shown) (entry : Entry) → Carries entry.number (with_entry entry new) new
carries_pop new entry = record {
  there = λ other below once there. elim there [
    | inl listed ↦ elim (Contains-push_cases new.list entry other listed) [ inl was ↦ inl was | inr own ↦ absurd (omega (arith, below, ap entry_number own)) ]
    | inr kept ↦ inr kept
  ];
  within = λ other within. inl (popped_within new entry other within);
  once = λ n below once kept listed. once kept (pushed_was new.list entry n listed);
}

-- ---- an entry taken out of the middle, and put back

-- a list without the entry of a number doesn't have the number
pub number_gone : (number : ℕ) (list : List Entry) → Contains (numbers_of (without number list)) number → ⊥
number_gone number list within =
    let mine = from_mapped entry_number (without number list) number within in
    let other : not (nat_eq mine.0.number number) ≡ true = (from_passed (λ entry. not (has_number number entry)) list mine.0 mine.1).1 in
    let same : not (nat_eq mine.0.number number) ≡ false = ap not (eq-eqb mine.0.number number mine.2) in
    differ (sym other ∙ same)
  where
    differ : true ≡ false → ⊥
    differ same = cc

-- a list with an entry in its middle, and the list without it
pub record Parted (entry : Entry) (full rest : List Entry) : Type 0 where
  pub front : List Entry
  pub back : List Entry
  pub full_is : full ≡ front ++ entry ∷ back
  pub rest_is : rest ≡ front ++ back
  pub gone : Contains (numbers_of rest) entry.number → ⊥

pub parted : (list : List Entry) (number : ℕ) (entry : Entry) → is_book list ≡ true → find (has_number number) list ≡ Some entry → Parted entry list (without entry.number list)
parted list number entry book found =
    let has = has_entry list number entry found in
    record {
      front = has.front;
      back = has.back;
      full_is = has.is;
      rest_is = without-split list has.front has.back entry has.is (book_parts list book).0;
      gone = number_gone entry.number list;
    }

-- a list, and what is kept beside it
abbrev pub listed_in : List Entry → List Entry → Shown
listed_in list kept = record { list = list; kept = kept }

module _ (entry : Entry) (full rest : List Entry) (it : Parted entry full rest) where
  pub own_within : Contains full entry
  own_within = subst (λ l. Contains l entry) (sym it.full_is) (middle_own it.front it.back entry)

  full_cases : (other : Entry) → Contains full other → (entry ≡ other) ⊎ Contains rest other
  full_cases other within =
      elim (middle_cases it.front it.back entry other (subst (λ l. Contains l other) it.full_is within)) [
        | inl own ↦ inl own
        | inr left ↦ inr (subst (λ l. Contains l other) (sym it.rest_is) left)
      ]

  rest_within : (other : Entry) → Contains rest other → Contains full other
  rest_within other within =
      subst (λ l. Contains l other) (sym it.full_is) (middle_other it.front it.back entry other (subst (λ l. Contains l other) it.rest_is within))

  rest_number : (n : ℕ) → Contains (numbers_of rest) n → Contains (numbers_of full) n
  rest_number n within =
      let mine = from_mapped entry_number rest n within in
      subst (Contains (numbers_of full)) mine.2 (mapped entry_number full mine.0 (rest_within mine.0 mine.1))

  -- taken out
  there-out : (kept : List Entry) (other : Entry) → StandsOnce (listed_in full kept) other.number → IsThere (listed_in full kept) other → IsThere (listed_in rest (with_item entry_number entry kept)) other
  there-out kept other once there =
      elim there [
        | inl listed ↦ elim (full_cases other listed) [
          | inl own ↦ inr (subst (λ (e : Entry). item_at entry_number e.number (with_item entry_number entry kept) ≡ Some e) own
              (at-with_own entry_number entry.number entry kept (eq-eqb entry.number entry.number refl)))
          | inr left ↦ inl left
        ]
        | inr is_kept ↦ elim (cases_Bool (nat_eq entry.number other.number)) [
          | inl same ↦ absurd (once (found_number entry_number other.number kept other is_kept)
              (subst (Contains (numbers_of full)) (eqb-true _ _ same) (mapped entry_number full entry own_within)))
          | inr apart ↦ inr (at-with_other entry_number other.number entry kept apart ∙ is_kept)
        ]
      ]

  pub within-out : (kept : List Entry) (other : Entry) → Contains (entries_within (listed_in rest (with_item entry_number entry kept))) other → Contains (entries_within (listed_in full kept)) other
  within-out kept other within =
      either rest (with_item entry_number entry kept) full kept other (λ listed. Contains-append_left full kept other (rest_within other listed))
      (λ more. elim (with_item_cases entry_number entry kept other more) [
        | inl own ↦ Contains-append_left full kept other (subst (Contains full) own own_within)
        | inr was ↦ Contains-append_right full kept other was
      ])
      within

  once-out : (kept : List Entry) (n : ℕ) → StandsOnce (listed_in full kept) n → StandsOnce (listed_in rest (with_item entry_number entry kept)) n
  once-out kept n once more listed =
      let mine = from_mapped entry_number (with_item entry_number entry kept) n more in
      elim (with_item_cases entry_number entry kept mine.0 mine.1) [
        | inl own ↦ it.gone (subst (Contains (numbers_of rest)) (sym mine.2 ∙ ap entry_number (sym own)) listed)
        | inr was ↦ once (subst (Contains (numbers_of kept)) mine.2 (mapped entry_number kept mine.0 was)) (rest_number n listed)
      ]

  pub carries_out : (step : ℕ) (kept : List Entry) → Carries step (listed_in full kept) (listed_in rest (with_item entry_number entry kept))
  carries_out step kept = record {
    there = λ other below once there. there-out kept other once there;
    within = λ other within. inl (within-out kept other within);
    once = λ n below once. once-out kept n once;
  }

  -- put back
  module _ (kept : List Entry) (is_kept : item_at entry_number entry.number kept ≡ Some entry) where
    there-in : (other : Entry) → IsThere (listed_in rest kept) other → IsThere (listed_in full (without_item entry_number entry.number kept)) other
    there-in other there =
        elim there [
          | inl listed ↦ inl (rest_within other listed)
          | inr was ↦ elim (cases_Bool (nat_eq entry.number other.number)) [
            | inl same ↦ inl (subst (Contains full) (same_Some entry other (sym is_kept ∙ ap (λ n. item_at entry_number n kept) (eqb-true _ _ same) ∙ was)) own_within)
            | inr apart ↦ inr (at-without_other entry_number entry.number other.number kept apart ∙ was)
          ]
        ]

    pub within-in : (other : Entry) → Contains (entries_within (listed_in full (without_item entry_number entry.number kept))) other → Contains (entries_within (listed_in rest kept)) other
    within-in other within =
        either full (without_item entry_number entry.number kept) rest kept other
        (λ listed. elim (full_cases other listed) [
          | inl own ↦ Contains-append_right rest kept other (subst (Contains kept) own (found-contains (λ e. nat_eq (entry_number e) entry.number) kept entry is_kept))
          | inr was ↦ Contains-append_left rest kept other was
        ])
        (λ less. Contains-append_right rest kept other (from_passed _ kept other less).0)
        within

    once-in : (n : ℕ) → StandsOnce (listed_in rest kept) n → StandsOnce (listed_in full (without_item entry_number entry.number kept)) n
    once-in n once less listed =
        let stays = without_other entry_number entry.number n kept less in
        let mine = from_mapped entry_number full n listed in
        elim (full_cases mine.0 mine.1) [
          | inl own ↦ (let clash : true ≡ false = sym (eq-eqb n entry.number (sym mine.2 ∙ ap entry_number (sym own))) ∙ stays.1 in differ clash)
          | inr was ↦ once stays.0 (subst (Contains (numbers_of rest)) mine.2 (mapped entry_number rest mine.0 was))
        ]
      where
        differ : true ≡ false → ⊥
        differ same = cc

    pub carries_in : (step : ℕ) → Carries step (listed_in rest kept) (listed_in full (without_item entry_number entry.number kept))
    carries_in step = record {
      there = λ other below once there. there-in other there;
      within = λ other within. inl (within-in other within);
      once = λ n below once. once-in n once;
    }
