-- The slots of the live list: what is found among them by a number, and what stands at the place of one.
use Rattle.std.proofs.Common.{◌≡◌, ◌≢◌, ℕ, zero, suc, ◌<◌, ◌≤◌, ◌==◌, Bool, true, false, cond, List, [], ◌∷◌, length, reverse, get_or, set, Option, Some, None, refl, sym, ap, subst, ◌∙◌, arith, ⊎_elim, inl, inr, find, not, nat_eq, IsSome, if◌then◌else◌, eq-eqb, ne_eqb}
use Rattle.std.proofs.lemmas.Bool.{cases_Bool, cases_eq, cases_lt}
use Rattle.std.proofs.lemmas.List.{get_or_default}
use Rattle.blot_types.specs.declared.command.Entry.{Entry}
use Rattle.blot_types.proofs.GeneralLemmas.{found-contains}
use Rattle.blot_places.specs.declared.slots.Slot.{Slot}
use Rattle.blot_places.specs.Slots.{marked}
use Rattle.blot_places.proofs.MarkLemmas.{side_here, side_on}
use Rattle.blot_places.proofs.SearchLemmas.{rises, marked-at}
use Rattle.blot_command.specs.Book.{entry_number, has_number}
use Rattle.blot_command.specs.Slots.{AreNumbered, IsLeft, entries_in, left_in}
use Rattle.blot_command.proofs.WithinLemmas.{from_mapped, from_passed, turned_within}

-- ---- what is found among the entries that are there

find-none : (n : ℕ) (slots : List (Slot Entry)) → ((k : ℕ) (d : Slot Entry) → k < length slots → (get_or slots k d).item.number ≢ n) → find (has_number n) (entries_in slots) ≡ None
find-none n [] apart = refl
find-none n (slot ∷ later) apart =
    let rest = find-none n later (λ k d within. apart (suc k) d (omega (arith, within))) in
    elim (cases_Bool slot.is_live) [
      | inl there ↦ ap (find (has_number n)) (side_here true slot later there) ∙ rw (ne_eqb slot.item.number n (apart 0 slot (omega arith))) rest
      | inr gone ↦ ap (find (has_number n)) (side_on true slot later gone) ∙ rest
    ]

-- the entry of a slot, if it is there
abbrev pub entry_in : Slot Entry → Option Entry
entry_in slot = if slot.is_live then Some slot.item else None

-- each number is below those after it
abbrev Rise : List (Slot Entry) → Type 0
Rise slots = (i j : ℕ) (d : Slot Entry) → i < j → j < length slots → (get_or slots i d).item.number < (get_or slots j d).item.number

find-at :
    (n : ℕ) (slots : List (Slot Entry)) (place : ℕ) (slot : Slot Entry) → Rise slots → slot ≡ get_or slots place slot → place < length slots → slot.item.number ≡ n
    → find (has_number n) (entries_in slots) ≡ entry_in slot
find-at n [] place slot rise is within own = absurd (omega arith)
find-at n (first ∷ later) zero slot rise is within own =
    let same : first.item.number ≡ n = ap (λ (s : Slot Entry). s.item.number) (sym is) ∙ own in
    let rest : find (has_number n) (entries_in later) ≡ None =
    find-none n later (λ k d inside equal. let less = rise 0 (suc k) d (omega arith) (omega (arith, inside)) in omega (arith, less, same, equal)) in
    ap (λ found. found) (elim (cases_Bool first.is_live) [
      | inl there ↦
          ap (find (has_number n)) (side_here true first later there) ∙ ap (λ t. cond t (Some first.item) (find (has_number n) (entries_in later))) (eq-eqb first.item.number n same)
          ∙ ap (λ t. if t then Some first.item else None) (sym there)
      | inr gone ↦ ap (find (has_number n)) (side_on true first later gone) ∙ rest ∙ ap (λ t. if t then Some first.item else None) (sym gone)
    ]) ∙ ap entry_in (sym is)
find-at n (first ∷ later) (suc place) slot rise is within own =
    let less = rise 0 (suc place) slot (omega arith) within in
    let at : (get_or later place slot).item.number ≡ n = ap (λ (s : Slot Entry). s.item.number) (sym is) ∙ own in
    let other : (first.item.number == n) ≡ false = ne_eqb first.item.number n (λ same. omega (arith, less, at, same)) in
    let rest = find-at n later place slot (λ i j d before inside. rise (suc i) (suc j) d (omega (arith, before)) (omega (arith, inside))) is (omega (arith, within)) own in
    elim (cases_Bool first.is_live) [
      | inl there ↦ ap (find (has_number n)) (side_here true first later there) ∙ rw other rest
      | inr gone ↦ ap (find (has_number n)) (side_on true first later gone) ∙ rest
    ]

-- ---- the first place whose number isn't below

module _ (slots : List (Slot Entry)) (n place : ℕ) (numbered : AreNumbered slots) (below : (k : ℕ) (d : Slot Entry) → k < place → (get_or slots k d).item.number < n)
    (above : (k : ℕ) (d : Slot Entry) → place ≤ k → k < length slots → n ≤ (get_or slots k d).item.number) where
  -- past the end there is none
  pub found-past : length slots ≤ place → find (has_number n) (entries_in slots) ≡ None
  found-past past = find-none n slots (λ k d within same. let less = below k d (omega (arith, past, within)) in omega (arith, less, same))

  -- where the number there is another, there is none
  pub found-other : (slot : Slot Entry) → slot ≡ get_or slots place slot → place < length slots → slot.item.number ≢ n → find (has_number n) (entries_in slots) ≡ None
  found-other slot is within other =
      find-none n slots (λ k d inside same.
      ⊎_elim (λ (here : k ≡ place).
      other (ap (λ (s : Slot Entry). s.item.number) (is ∙ get_or_default slots place slot d within ∙ ap (λ j. get_or slots j d) (sym here)) ∙ same))
      (λ (there : k ≢ place). apart-at k d inside there same)
      (cases_eq k place))
    where
      apart-at : (k : ℕ) (d : Slot Entry) → k < length slots → k ≢ place → (get_or slots k d).item.number ≢ n
      apart-at k d inside there same =
          ⊎_elim (λ (less : k < place). let under = below k d less in omega (arith, under, same))
          (λ (le : place ≤ k).
          let least : n ≤ (get_or slots place d).item.number = above place d (omega arith) (omega (arith, le, inside)) in
          let more = rises entry_number slots place k d numbered (omega arith) inside in
          omega (arith, least, more, same))
          (cases_lt k place)

  -- where it is this one, the entry of its slot is the one, if it is there
  pub found-here : (slot : Slot Entry) → slot ≡ get_or slots place slot → place < length slots → slot.item.number ≡ n → find (has_number n) (entries_in slots) ≡ entry_in slot
  found-here slot is within own = find-at n slots place slot (λ i j d less inside. rises entry_number slots i j d numbered less inside) is within own

  -- the slot of an entry that is there
  pub record IsThereAt : Type 0 where
    pub within : place < length slots
    pub own : (slot : Slot Entry) → slot ≡ get_or slots place slot → slot.item.number ≡ n
    pub live : (slot : Slot Entry) → slot ≡ get_or slots place slot → slot.is_live ≡ true
    pub found : (slot : Slot Entry) → slot ≡ get_or slots place slot → find (has_number n) (entries_in slots) ≡ Some slot.item

  none_some : {X : Type 0} (found : Option X) → found ≡ None → IsSome found → ⊥
  none_some None none some = cc
  none_some (Some x) none some = cc

  pub there-at : IsSome (find (has_number n) (entries_in slots)) → IsThereAt
  there-at some =
      ⊎_elim (λ (within : place < length slots). record {
        within = within;
        own = λ slot is. its slot is within;
        live = λ slot is. its_live slot is within (its slot is within);
        found = λ slot is. found-here slot is within (its slot is within) ∙ ap (λ t. if t then Some slot.item else None) (its_live slot is within (its slot is within));
      })
      (λ (past : length slots ≤ place). absurd (none_some _ (found-past past) some))
      (cases_lt place (length slots))
    where
      its : (slot : Slot Entry) → slot ≡ get_or slots place slot → place < length slots → slot.item.number ≡ n
      its slot is within =
          ⊎_elim (λ (own : slot.item.number ≡ n). own) (λ (other : slot.item.number ≢ n). absurd (none_some _ (found-other slot is within other) some)) (cases_eq slot.item.number n)

      its_live : (slot : Slot Entry) → slot ≡ get_or slots place slot → place < length slots → slot.item.number ≡ n → slot.is_live ≡ true
      its_live slot is within own =
          elim (cases_Bool slot.is_live) [
            | inl there ↦ there
            | inr gone ↦ absurd (none_some _ (found-here slot is within own ∙ ap (λ t. if t then Some slot.item else None) gone) some)
          ]

  -- the slot of an entry that was taken out
  pub left-at : (entry : Entry) → entry.number ≡ n → IsLeft entry slots → (place < length slots) × ((slot : Slot Entry) → slot ≡ get_or slots place slot → slot.item ≡ entry)
  left-at entry own left =
      let inside = from_mapped (λ (slot : Slot Entry). slot.item) _ entry (found-contains (λ item. nat_eq (entry_number item) entry.number) (left_in slots) entry left) in
      let turned = from_passed (λ (slot : Slot Entry). not slot.is_live) (reverse slots) inside.0 inside.1 in
      let it = turned_within slots inside.0 turned.0 in
      let number : (get_or slots it.0 inside.0).item.number ≡ n = ap (λ (s : Slot Entry). s.item.number) it.2 ∙ ap (λ (e : Entry). e.number) inside.2 ∙ own in
      let here : it.0 ≡ place =
      ⊎_elim (λ (same : it.0 ≡ place). same) (λ (other : it.0 ≢ place). absurd (
      ⊎_elim (λ (less : it.0 < place). let under = below it.0 inside.0 less in omega (arith, under, number))
      (λ (le : place ≤ it.0).
      let least : n ≤ (get_or slots place inside.0).item.number = above place inside.0 (omega arith) (omega (arith, le, it.1)) in
      let more = rises entry_number slots place it.0 inside.0 numbered (omega arith) it.1 in
      omega (arith, least, more, number)) (cases_lt it.0 place))) (cases_eq it.0 place) in
      let within : place < length slots = subst (λ k. k < length slots) here it.1 in (
        within,
        λ slot is. ap (λ (s : Slot Entry). s.item) (is ∙ get_or_default slots place slot inside.0 within ∙ ap (λ k. get_or slots k inside.0) (sym here) ∙ it.2) ∙ inside.2,
      )

  -- what is written there marks the slot
  pub marked-there : (side : Bool) (slot : Slot Entry) → slot ≡ get_or slots place slot → place < length slots → slot.item.number ≡ n
      → set slots place (record slot { is_live = side }) ≡ marked entry_number n side slots
  marked-there side slot is within own =
      ap (set slots place) (ap (λ t. cond t (record slot { is_live = side }) slot) (sym (eq-eqb slot.item.number n own)))
      ∙ marked-at entry_number slots n side place numbered below above slot is within
