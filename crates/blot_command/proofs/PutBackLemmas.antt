-- What the live list keeps, once an entry is put back at its place.
use Rattle.std.proofs.Common.{◌≡◌, ℕ, Bool, true, false, ◌&&◌, cond, List, [], ◌∷◌, reverse, Option, Some, None, ◌⊎◌, refl, sym, ap, subst, ◌∙◌, inl, inr, Contains, find, is_some, nat_eq, nat_lt, not, if◌then◌else◌, option_and_then, eq-eqb}
use Rattle.std.specs.List.{cons_option}
use Rattle.std.specs.Option.{option_map_or}
use Rattle.std.proofs.lemmas.Bool.{cases_Bool, and_parts, and_from}
use Rattle.std.proofs.lemmas.List.{reverse-reverse}
use Rattle.blot_types.specs.declared.{allocation.Instruction.Instruction, command.Entry.Entry, keys.ExecKey.ExecKey, link.Link.Link}
use Rattle.blot_types.specs.Chains.{is_chained}
use Rattle.blot_types.specs.Instructions.{is_instructed}
use Rattle.blot_types.specs.Keys.{same_exec}
use Rattle.blot_types.specs.Legal.{is_book, without}
use Rattle.blot_types.specs.Survivors.{link_of, links_in, links_of}
use Rattle.blot_types.specs.Withdrawal.{put_back}
use Rattle.blot_types.proofs.AcceptLemmas.{instructed}
use Rattle.blot_types.proofs.ChainLemmas.{differing}
use Rattle.blot_types.proofs.EntryLemmas.{chained-links, falls-links}
use Rattle.blot_types.proofs.LawLemmas.{book_parts}
use Rattle.blot_types.proofs.GeneralLemmas.{found-contains}
use Rattle.blot_places.specs.declared.slots.Slot.{Slot}
use Rattle.blot_places.specs.Shown.{Shown, item_at, with_item, with_some}
use Rattle.blot_places.specs.Slots.{items, live, mark, marked, numbers_fall}
use Rattle.blot_places.proofs.MarkLemmas.{at-apart, falling-side, items-marked, mark-same, marked-into, reverse-marked, side_here, side_on}
use Rattle.blot_places.proofs.ShownLemmas.{at-here, at-on, put_back-lifted, at-lifted}
use Rattle.blot_chain.specs.Steps.{is_untaken_above, lifted_out as lifted_link, number_of as link_number, put_back as put_back_link}
use Rattle.blot_alloc.specs.Allocs.{instruction_at, lifted_out as lifted_instruction, number_of as instruction_of_number, put_back as put_back_instruction}
use Rattle.blot_command.specs.Book.{entry_number, has_number}
use Rattle.blot_command.specs.Linking.{CanUnLift, is_instruction, is_link, lifted_allocs, lifted_chains, returned_allocs, returned_chains}
use Rattle.blot_command.specs.Withdrawing.{shares_exec}
use Rattle.blot_command.specs.Slots.{AreNumbered, NewestThere, entries_in, left_in}
use Rattle.blot_command.proofs.LeftLemmas.{exec-key}
use Rattle.blot_command.proofs.WithinLemmas.{at-with_own, cons_cases, none_within, within_turned}
use Rattle.blot_command.proofs.TurnLemmas.{at-own, at-turned, list-put, list-taken, live-turned}
use Rattle.blot_command.proofs.HoldLemmas.{allocs_of, at-links, chains_of, falls-instructions, falls-link-numbers, its-number}
use Rattle.blot_command.proofs.TakeOutLemmas.{IsTaken, taken}
use Rattle.blot_command.proofs.NewestThereLemmas.{Untaken, newest-put}

-- ---- an entry is put back

-- what is marked and marked again is as it was
marked-back : (slots : List (Slot Entry)) (n : ℕ) → item_at entry_number n (live slots) ≡ None → marked entry_number n false (marked entry_number n true slots) ≡ slots
marked-back [] n none = refl
marked-back (slot ∷ earlier) n none =
    elim (cases_Bool (nat_eq slot.item.number n)) [
      | inl here ↦
          elim (cases_Bool slot.is_live) [
            | inl there ↦ (let clash : Some slot.item ≡ None = sym (ap (item_at entry_number n) (side_here true slot earlier there) ∙ at-here entry_number n slot.item (live earlier) here) ∙ none in cc)
            | inr taken ↦
                let on : mark entry_number n true slot ≡ record slot { is_live = true } = ap (λ t. cond t (record slot { is_live = true }) slot) here in
                let off : mark entry_number n false (record slot { is_live = true }) ≡ slot = ap (λ t. cond t (record slot { is_live = false }) (record slot { is_live = true })) here ∙ (λ i. record slot { is_live = sym taken i }) in
                let rest = marked-back earlier n (ap (item_at entry_number n) (sym (side_on true slot earlier taken)) ∙ none) in
                (λ i. (ap (mark entry_number n false) on ∙ off) i ∷ rest i)
          ]
      | inr other ↦
          let same = ap (mark entry_number n false) (mark-same entry_number n true slot other) ∙ mark-same entry_number n false slot other in
          let rest = marked-back earlier n (below-none (elim (cases_Bool slot.is_live) [
            | inl there ↦ inl (there, ap (item_at entry_number n) (sym (side_here true slot earlier there)) ∙ none)
            | inr taken ↦ inr (ap (item_at entry_number n) (sym (side_on true slot earlier taken)) ∙ none)
          ]) other) in
          (λ i. same i ∷ rest i)
    ]
  where
    below-none : ((slot.is_live ≡ true) × (item_at entry_number n (slot.item ∷ live earlier) ≡ None)) ⊎ (item_at entry_number n (live earlier) ≡ None) → nat_eq slot.item.number n ≡ false → item_at entry_number n (live earlier) ≡ None
    below-none (inl first) other = sym (at-on entry_number n slot.item (live earlier) other) ∙ first.1
    below-none (inr rest) other = rest

-- of links none takes up the key that no entry shares
untaken-links : (entry : Entry) (link : Link) (entries : List Entry) → link_of entry ≡ Some link → Untaken entry entries → is_untaken_above entry.number link.key (links_in entries) ≡ true
untaken-links entry link [] linked untaken = refl
untaken-links entry link (other ∷ entries) linked untaken =
    let parts : (not (nat_lt entry.number other.number && shares_exec entry other) ≡ true) × Untaken entry entries = and_parts _ _ untaken in
    by (link_of other) refl parts.0 (untaken-links entry link entries linked parts.1)
  where
    by : (found : Option Link) → link_of other ≡ found → not (nat_lt entry.number other.number && shares_exec entry other) ≡ true → is_untaken_above entry.number link.key (links_in entries) ≡ true
        → is_untaken_above entry.number link.key (cons_option found (links_in entries)) ≡ true
    by None is first rest = rest
    by (Some own) is first rest =
        let shares : shares_exec entry other ≡ same_exec own.key link.key =
        (λ i. option_map_or (λ (k : ExecKey). option_map_or (λ (mine : ExecKey). same_exec mine k) (exec-key other own is i) false) (exec-key entry link linked i) false) in
        and_from _ _ ((λ i. not (nat_lt entry.number (its-number other own is i) && sym shares i)) ∙ first) rest

find-passed : {X : Type 0} (p : X → Bool) (xs : List X) (x : X) → find p xs ≡ None → Contains xs x → p x ≡ false
find-passed p [] x none within = absurd (none_within x within)
find-passed p (first ∷ xs) x none within =
    elim (cases_Bool (p first)) [
      | inl here ↦ (let clash : Some first ≡ None = rw here at none in cc)
      | inr passed ↦ elim (cons_cases first xs x within) [
        | inl own ↦ ap p (sym own) ∙ passed
        | inr later ↦ find-passed p xs x (rw passed at none) later
      ]
    ]

-- the slots with an entry put back: what the chains and the allocations are, and that it may be put back there
pub record IsPut (slots : List (Slot Entry)) (entry : Entry) : Type 0 where
  pub can : CanUnLift entry (chains_of slots) (allocs_of slots)
  pub chains : returned_chains entry (chains_of slots) ≡ chains_of (marked entry_number entry.number true slots)
  pub allocs : returned_allocs entry (allocs_of slots) ≡ allocs_of (marked entry_number entry.number true slots)
  pub numbered : AreNumbered (marked entry_number entry.number true slots)
  pub newest : NewestThere (reverse (marked entry_number entry.number true slots))

module _ (slots : List (Slot Entry)) (entry : Entry) (numbered : AreNumbered slots) (left : item_at entry_number entry.number (left_in slots) ≡ Some entry) (untaken : Untaken entry (left_in slots))
    (rest_book : is_book (entries_in slots) ≡ true) (book : is_book (put_back entry (entries_in slots)) ≡ true) (newest : NewestThere (reverse slots)) where
  abbrev with_it : List (Slot Entry)
  with_it = marked entry_number entry.number true slots

  turned : reverse with_it ≡ marked entry_number entry.number true (reverse slots)
  turned = reverse-marked entry_number entry.number true slots

  numbered_with : AreNumbered with_it
  numbered_with = ap (λ s. numbers_fall entry_number (items s)) turned ∙ ap (numbers_fall entry_number) (items-marked entry_number entry.number true (reverse slots)) ∙ numbered

  none-there : item_at entry_number entry.number (live (reverse slots)) ≡ None
  none-there = at-apart entry_number entry.number false (reverse slots) entry numbered left

  back : marked entry_number entry.number false with_it ≡ slots
  back =
      sym (reverse-reverse (marked entry_number entry.number false with_it))
      ∙ ap reverse (reverse-marked entry_number entry.number false with_it ∙ ap (marked entry_number entry.number false) turned ∙ marked-back (reverse slots) entry.number none-there)
      ∙ reverse-reverse slots

  list_with : entries_in with_it ≡ put_back entry (entries_in slots)
  list_with = list-put slots entry numbered left

  within_with : Contains (entries_in with_it) entry
  within_with =
      let into : live (reverse with_it) ≡ with_item entry_number entry (live (reverse slots)) =
      ap live turned ∙ marked-into entry_number entry.number true (reverse slots) numbered ∙ ap (λ f. with_some entry_number f (live (reverse slots))) left in
      let at : item_at entry_number entry.number (live (reverse with_it)) ≡ Some entry =
      ap (item_at entry_number entry.number) into ∙ at-with_own entry_number entry.number entry (live (reverse slots)) (eq-eqb entry.number entry.number refl) in
      subst (λ l. Contains l entry) (ap reverse (live-turned with_it) ∙ reverse-reverse (entries_in with_it))
      (within_turned (live (reverse with_it)) entry (found-contains (λ item. nat_eq (entry_number item) entry.number) (live (reverse with_it)) entry at))

  found_with : find (has_number entry.number) (entries_in with_it) ≡ Some entry
  found_with = by (find (has_number entry.number) (entries_in with_it)) refl
    where
      by : (found : Option Entry) → find (has_number entry.number) (entries_in with_it) ≡ found → found ≡ Some entry
      by None is = absurd (differing (eq-eqb entry.number entry.number refl) (find-passed (has_number entry.number) (entries_in with_it) entry is within_with))
      by (Some other) is =
          let one = (at-turned with_it other entry.number numbered_with is).1 in
          let two = at-own (live (reverse with_it)) entry (falling-side entry_number true (reverse with_it) numbered_with) (subst (λ l. Contains l entry) (sym (live-turned with_it)) (within_turned (entries_in with_it) entry within_with)) in
          sym one ∙ two

  book_with : is_book (entries_in with_it) ≡ true
  book_with = ap is_book list_with ∙ book

  rest_with : is_book (without entry.number (entries_in with_it)) ≡ true
  rest_with = ap is_book (sym (list-taken with_it entry.number) ∙ ap entries_in back) ∙ rest_book

  newest_with : NewestThere (reverse with_it)
  newest_with =
      subst NewestThere (sym turned)
      (newest-put (reverse slots) entry numbered left untaken
      (ap (λ s. is_chained (links_in (live s))) (sym turned) ∙ ap (λ entries. is_chained (links_in entries)) (live-turned with_it) ∙ chained-links (reverse (entries_in with_it)) (book_parts (entries_in with_it) book_with).1)
      newest)

  took : IsTaken with_it entry
  took = taken with_it entry numbered_with found_with book_with rest_with newest_with

  chains_without : chains_of slots ≡ lifted_chains entry (chains_of with_it)
  chains_without = ap chains_of (sym back) ∙ took.chains

  allocs_without : allocs_of slots ≡ lifted_allocs entry (allocs_of with_it)
  allocs_without = ap allocs_of (sym back) ∙ took.allocs

  falls-with : numbers_fall link_number (links_of (entries_in with_it)) ≡ true
  falls-with = sym (falls-link-numbers (links_of (entries_in with_it))) ∙ falls-links (reverse (entries_in with_it)) (book_parts (entries_in with_it) book_with).0

  chains-back : is_link entry.command ≡ true → put_back_link entry.number (chains_of slots) ≡ chains_of with_it
  chains-back is =
      let it = took.link is in
      ap (put_back_link entry.number) (chains_without ∙ ap (λ b. if b then lifted_link entry.number (chains_of with_it) else chains_of with_it) is)
      ∙ put_back-lifted link_number entry.number (chains_of with_it) it.0 falls-with it.2 it.3

  allocs-back : is_instruction entry.command ≡ true → put_back_instruction entry.number (allocs_of slots) ≡ allocs_of with_it
  allocs-back is =
      let it = took.instruction is in
      ap (put_back_instruction entry.number) (allocs_without ∙ ap (λ b. if b then lifted_instruction entry.number (allocs_of with_it) else allocs_of with_it) is)
      ∙ put_back-lifted instruction_of_number entry.number (allocs_of with_it) it.0 (falls-instructions (reverse (entries_in with_it)) (book_parts (entries_in with_it) book_with).0) it.1 it.2

  pub put : IsPut slots entry
  put = record {
    can = record {
      link = λ is.
          (let it = took.link is in (
            record {
              link = it.0;
              kept = at-links entry.number (left_in slots) (falling-side entry_number false (reverse slots) numbered) ∙ ap (option_and_then link_of) left ∙ it.1;
              untaken = untaken-links entry it.0 (left_in slots) it.1 untaken;
            },
            ap (λ (s : Shown Link). is_chained s.list) (chains-back is) ∙ chained-links (reverse (entries_in with_it)) (book_parts (entries_in with_it) book_with).1,
          ));
      instruction = λ is.
          (let it = took.instruction is in (
            ap is_some (ap (λ (s : Shown Instruction). instruction_at entry.number s.kept) (allocs_without ∙ ap (λ b. if b then lifted_instruction entry.number (allocs_of with_it) else allocs_of with_it) is)
                ∙ at-lifted instruction_of_number entry.number (allocs_of with_it) it.0 it.1 it.2),
            ap (λ (s : Shown Instruction). is_instructed s.list) (allocs-back is) ∙ instructed (reverse (entries_in with_it)) (book_parts (entries_in with_it) book_with).1,
          ));
    };
    chains = elim (cases_Bool (is_link entry.command)) [
      | inl is ↦ ap (λ b. if b then put_back_link entry.number (chains_of slots) else chains_of slots) is ∙ chains-back is
      | inr other ↦
          ap (λ b. if b then put_back_link entry.number (chains_of slots) else chains_of slots) other
          ∙ chains_without ∙ ap (λ b. if b then lifted_link entry.number (chains_of with_it) else chains_of with_it) other
    ];
    allocs = elim (cases_Bool (is_instruction entry.command)) [
      | inl is ↦ ap (λ b. if b then put_back_instruction entry.number (allocs_of slots) else allocs_of slots) is ∙ allocs-back is
      | inr other ↦
          ap (λ b. if b then put_back_instruction entry.number (allocs_of slots) else allocs_of slots) other
          ∙ allocs_without ∙ ap (λ b. if b then lifted_instruction entry.number (allocs_of with_it) else allocs_of with_it) other
    ];
    numbered = numbered_with;
    newest = newest_with;
  }
