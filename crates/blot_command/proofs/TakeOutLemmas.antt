-- What the live list keeps, once an entry is taken out of the middle.
use Rattle.std.proofs.Common.{◌≡◌, true, false, List, ◌∷◌, ◌++◌, reverse, Option, Some, None, refl, sym, ap, subst, ◌∙◌, find, is_some, nat_eq, not, if◌then◌else◌, option_and_then}
use Rattle.blot_types.specs.declared.{allocation.Instruction.Instruction, command.Command.Command, command.Entry.Entry, link.Link.Link}
use Rattle.blot_types.specs.declared.command.Command.TheVariants.{Trade, Correct, Bust, AllocNew, AllocReplace, AllocCancel, Withdraw}
use Rattle.blot_types.specs.Allocations.{instructions_in, instructions_of}
use Rattle.blot_types.specs.Chains.{is_chained}
use Rattle.blot_types.specs.Instructions.{is_instructed}
use Rattle.blot_types.specs.Legal.{is_book, legal_in, without}
use Rattle.blot_types.specs.Refusals.{withdrawn_by}
use Rattle.blot_types.specs.Survivors.{link_of, links_in, links_of}
use Rattle.blot_types.proofs.AcceptLemmas.{instructed}
use Rattle.blot_types.proofs.ApartLemmas.{LinkApart, link-apart}
use Rattle.blot_types.proofs.BetweenLemmas.{InstructionApart, instruction-apart}
use Rattle.blot_types.proofs.ChainLemmas.{differing}
use Rattle.blot_types.proofs.EntryLemmas.{chained-links}
use Rattle.blot_types.proofs.LawLemmas.{book_parts}
use Rattle.blot_types.proofs.StayLemmas.{filter-reverse}
use Rattle.blot_places.specs.declared.slots.Slot.{Slot}
use Rattle.blot_places.specs.Shown.{item_at, with_some, without as without_item}
use Rattle.blot_places.specs.Slots.{live, marked, numbers_fall}
use Rattle.blot_places.proofs.MarkLemmas.{at-apart, falling-side, reverse-marked}
use Rattle.blot_chain.specs.Steps.{link_at, lifted_out as lifted_link, number_of as link_number}
use Rattle.blot_alloc.specs.Allocs.{instruction_at, lifted_out as lifted_instruction, number_of as instruction_of_number}
use Rattle.blot_command.specs.Book.{entry_number, has_number}
use Rattle.blot_command.specs.Linking.{CanLift, is_instruction, is_link, lifted_allocs, lifted_chains}
use Rattle.blot_command.specs.Law.{has_entry}
use Rattle.blot_command.specs.Slots.{AreNumbered, NewestThere, entries_in, left_in, left_instructions}
use Rattle.blot_command.proofs.LeftLemmas.{left-apart, left-taken}
use Rattle.blot_command.proofs.LiveLemmas.{instruction-number}
use Rattle.blot_command.proofs.SplitLemmas.{without-split, withdrawn-none}
use Rattle.blot_command.proofs.TurnLemmas.{at-turned, kept-taken, list-taken, live-turned}
use Rattle.blot_command.proofs.HoldLemmas.{allocs_of, at-links, at-middle-own, chains_of, falls-instructions, links-with, links-without, no-instruction, without-middle}

-- ---- an entry is taken out

-- which kind of entry it is
link-kind : (entry : Entry) (link : Link) → link_of entry ≡ Some link → (is_link entry.command ≡ true) × (is_instruction entry.command ≡ false)
link-kind entry link linked = by entry.command linked
  where
    by : (command : Command) → link_of (record { number = entry.number; command = command }) ≡ Some link → (is_link command ≡ true) × (is_instruction command ≡ false)
    by (Trade trade) is = (refl, refl)
    by (Correct correct) is = (refl, refl)
    by (Bust bust) is = (refl, refl)
    by (AllocNew new) is = cc
    by (AllocReplace replace) is = cc
    by (AllocCancel cancel) is = cc
    by (Withdraw withdrawn) is = cc

instruction-kind : (entry : Entry) → link_of entry ≡ None → withdrawn_by entry.command ≡ None → (is_link entry.command ≡ false) × (is_instruction entry.command ≡ true)
instruction-kind entry unlinked stays = by entry.command unlinked stays
  where
    by : (command : Command) → link_of (record { number = entry.number; command = command }) ≡ None → withdrawn_by command ≡ None → (is_link command ≡ false) × (is_instruction command ≡ true)
    by (Trade trade) is stays = cc
    by (Correct correct) is stays = cc
    by (Bust bust) is stays = cc
    by (AllocNew new) is stays = (refl, refl)
    by (AllocReplace replace) is stays = (refl, refl)
    by (AllocCancel cancel) is stays = (refl, refl)
    by (Withdraw withdrawn) is stays = cc

-- the chains and the allocations with and without an entry, and that they may lose it
pub record IsTaken (slots : List (Slot Entry)) (entry : Entry) : Type 0 where
  pub chains : chains_of (marked entry_number entry.number false slots) ≡ lifted_chains entry (chains_of slots)
  pub allocs : allocs_of (marked entry_number entry.number false slots) ≡ lifted_allocs entry (allocs_of slots)
  pub can : CanLift entry (chains_of slots) (allocs_of slots)
  -- what is found of it there, and not among those that are kept
  pub link : is_link entry.command ≡ true → (link : Link) × (link_of entry ≡ Some link) × (link_at entry.number (chains_of slots).list ≡ Some link) × (link_at entry.number (chains_of slots).kept ≡ None)
  pub instruction :
      is_instruction entry.command ≡ true
      → (i : Instruction) × (instruction_at entry.number (allocs_of slots).list ≡ Some i) × (instruction_at entry.number (allocs_of slots).kept ≡ None)

module _ (slots : List (Slot Entry)) (entry : Entry) (numbered : AreNumbered slots) (found : find (has_number entry.number) (entries_in slots) ≡ Some entry)
    (book : is_book (entries_in slots) ≡ true) (rest_book : is_book (without entry.number (entries_in slots)) ≡ true) (newest : NewestThere (reverse slots)) where
  abbrev list : List Entry
  list = entries_in slots

  abbrev rest : List Entry
  rest = without entry.number list

  there : item_at entry_number entry.number (live (reverse slots)) ≡ Some entry
  there = (at-turned slots entry entry.number numbered found).1

  unkept : item_at entry_number entry.number (left_in slots) ≡ None
  unkept = at-apart entry_number entry.number true (reverse slots) entry numbered there

  falls : numbers_fall entry_number (live (reverse slots)) ≡ true
  falls = falling-side entry_number true (reverse slots) numbered

  falls_left : numbers_fall entry_number (left_in slots) ≡ true
  falls_left = falling-side entry_number false (reverse slots) numbered

  link-there : link_at entry.number (links_of list) ≡ link_of entry
  link-there = ap (λ entries. link_at entry.number (links_in entries)) (sym (live-turned slots)) ∙ at-links entry.number (live (reverse slots)) falls ∙ ap (option_and_then link_of) there

  link-unkept : link_at entry.number (links_in (left_in slots)) ≡ None
  link-unkept = at-links entry.number (left_in slots) falls_left ∙ ap (option_and_then link_of) unkept

  links-rest : links_of rest ≡ without_item link_number entry.number (links_of list)
  links-rest =
      ap links_in (sym (filter-reverse (λ (e : Entry). not (nat_eq e.number entry.number)) list)) ∙ links-without entry.number (reverse list)

  kept-rest : links_in (left_in (marked entry_number entry.number false slots)) ≡ with_some link_number (link_of entry) (links_in (left_in slots))
  kept-rest = ap links_in (kept-taken slots entry entry.number numbered found) ∙ links-with entry (left_in slots) falls_left unkept

  instructions-turned : instructions_in (live (reverse slots)) ≡ instructions_of list
  instructions-turned = ap instructions_in (live-turned slots)

  kept-instructions : left_instructions (reverse (marked entry_number entry.number false slots)) ≡ with_some instruction_of_number (instruction_at entry.number (instructions_of list)) (left_instructions (reverse slots))
  kept-instructions =
      ap left_instructions (reverse-marked entry_number entry.number false slots)
      ∙ left-taken (reverse slots) entry.number numbered newest (ap legal_in (live-turned slots) ∙ (book_parts list book).1)
      ∙ ap (λ all. with_some instruction_of_number (instruction_at entry.number all) (left_instructions (reverse slots))) instructions-turned

  -- none of those that are kept has its number
  kept-apart : instruction_at entry.number (left_instructions (reverse slots)) ≡ None
  kept-apart = left-apart (reverse slots) entry.number numbered unkept

  taken-link : (link : Link) → link_of entry ≡ Some link → LinkApart list rest entry → IsTaken slots entry
  taken-link link linked apart =
      let kind = link-kind entry link linked in
      let n = entry.number in
      let at : link_at n (links_of list) ≡ Some link = link-there ∙ linked in
      let none : instruction_at n (instructions_of list) ≡ None = ap (instruction_at n) (sym instructions-turned) ∙ no-instruction (live (reverse slots)) entry link falls there linked in
      let lifted : chains_of (marked entry_number n false slots) ≡ lifted_link n (chains_of slots) =
      (λ i. record {
        list = (ap links_of (list-taken slots n) ∙ links-rest) i;
        kept = (kept-rest ∙ ap (λ f. with_some link_number f (links_in (left_in slots))) (sym link-there)) i;
      }) in
      let same : allocs_of (marked entry_number n false slots) ≡ allocs_of slots =
      (λ i. record {
        list = (ap instructions_of (list-taken slots n) ∙ sym apart.instructions) i;
        kept = (kept-instructions ∙ ap (λ f. with_some instruction_of_number f (left_instructions (reverse slots))) none) i;
      }) in
      record {
        chains = lifted ∙ ap (λ b. if b then lifted_link n (chains_of slots) else chains_of slots) (sym kind.0);
        allocs = same ∙ ap (λ b. if b then lifted_instruction n (allocs_of slots) else allocs_of slots) (sym kind.1);
        can = record {
          link = λ is. (ap is_some at, ap is_chained (sym links-rest) ∙ chained-links (reverse rest) (book_parts rest rest_book).1);
          instruction = λ is. absurd (differing is kind.1);
        };
        link = λ is. (link, linked, at, link-unkept);
        instruction = λ is. absurd (differing is kind.1);
      }

  taken-instruction : link_of entry ≡ None → withdrawn_by entry.command ≡ None → InstructionApart list rest entry → IsTaken slots entry
  taken-instruction unlinked stays apart =
      let kind = instruction-kind entry unlinked stays in
      let n = entry.number in
      let i = apart.instruction in
      let own : i.number ≡ n = instruction-number (links_of list) entry i apart.instruction_is in
      let fall : numbers_fall instruction_of_number (apart.later ++ i ∷ apart.earlier) ≡ true =
      ap (numbers_fall instruction_of_number) (sym apart.instructions_are) ∙ falls-instructions (reverse list) (book_parts list book).0 in
      let at : instruction_at n (instructions_of list) ≡ Some i =
      ap (instruction_at n) apart.instructions_are ∙ ap (λ k. instruction_at k (apart.later ++ i ∷ apart.earlier)) (sym own) ∙ at-middle-own instruction_of_number apart.earlier i apart.later fall in
      let out : instructions_of rest ≡ without_item instruction_of_number n (instructions_of list) =
      apart.rest_instructions_are ∙ sym (without-middle instruction_of_number apart.earlier i apart.later fall)
      ∙ (λ j. without_item instruction_of_number (own j) (sym apart.instructions_are j)) in
      let same : chains_of (marked entry_number n false slots) ≡ chains_of slots =
      (λ j. record {
        list = (ap links_of (list-taken slots n) ∙ sym apart.links) j;
        kept = (kept-rest ∙ ap (λ f. with_some link_number f (links_in (left_in slots))) unlinked) j;
      }) in
      let lifted : allocs_of (marked entry_number n false slots) ≡ lifted_instruction n (allocs_of slots) =
      (λ j. record { list = (ap instructions_of (list-taken slots n) ∙ out) j; kept = kept-instructions j }) in
      record {
        chains = same ∙ ap (λ b. if b then lifted_link n (chains_of slots) else chains_of slots) (sym kind.0);
        allocs = lifted ∙ ap (λ b. if b then lifted_instruction n (allocs_of slots) else allocs_of slots) (sym kind.1);
        can = record {
          link = λ is. absurd (differing is kind.0);
          instruction = λ is. (ap is_some at, ap is_instructed (sym out) ∙ instructed (reverse rest) (book_parts rest rest_book).1);
        };
        link = λ is. absurd (differing is kind.0);
        instruction = λ is. (i, at, kept-apart);
      }

  -- which of the two it is, its entry tells
  pub taken : IsTaken slots entry
  taken =
      let has = has_entry list entry.number entry found in
      let out : rest ≡ has.front ++ has.back = without-split list has.front has.back entry has.is (book_parts list book).0 in
      by (link_of entry) refl (withdrawn-none list entry found book) has.front has.back has.is out
    where
      by : (link : Option Link) → link_of entry ≡ link → withdrawn_by entry.command ≡ None → (front back : List Entry) → list ≡ front ++ entry ∷ back → rest ≡ front ++ back → IsTaken slots entry
      by None unlinked stays front back is out =
          taken-instruction unlinked stays
          (subst (λ l. InstructionApart l rest entry) (sym is)
          (subst (λ l. InstructionApart (front ++ entry ∷ back) l entry) (sym out)
          (instruction-apart front back entry unlinked stays (ap is_book (sym is) ∙ book) (ap is_book (sym out) ∙ rest_book))))
      by (Some link) linked stays front back is out =
          taken-link link linked
          (subst (λ l. LinkApart l rest entry) (sym is)
          (subst (λ l. LinkApart (front ++ entry ∷ back) l entry) (sym out)
          (link-apart front back entry link linked (ap is_book (sym is) ∙ book) (ap is_book (sym out) ∙ rest_book))))
