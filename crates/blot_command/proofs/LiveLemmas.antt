-- The live list: what names a chain, and the list with and without its last entry.
use Rattle.std.proofs.Common.{◌≡◌, ℕ, ◌≤◌, ◌+◌, true, ◌&&◌, List, [], ◌∷◌, ◌++◌, reverse, Option, Some, None, refl, sym, ap, subst, ◌∙◌, arith, inl, inr, Bool, false, find, is_none, is_some, nat_lt, IfSome, ltb-true}
use Rattle.std.specs.List.{cons_option, list_any}
use Rattle.std.specs.Option.{option_map_or}
use Rattle.std.proofs.lemmas.Bool.{cases_Bool, and_from, and_parts}
use Rattle.std.proofs.lemmas.List.{reverse-append}
use Rattle.blot_types.specs.declared.{allocation.Instruction.Instruction, command.Command.Command, command.Entry.Entry, keys.ExecKey.ExecKey, link.Link.Link, TheConstants.EVENTS_MAX}
use Rattle.blot_types.specs.declared.command.Command.TheVariants.{Trade, Correct, Bust, AllocNew, AllocReplace, AllocCancel, Withdraw}
use Rattle.blot_types.specs.Allocations.{instruction_by, instructions_in, instructions_of}
use Rattle.blot_types.specs.Chains.{root_in, is_above_links}
use Rattle.blot_types.specs.Instructions.{holds_in, holder_in, named_in, is_above_instructions}
use Rattle.blot_types.specs.Keys.{is_among}
use Rattle.blot_types.specs.Legal.{is_above_entries, numbers_rise, is_legal, is_book, entry_refusal, HoldsList}
use Rattle.blot_types.specs.Position.{is_named}
use Rattle.blot_types.specs.Survivors.{link_by, link_of, links_in, links_of}
use Rattle.blot_types.proofs.AcceptLemmas.{accepted-instruction, instructions_of-push}
use Rattle.blot_types.proofs.ChainLemmas.{none_is}
use Rattle.blot_types.proofs.ChangeLemmas.{named-held}
use Rattle.blot_types.proofs.LegalLemmas.{is_legal-push, numbers_rise-push, is_book-front}
use Rattle.blot_types.proofs.EntryLemmas.{link-number, refusal-link, links_of-push, is_above_links-links}
use Rattle.blot_types.proofs.GeneralLemmas.{some-mapped}
use Rattle.blot_command.specs.Linking.{CanLinkNext, CanInstructNext, CanLink, IsLinkedLast, with_instruction, with_link, without_link, without_instruction}
use Rattle.blot_command.proofs.FirstEntryLemmas.{instruction-number as numbered_instruction}

-- ---- one entry more, and one less

-- the numbers of a book rise
pub rise-of_book : (list : List Entry) → is_book list ≡ true → numbers_rise list ≡ true
rise-of_book list book = (and_parts _ _ (and_parts _ _ book).0).0

-- an entry may stand after a list in a book
pub record IsNextEntry (list : List Entry) (entry : Entry) : Type 0 where
  pub whole : is_book (list ++ entry ∷ []) ≡ true
  pub book : is_book list ≡ true
  pub rise : numbers_rise list ≡ true
  pub legal : is_legal list ≡ true
  pub above : is_above_entries entry.number (reverse list) ≡ true
  pub accepted : entry_refusal list entry.command ≡ None
  pub within : entry.number ≤ EVENTS_MAX

pub next-entry : (list : List Entry) (entry : Entry) → is_book (list ++ entry ∷ []) ≡ true → IsNextEntry list entry
next-entry list entry book =
    let whole = book in
    let parts : (numbers_rise (list ++ entry ∷ []) ≡ true) × (is_above_entries (EVENTS_MAX + 1) (reverse (list ++ entry ∷ [])) ≡ true) × (is_legal (list ++ entry ∷ []) ≡ true) = grind (arith, whole) in
    let rise : (is_above_entries entry.number (reverse list) && numbers_rise list) ≡ true = sym (numbers_rise-push list entry) ∙ parts.0 in
    let legal : (is_none (entry_refusal list entry.command) && is_legal list) ≡ true = sym (is_legal-push list entry) ∙ parts.2 in
    let limited : is_above_entries (EVENTS_MAX + 1) (entry ∷ reverse list) ≡ true = sym (ap (is_above_entries (EVENTS_MAX + 1)) (reverse-append list (entry ∷ []))) ∙ parts.1 in
    let rises : (is_above_entries entry.number (reverse list) ≡ true) × (numbers_rise list ≡ true) = and_parts _ _ rise in
    let legals : (is_none (entry_refusal list entry.command) ≡ true) × (is_legal list ≡ true) = and_parts _ _ legal in
    let limits : (nat_lt entry.number (EVENTS_MAX + 1) ≡ true) × (is_above_entries (EVENTS_MAX + 1) (reverse list) ≡ true) = and_parts _ _ limited in
    record {
      whole = book;
      book = is_book-front list entry book;
      rise = rises.1;
      legal = legals.1;
      above = rises.0;
      accepted = none_is (entry_refusal list entry.command) legals.0;
      within = omega (arith, ltb-true entry.number (EVENTS_MAX + 1) limits.0);
    }

-- ---- the next entry as the link or the instruction that it is

-- an instruction bears the number of its entry
pub instruction-number :
    (links : List Link) (entry : Entry) (i : Instruction) → instruction_by links entry.number entry.command ≡ Some i → i.number ≡ entry.number
instruction-number links entry i is = numbered_instruction links entry.number entry.command i is

above_instruction :
    (number : ℕ) (links : List Link) (entry : Entry) (found : Option Instruction) (instructions : List Instruction)
    → instruction_by links entry.number entry.command ≡ found → nat_lt entry.number number ≡ true → is_above_instructions number instructions ≡ true
    → is_above_instructions number (cons_option found instructions) ≡ true
above_instruction number links entry None instructions is less above = above
above_instruction number links entry (Some i) instructions is less above = and_from _ _ (ap (λ n. nat_lt n number) (instruction-number links entry i is) ∙ less) above

-- the numbers of entries, seen in their instructions
pub above-instructions : (number : ℕ) (entries : List Entry) → is_above_entries number entries ≡ true → is_above_instructions number (instructions_in entries) ≡ true
above-instructions number [] above = refl
above-instructions number (entry ∷ earlier) above =
    let parts : (nat_lt entry.number number ≡ true) × (is_above_entries number earlier ≡ true) = and_parts _ _ above in
    above_instruction number (links_in earlier) entry (instruction_by (links_in earlier) entry.number entry.command) (instructions_in earlier) refl parts.0
    (above-instructions number earlier parts.1)

next_link : (list : List Entry) (entry : Entry) (found : Option Link) → IsNextEntry list entry → link_of entry ≡ found → IfSome found (CanLinkNext (links_of list))
next_link list entry None next is = tt
next_link list entry (Some link) next is = record {
  accepted = sym (refusal-link (reverse list) entry link is) ∙ next.accepted;
  above = ap (λ n. is_above_links n (links_of list)) (link-number entry link is) ∙ is_above_links-links entry.number (reverse list) next.above;
}

next_instruction :
    (list : List Entry) (entry : Entry) (found : Option Instruction) → IsNextEntry list entry
    → instruction_by (links_of list) entry.number entry.command ≡ found → IfSome found (CanInstructNext (instructions_of list))
next_instruction list entry None next is = tt
next_instruction list entry (Some i) next is = record {
  accepted = accepted-instruction (reverse list) entry i next.accepted is;
  above = ap (λ n. is_above_instructions n (instructions_of list)) (instruction-number (links_of list) entry i is) ∙ above-instructions entry.number (reverse list) next.above;
}

-- the chains and the allocations accept the next entry of a book
pub can-link :
    (list : List Entry) (entry : Entry) (links : List Link) (instructions : List Instruction) → HoldsList list links instructions
    → is_book (list ++ entry ∷ []) ≡ true → CanLink entry links instructions
can-link list entry links instructions holds book =
    let next = next-entry list entry book in
    let here : CanLink entry (links_of list) (instructions_of list) = record {
      link = next_link list entry (link_of entry) next refl;
      instruction = next_instruction list entry (instruction_by (links_of list) entry.number entry.command) next refl;
    } in
    subst (λ l. CanLink entry l instructions) (sym holds.links_are) (subst (CanLink entry (links_of list)) (sym holds.instructions_are) here)

-- ---- an entry that is taken back

unlinked : (number : ℕ) (command : Command) (links : List Link) → without_link command (cons_option (link_by number command) links) ≡ links
unlinked number (Trade trade) links = refl
unlinked number (Correct correct) links = refl
unlinked number (Bust bust) links = refl
unlinked number (AllocNew new) links = refl
unlinked number (AllocReplace replace) links = refl
unlinked number (AllocCancel cancel) links = refl
unlinked number (Withdraw withdrawn) links = refl

uninstructed :
    (links : List Link) (number : ℕ) (command : Command) (instructions : List Instruction)
    → without_instruction command (cons_option (instruction_by links number command) instructions) ≡ instructions
uninstructed links number (Trade trade) instructions = refl
uninstructed links number (Correct correct) instructions = refl
uninstructed links number (Bust bust) instructions = refl
uninstructed links number (AllocNew new) instructions = refl
uninstructed links number (AllocReplace replace) instructions = refl
uninstructed links number (AllocCancel cancel) instructions = refl
uninstructed links number (Withdraw withdrawn) instructions = refl

-- what a list holds with an entry after it
pub record HoldsMore (list : List Entry) (entry : Entry) (links : List Link) (instructions : List Instruction) : Type 0 where
  pub links_are : links ≡ with_link entry (links_of list)
  pub instructions_are : instructions ≡ with_instruction entry (links_of list) (instructions_of list)

pub linked-last : (list : List Entry) (entry : Entry) (links : List Link) (instructions : List Instruction) → HoldsMore list entry links instructions
    → IsLinkedLast entry links instructions
linked-last list entry links instructions more = (links_of list, instructions_of list, more.links_are, more.instructions_are)

-- without that entry the list holds what it held before
pub holds-without :
    (list : List Entry) (entry : Entry) (command : Command) (links links' : List Link) (instructions instructions' : List Instruction) → is_book list ≡ true
    → HoldsMore list entry links instructions → command ≡ entry.command → links' ≡ without_link command links
    → instructions' ≡ without_instruction command instructions → HoldsList list links' instructions'
holds-without list entry command links links' instructions instructions' book more same one two = record {
  book = book;
  links_are = one ∙ (λ i. without_link (same i) (more.links_are i)) ∙ unlinked entry.number entry.command (links_of list);
  instructions_are = two ∙ (λ i. without_instruction (same i) (more.instructions_are i))
      ∙ uninstructed (links_of list) entry.number entry.command (instructions_of list);
}

pub holds-more :
    (list rest : List Entry) (entry : Entry) (links : List Link) (instructions : List Instruction) → HoldsList list links instructions
    → list ≡ rest ++ entry ∷ [] → HoldsMore rest entry links instructions
holds-more list rest entry links instructions holds is = record {
  links_are = holds.links_are ∙ ap links_of is ∙ links_of-push rest entry;
  instructions_are = holds.instructions_are ∙ ap instructions_of is ∙ instructions_of-push rest entry;
}

-- the list without its last entry
pub holds-less :
    (list rest : List Entry) (entry : Entry) (links links' : List Link) (instructions instructions' : List Instruction) → HoldsList list links instructions
    → list ≡ rest ++ entry ∷ [] → links' ≡ without_link entry.command links → instructions' ≡ without_instruction entry.command instructions
    → HoldsList rest links' instructions'
holds-less list rest entry links links' instructions instructions' holds is one two =
    holds-without rest entry entry.command links links' instructions instructions' (is_book-front rest entry (sym (ap is_book is) ∙ holds.book))
    (holds-more list rest entry links instructions holds is) refl one two

-- ---- what names a chain

any-found : {X : Type 0} (p : X → Bool) (xs : List X) → list_any p xs ≡ is_some (find p xs)
any-found p [] = refl
any-found p (x ∷ xs) =
    elim (cases_Bool (p x)) [
      | inl passes ↦ rw passes refl
      | inr fails ↦ rw fails (any-found p xs)
    ]

-- the chain of a root is named where a live allocation holds it
pub named-holder : (instructions : List Instruction) (root : ExecKey) → is_some (holder_in instructions root) ≡ is_among (named_in instructions) root
named-holder instructions root =
    some-mapped (λ (i : Instruction). i.number) (find (holds_in instructions root) instructions)
    ∙ sym (any-found (holds_in instructions root) instructions) ∙ sym (named-held instructions root)

pub named-root :
    (list : List Entry) (key root : ExecKey) (links : List Link) (instructions : List Instruction) → HoldsList list links instructions
    → root_in links key ≡ Some root → is_some (holder_in instructions root) ≡ is_named list key
named-root list key root links instructions holds rooted =
    let found : root_in (links_of list) key ≡ Some root = ap (λ l. root_in l key) (sym holds.links_are) ∙ rooted in
    ap (λ i. is_some (holder_in i root)) holds.instructions_are ∙ named-holder (instructions_of list) root
    ∙ sym (ap (λ f. option_map_or (is_among (named_in (instructions_of list))) f false) found)
