-- What the live list keeps, with one slot more at its end, and with one less.
use Rattle.std.proofs.Common.{◌≡◌, ℕ, ◌+◌, ◌-◌, ◌<◌, true, false, List, [], ◌∷◌, ◌++◌, get_or, length, reverse, Option, Some, None, refl, sym, ap, subst, ◌∙◌, arith, inl, inr, not, IfSome, option_and_then, ltb-true}
use Rattle.std.proofs.lemmas.Bool.{cases_Bool, and_parts, and_from}
use Rattle.std.proofs.lemmas.List.{reverse-append}
use Rattle.blot_types.specs.declared.{allocation.Instruction.Instruction, command.Entry.Entry, keys.ExecKey.ExecKey, link.Link.Link, refused.Refused.TheVariants.DuplicateExec}
use Rattle.blot_types.specs.Allocations.{instructions_of}
use Rattle.blot_types.specs.Chains.{is_above_links, taker_in}
use Rattle.blot_types.specs.Instructions.{is_above_instructions}
use Rattle.blot_types.specs.Legal.{is_above_entries, is_book}
use Rattle.blot_types.specs.Refusals.{exec_key}
use Rattle.blot_types.specs.Survivors.{links_in, links_of}
use Rattle.blot_types.proofs.AcceptLemmas.{instructions_of-push, unmapped}
use Rattle.blot_types.proofs.AcceptOutLemmas.{accepts}
use Rattle.blot_types.proofs.EntryLemmas.{links_of-push, is_above_links-links}
use Rattle.blot_places.specs.declared.slots.Slot.{Slot}
use Rattle.blot_places.specs.Shown.{Shown}
use Rattle.blot_places.specs.Slots.{items, is_above, lifted, live, numbers_fall}
use Rattle.blot_places.proofs.MarkLemmas.{above-both, above-side, side_here, side_on}
use Rattle.blot_places.proofs.ShownLemmas.{falling-parts}
use Rattle.blot_command.specs.Book.{entry_number}
use Rattle.blot_command.specs.Linking.{CanLink, HoldsLive, with_instruction, with_link, without_instruction, without_link}
use Rattle.blot_command.specs.Slots.{AreNumbered, NewestThere, entries_in, left_in, left_instructions}
use Rattle.blot_command.proofs.LeftLemmas.{above-left}
use Rattle.blot_command.proofs.LiveLemmas.{can-link, holds-less, next-entry}
use Rattle.blot_command.proofs.TurnLemmas.{kept-push, list-push, live-turned, turned-push}

-- ---- one slot more at the end

pub holds-pushed :
    (slots : List (Slot Entry)) (entry : Entry) (chains chains' : Shown Link) (allocs allocs' : Shown Instruction) → HoldsLive slots chains allocs → is_book (entries_in slots ++ entry ∷ []) ≡ true
    → is_above_entries entry.number (left_in slots) ≡ true → chains'.list ≡ with_link entry chains.list → chains'.kept ≡ chains.kept
    → allocs'.list ≡ with_instruction entry chains.list allocs.list → allocs'.kept ≡ allocs.kept
    → HoldsLive (slots ++ record { item = entry; is_live = true } ∷ []) chains' allocs'
holds-pushed slots entry chains chains' allocs allocs' holds book above links links_kept instructions instructions_kept =
    let list = entries_in slots in
    let next = next-entry list entry book in
    let last : Slot Entry = record { item = entry; is_live = true } in
    let below : is_above entry_number entry.number (items (reverse slots)) ≡ true = above-both entry_number entry.number (reverse slots) (ap (is_above_entries entry.number) (live-turned slots) ∙ next.above) above in
    record {
      numbered = ap (λ s. numbers_fall entry_number (items s)) (turned-push slots last) ∙ and_from _ _ below holds.numbered;
      holds = record {
        book = ap is_book (list-push slots entry) ∙ book;
        links_are = links ∙ ap (with_link entry) holds.holds.links_are ∙ sym (links_of-push list entry) ∙ ap links_of (sym (list-push slots entry));
        instructions_are = instructions ∙ (λ i. with_instruction entry (holds.holds.links_are i) (holds.holds.instructions_are i)) ∙ sym (instructions_of-push list entry)
            ∙ ap instructions_of (sym (list-push slots entry));
      };
      kept_links = links_kept ∙ holds.kept_links ∙ ap links_in (sym (kept-push slots entry));
      kept_instructions = instructions_kept ∙ holds.kept_instructions ∙ ap left_instructions (sym (turned-push slots last));
      newest = subst NewestThere (sym (turned-push slots last)) (
        first (exec_key entry.command) refl (unmapped DuplicateExec _ (accepts (reverse list) entry.command next.accepted).new_exec),
        holds.newest,
      );
    }
  where
    first : (key : Option ExecKey) → exec_key entry.command ≡ key → option_and_then (taker_in (links_in (reverse (entries_in slots)))) (exec_key entry.command) ≡ None
        → IfSome key (λ k. taker_in (links_in (live (reverse slots))) k ≡ None)
    first None own none = tt
    first (Some key) own none = ap (λ entries. taker_in (links_in entries) key) (live-turned slots) ∙ ap (option_and_then (taker_in (links_in (reverse (entries_in slots))))) (sym own) ∙ none

-- the chains and the allocations accept it
pub can-push :
    (slots : List (Slot Entry)) (entry : Entry) (chains : Shown Link) (allocs : Shown Instruction) → HoldsLive slots chains allocs → is_book (entries_in slots ++ entry ∷ []) ≡ true
    → CanLink entry chains.list allocs.list
can-push slots entry chains allocs holds book = can-link (entries_in slots) entry chains.list allocs.list holds.holds book

-- its number is above those that they keep
pub above-kept-links : (slots : List (Slot Entry)) (n : ℕ) (chains : Shown Link) (allocs : Shown Instruction) → HoldsLive slots chains allocs → is_above_entries n (left_in slots) ≡ true → is_above_links n chains.kept ≡ true
above-kept-links slots n chains allocs holds above = ap (is_above_links n) holds.kept_links ∙ is_above_links-links n (left_in slots) above

pub above-kept-instructions :
    (slots : List (Slot Entry)) (n : ℕ) (chains : Shown Link) (allocs : Shown Instruction) → HoldsLive slots chains allocs → is_above_entries n (left_in slots) ≡ true → is_above_instructions n allocs.kept ≡ true
above-kept-instructions slots n chains allocs holds above = ap (is_above_instructions n) holds.kept_instructions ∙ above-left n (reverse slots) above

-- ---- one slot less

pub holds-popped :
    (slots front : List (Slot Entry)) (entry : Entry) (chains chains' : Shown Link) (allocs allocs' : Shown Instruction) → HoldsLive slots chains allocs → slots ≡ front ++ record { item = entry; is_live = true } ∷ []
    → chains'.list ≡ without_link entry.command chains.list → chains'.kept ≡ chains.kept → allocs'.list ≡ without_instruction entry.command allocs.list → allocs'.kept ≡ allocs.kept
    → HoldsLive front chains' allocs'
holds-popped slots front entry chains chains' allocs allocs' holds is links links_kept instructions instructions_kept =
    let last : Slot Entry = record { item = entry; is_live = true } in
    let turned : reverse slots ≡ last ∷ reverse front = ap reverse is ∙ turned-push front last in
    record {
      numbered = (falling-parts entry_number entry (items (reverse front)) (ap (λ s. numbers_fall entry_number (items s)) (sym turned) ∙ holds.numbered)).1;
      holds = holds-less (entries_in slots) (entries_in front) entry chains.list chains'.list allocs.list allocs'.list holds.holds (ap entries_in is ∙ list-push front entry) links instructions;
      kept_links = links_kept ∙ holds.kept_links ∙ ap (λ s. links_in (left_in s)) is ∙ ap links_in (kept-push front entry);
      kept_instructions = instructions_kept ∙ holds.kept_instructions ∙ ap left_instructions turned;
      newest = (subst NewestThere turned holds.newest).1;
    }

-- the last slot's entry is there, where the last entry came after each one that is kept, and it is the last one
pub record IsLast (front : List (Slot Entry)) (slot : Slot Entry) (entry : Entry) : Type 0 where
  pub there : slot.is_live ≡ true
  pub own : slot.item ≡ entry
  pub above : is_above_entries entry.number (left_in front) ≡ true

pub last-slot :
    (slots front : List (Slot Entry)) (slot : Slot Entry) (rest : List Entry) (entry : Entry) → AreNumbered slots → slots ≡ front ++ slot ∷ [] → entries_in slots ≡ rest ++ entry ∷ []
    → is_above_entries (entry.number + 1) (left_in slots) ≡ true → IsLast front slot entry
last-slot slots front slot rest entry numbered is last above =
    let turned : reverse slots ≡ slot ∷ reverse front = ap reverse is ∙ turned-push front slot in
    let falling = falling-parts entry_number slot.item (items (reverse front)) (ap (λ s. numbers_fall entry_number (items s)) (sym turned) ∙ numbered) in
    let lives : live (reverse slots) ≡ entry ∷ reverse rest = live-turned slots ∙ ap reverse last ∙ reverse-append rest (entry ∷ []) in
    elim (cases_Bool slot.is_live) [
      | inl there ↦
          let both : slot.item ∷ live (reverse front) ≡ entry ∷ reverse rest = sym (side_here true slot (reverse front) there) ∙ ap live (sym turned) ∙ lives in
          let own : slot.item ≡ entry = cc in
          record {
            there = there;
            own = own;
            above = ap (λ (e : Entry). is_above_entries e.number (left_in front)) (sym own) ∙ above-side entry_number slot.item.number false (reverse front) falling.0;
          }
      | inr taken ↦
          let within : live (reverse front) ≡ entry ∷ reverse rest = sym (side_on true slot (reverse front) taken) ∙ ap live (sym turned) ∙ lives in
          let less : entry.number < slot.item.number =
          ltb-true _ _ (and_parts _ _ (ap (is_above_entries slot.item.number) (sym within) ∙ above-side entry_number slot.item.number true (reverse front) falling.0)).0 in
          let kept : left_in slots ≡ slot.item ∷ lifted (reverse front) = ap lifted turned ∙ side_here false slot (reverse front) (ap not taken) in
          let most : slot.item.number < entry.number + 1 = ltb-true _ _ (and_parts _ _ (ap (is_above_entries (entry.number + 1)) (sym kept) ∙ above)).0 in
          absurd (omega (arith, less, most))
    ]

-- slots that end in one
pub record EndsIn (slots : List (Slot Entry)) (slot : Slot Entry) : Type 0 where
  pub front : List (Slot Entry)
  pub is : slots ≡ front ++ slot ∷ []

ends_by : (first : Slot Entry) (later : List (Slot Entry)) (slot : Slot Entry) → slot ≡ get_or (first ∷ later) (length later) slot → EndsIn (first ∷ later) slot
ends_by first [] slot is = record { front = []; is = ap (λ s. s ∷ []) (sym is) }
ends_by first (next ∷ later) slot is =
    let rest = ends_by next later slot is in
    record { front = first ∷ rest.front; is = ap (λ l. first ∷ l) rest.is }

pub ends_in : (slots : List (Slot Entry)) (slot : Slot Entry) → 0 < length slots → slot ≡ get_or slots (length slots - 1) slot → EndsIn slots slot
ends_in [] slot some is = absurd (omega (arith, some))
ends_in (first ∷ later) slot some is =
    let index : length (first ∷ later) - 1 ≡ length later = omega arith in
    ends_by first later slot (is ∙ ap (λ i. get_or (first ∷ later) i slot) index)
