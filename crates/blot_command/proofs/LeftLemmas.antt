-- The slots newest first: what the earlier ones tell of roots, whether their entries are there or not, and the instructions of the
-- entries that were taken out.
use Rattle.std.proofs.Common.{◌≡◌, ℕ, ◌<◌, true, false, cond, List, [], ◌∷◌, Option, Some, None, refl, sym, ap, subst, ◌∙◌, arith, inl, inr, All, is_none, nat_eq, nat_lt, not, IfSome, filter_map, option_map, eqb-true, eq-eqb, lt-ltb, ltb-true}
use Rattle.std.specs.List.{cons_option}
use Rattle.std.proofs.lemmas.Bool.{cases_Bool, and_parts, and_from}
use Rattle.std.proofs.lemmas.List.Elements.{All-head, All-tail}
use Rattle.blot_types.specs.declared.allocation.AllocRole.TheVariants.{Allocates, Replaces}
use Rattle.blot_types.specs.declared.{allocation.Instruction.Instruction, allocation.Terms.Terms, command.Command.Command, command.Entry.Entry, keys.ExecKey.ExecKey, link.Link.Link, link.Role.Role, refused.Refused.TheVariants.UnknownExec}
use Rattle.blot_types.specs.declared.command.Command.TheVariants.{Trade, Correct, Bust, AllocNew, AllocReplace, AllocCancel, Withdraw}
use Rattle.blot_types.specs.declared.link.Role.TheVariants.{Begins, Corrects, Busts}
use Rattle.blot_types.specs.Allocations.{instruction_by, instructions_in, roots_of_terms}
use Rattle.blot_types.specs.Chains.{own_root, root_in, taker_in, takes_up}
use Rattle.blot_types.specs.Instructions.{is_above_instructions}
use Rattle.blot_types.specs.Legal.{legal_in, refusal_in}
use Rattle.blot_types.specs.Refusals.{exec_key, exec_references, listed_by}
use Rattle.blot_types.specs.Survivors.{link_of, links_in}
use Rattle.blot_types.proofs.AcceptLemmas.{unmapped}
use Rattle.blot_types.proofs.AcceptOutLemmas.{accepts, listed, unfound}
use Rattle.blot_types.proofs.ChainLemmas.{none_is, rootless}
use Rattle.blot_types.proofs.KeyLemmas.{same_exec-true}
use Rattle.blot_places.specs.declared.slots.Slot.{Slot}
use Rattle.blot_places.specs.Shown.{item_at, with_item, with_some}
use Rattle.blot_places.specs.Slots.{items, is_above, lifted, live, mark, marked, numbers_fall}
use Rattle.blot_places.proofs.MarkLemmas.{above-side, items-marked, mark-same, marked-below, side_here, side_on}
use Rattle.blot_places.proofs.ShownLemmas.{at-below, at-here, at-none, at-number, at-on, falling-parts, with_item-front}
use Rattle.blot_alloc.specs.Allocs.{instruction_at, number_of}
use Rattle.blot_command.specs.Book.{entry_number}
use Rattle.blot_command.specs.Slots.{NewestThere, left_instructions}
use Rattle.blot_command.proofs.LiveLemmas.{above-instructions, instruction-number}

-- ---- roots

-- the key of an entry that is a link
pub exec-key : (entry : Entry) (link : Link) → link_of entry ≡ Some link → exec_key entry.command ≡ Some link.key
exec-key entry link is = by entry.number entry.command is
  where
    by : (number : ℕ) (command : Command) → link_of (record { number = number; command = command }) ≡ Some link → exec_key command ≡ Some link.key
    by number (Trade trade) is = ap (option_map (λ (l : Link). l.key)) is
    by number (Correct correct) is = ap (option_map (λ (l : Link). l.key)) is
    by number (Bust bust) is = ap (option_map (λ (l : Link). l.key)) is
    by number (AllocNew new) is = cc
    by number (AllocReplace replace) is = cc
    by number (AllocCancel cancel) is = cc
    by number (Withdraw withdrawn) is = cc

-- what the entries that are there tell of roots, all slots tell
abbrev TellsLeft : List (Slot Entry) → Type 0
TellsLeft slots = (key root : ExecKey) → root_in (links_in (live slots)) key ≡ Some root → root_in (links_in (items slots)) key ≡ Some root

pub root-told : (slots : List (Slot Entry)) (key root : ExecKey) → NewestThere slots → root_in (links_in (live slots)) key ≡ Some root → root_in (links_in (items slots)) key ≡ Some root
root-told [] key root newest is = is
root-told (slot ∷ earlier) key root newest is = by (λ k r found. root-told earlier k r newest.1 found) (link_of slot.item) refl
  where
    own : TellsLeft earlier → (link : Link) (role : Role) → own_root (root_in (links_in (live earlier))) link.key role ≡ Some root → own_root (root_in (links_in (items earlier))) link.key role ≡ Some root
    own rest link Begins found = found
    own rest link (Corrects reference) found = rest reference root found
    own rest link (Busts reference) found = cc

    told : TellsLeft earlier → (link : Link) → cond (takes_up key link) (own_root (root_in (links_in (live earlier))) link.key link.role) (root_in (links_in (live earlier)) key) ≡ Some root
        → cond (takes_up key link) (own_root (root_in (links_in (items earlier))) link.key link.role) (root_in (links_in (items earlier)) key) ≡ Some root
    told rest link found =
        elim (cases_Bool (takes_up key link)) [
          | inl here ↦ rw here (own rest link link.role (rw here at found))
          | inr other ↦ rw other (rest key root (rw other at found))
        ]

    gone : TellsLeft earlier → (link : Link) → link_of slot.item ≡ Some link → root_in (links_in (live earlier)) key ≡ Some root
        → cond (takes_up key link) (own_root (root_in (links_in (items earlier))) link.key link.role) (root_in (links_in (items earlier)) key) ≡ Some root
    gone rest link linked found =
        elim (cases_Bool (takes_up key link)) [
          | inl here ↦
              let untaken : taker_in (links_in (live earlier)) link.key ≡ None = subst (λ own. IfSome own (λ k. taker_in (links_in (live earlier)) k ≡ None)) (exec-key slot.item link linked) newest.0 in
              let clash : None ≡ Some root = sym (rootless (links_in (live earlier)) key (ap (taker_in (links_in (live earlier))) (sym (same_exec-true link.key key here)) ∙ untaken)) ∙ found in
              cc
          | inr other ↦ rw other (rest key root found)
        ]

    by : TellsLeft earlier → (found : Option Link) → link_of slot.item ≡ found → root_in (links_in (items (slot ∷ earlier))) key ≡ Some root
    by rest None linked =
        ap (λ l. root_in (cons_option l (links_in (items earlier))) key) linked
        ∙ elim (cases_Bool slot.is_live) [
          | inl there ↦
              rest key root (ap (λ l. root_in (cons_option l (links_in (live earlier))) key) (sym linked) ∙ ap (λ entries. root_in (links_in entries) key) (sym (side_here true slot earlier there)) ∙ is)
          | inr taken ↦ rest key root (ap (λ entries. root_in (links_in entries) key) (sym (side_on true slot earlier taken)) ∙ is)
        ]
    by rest (Some link) linked =
        ap (λ l. root_in (cons_option l (links_in (items earlier))) key) linked
        ∙ elim (cases_Bool slot.is_live) [
          | inl there ↦
              told rest link (ap (λ l. root_in (cons_option l (links_in (live earlier))) key) (sym linked) ∙ ap (λ entries. root_in (links_in entries) key) (sym (side_here true slot earlier there)) ∙ is)
          | inr taken ↦ gone rest link linked (ap (λ entries. root_in (links_in entries) key) (sym (side_on true slot earlier taken)) ∙ is)
        ]

-- ---- instructions

roots-told : (slots : List (Slot Entry)) (keys : List ExecKey) → NewestThere slots → All (λ key. is_none (root_in (links_in (live slots)) key) ≡ false) keys
    → filter_map (root_in (links_in (live slots))) keys ≡ filter_map (root_in (links_in (items slots))) keys
roots-told slots [] newest rooted = refl
roots-told slots (key ∷ keys) newest rooted =
    let rest = roots-told slots keys newest (All-tail (λ k. is_none (root_in (links_in (live slots)) k) ≡ false) key keys rooted) in
    let first : root_in (links_in (live slots)) key ≡ root_in (links_in (items slots)) key =
    by (root_in (links_in (live slots)) key) refl (All-head (λ k. is_none (root_in (links_in (live slots)) k) ≡ false) key keys rooted) in
    (λ i. cons_option (first i) (rest i))
  where
    by : (found : Option ExecKey) → root_in (links_in (live slots)) key ≡ found → is_none found ≡ false → found ≡ root_in (links_in (items slots)) key
    by None is some = cc
    by (Some root) is some = sym (root-told slots key root newest is)

-- so an entry that the entries before it accept is the same instruction by all slots before it
pub instruction-told :
    (slots : List (Slot Entry)) (number : ℕ) (command : Command) → NewestThere slots → refusal_in (live slots) command ≡ None
    → instruction_by (links_in (live slots)) number command ≡ instruction_by (links_in (items slots)) number command
instruction-told slots number command newest accepted =
    by command
    (listed (λ key. is_none (root_in (links_in (live slots)) key) ≡ false) command
    (unfound (λ key. is_none (root_in (links_in (live slots)) key)) (exec_references command) (unmapped UnknownExec _ (accepts (live slots) command accepted).rooted)))
  where
    same : (terms : Terms) → All (λ key. is_none (root_in (links_in (live slots)) key) ≡ false) terms.execs → roots_of_terms (links_in (live slots)) terms ≡ roots_of_terms (links_in (items slots)) terms
    same terms rooted = roots-told slots terms.execs newest rooted

    by : (command : Command) → All (λ key. is_none (root_in (links_in (live slots)) key) ≡ false) (listed_by command)
        → instruction_by (links_in (live slots)) number command ≡ instruction_by (links_in (items slots)) number command
    by (Trade trade) rooted = refl
    by (Correct correct) rooted = refl
    by (Bust bust) rooted = refl
    by (AllocNew new) rooted = (λ i. Some (record { number = number; key = new.key; role = Allocates; roots = same new.terms rooted i }))
    by (AllocReplace replace) rooted = (λ i. Some (record { number = number; key = replace.key; role = Replaces replace.reference; roots = same replace.terms rooted i }))
    by (AllocCancel cancel) rooted = refl
    by (Withdraw withdrawn) rooted = refl

-- ---- an entry is taken out

-- of entries below a number none is found
instruction-below : (n : ℕ) (entries : List Entry) → is_above entry_number n entries ≡ true → instruction_at n (instructions_in entries) ≡ None
instruction-below n entries below = at-below number_of n (instructions_in entries) (above-instructions n entries below)

-- an instruction more is another, where its entry is another
instruction-on :
    (n : ℕ) (entry : Entry) (links : List Link) (all : List Instruction) → nat_eq entry.number n ≡ false
    → instruction_at n (cons_option (instruction_by links entry.number entry.command) all) ≡ instruction_at n all
instruction-on n entry links all other = by (instruction_by links entry.number entry.command) refl
  where
    by : (found : Option Instruction) → instruction_by links entry.number entry.command ≡ found → instruction_at n (cons_option found all) ≡ instruction_at n all
    by None is = refl
    by (Some i) is = at-on number_of n i all (ap (λ k. nat_eq k n) (instruction-number links entry i is) ∙ other)

-- it is the first, where its entry is the one
instruction-here :
    (entry : Entry) (links : List Link) (all : List Instruction) → instruction_at entry.number all ≡ None
    → instruction_at entry.number (cons_option (instruction_by links entry.number entry.command) all) ≡ instruction_by links entry.number entry.command
instruction-here entry links all none = by (instruction_by links entry.number entry.command) refl
  where
    by : (found : Option Instruction) → instruction_by links entry.number entry.command ≡ found → instruction_at entry.number (cons_option found all) ≡ found
    by None is = none
    by (Some i) is = at-here number_of entry.number i all (eq-eqb i.number entry.number (instruction-number links entry i is))

-- what is put in below the first stands after it
with_some-after :
    (found first : Option Instruction) (all : List Instruction) → ((i j : Instruction) → found ≡ Some i → first ≡ Some j → i.number < j.number)
    → with_some number_of found (cons_option first all) ≡ cons_option first (with_some number_of found all)
with_some-after None first all less = refl
with_some-after (Some i) None all less = refl
with_some-after (Some i) (Some first) all less =
    ap (λ t. cond t (first ∷ with_item number_of i all) (i ∷ first ∷ all)) (lt-ltb i.number first.number (less i first refl refl))

-- what is put in above all is the first
with_some-first : (n : ℕ) (found : Option Instruction) (all : List Instruction) → ((i : Instruction) → found ≡ Some i → i.number ≡ n) → is_above_instructions n all ≡ true
    → with_some number_of found all ≡ cons_option found all
with_some-first n None all own above = refl
with_some-first n (Some i) all own above = with_item-front number_of i all (ap (λ k. is_above_instructions k all) (own i refl) ∙ above)

-- the instructions of entries that were taken out are below what their slots are below
left-below : (n : ℕ) (slots : List (Slot Entry)) → is_above entry_number n (items slots) ≡ true → is_above_instructions n (left_instructions slots) ≡ true
left-below n [] below = refl
left-below n (slot ∷ earlier) below =
    let parts : (nat_lt slot.item.number n ≡ true) × (is_above entry_number n (items earlier) ≡ true) = and_parts _ _ below in
    let rest = left-below n earlier parts.1 in
    elim (cases_Bool slot.is_live) [
      | inl there ↦ rw there rest
      | inr taken ↦ rw taken (more (instruction_by (links_in (items earlier)) slot.item.number slot.item.command) refl parts.0 rest)
    ]
  where
    more : (found : Option Instruction) → instruction_by (links_in (items earlier)) slot.item.number slot.item.command ≡ found → nat_lt slot.item.number n ≡ true
        → is_above_instructions n (left_instructions earlier) ≡ true → is_above_instructions n (cons_option found (left_instructions earlier)) ≡ true
    more None is less rest = rest
    more (Some i) is less rest = and_from _ _ (ap (λ k. nat_lt k n) (instruction-number (links_in (items earlier)) slot.item i is) ∙ less) rest

-- a slot before which the numbers fall; the instruction of its entry, as all slots before it tell
abbrev Falling : Slot Entry → List (Slot Entry) → Type 0
Falling slot earlier = (is_above entry_number slot.item.number (items earlier) ≡ true) × (numbers_fall entry_number (items earlier) ≡ true)

abbrev told_of : Slot Entry → List (Slot Entry) → Option Instruction
told_of slot earlier = instruction_by (links_in (items earlier)) slot.item.number slot.item.command

-- the instruction of the entry that is taken out is kept, and no other
pub left-taken :
    (slots : List (Slot Entry)) (n : ℕ) → numbers_fall entry_number (items slots) ≡ true → NewestThere slots → legal_in (live slots) ≡ true
    → left_instructions (marked entry_number n false slots) ≡ with_some number_of (instruction_at n (instructions_in (live slots))) (left_instructions slots)
left-taken [] n fall newest legal = refl
left-taken (slot ∷ earlier) n fall newest legal =
    let falling = falling-parts entry_number slot.item (items earlier) fall in
    elim (cases_Bool slot.is_live) [
      | inl there ↦
          let lives : live (slot ∷ earlier) ≡ slot.item ∷ live earlier = side_here true slot earlier there in
          let legals : (is_none (refusal_in (live earlier) slot.item.command) ≡ true) × (legal_in (live earlier) ≡ true) = and_parts _ _ (ap legal_in (sym lives) ∙ legal) in
          let told = instruction-told earlier slot.item.number slot.item.command newest.1 (none_is _ legals.0) in
          let stays : left_instructions (slot ∷ earlier) ≡ left_instructions earlier = ap (λ t. cond t (left_instructions earlier) (cons_option (instruction_by (links_in (items earlier)) slot.item.number slot.item.command) (left_instructions earlier))) there in
          elim (cases_Bool (nat_eq slot.item.number n)) [
            | inl here ↦ here-live falling there told lives stays here
            | inr other ↦ other-live (left-taken earlier n falling.1 newest.1 legals.1) there lives stays other
          ]
      | inr taken ↦
          let lives : live (slot ∷ earlier) ≡ live earlier = side_on true slot earlier taken in
          let legals : legal_in (live earlier) ≡ true = ap legal_in (sym lives) ∙ legal in
          elim (cases_Bool (nat_eq slot.item.number n)) [
            | inl here ↦ here-taken falling taken lives here
            | inr other ↦ other-taken (left-taken earlier n falling.1 newest.1 legals) falling taken lives other
          ]
    ]
  where
    under : Falling slot earlier → nat_eq slot.item.number n ≡ true → is_above entry_number n (items earlier) ≡ true
    under falling here = ap (λ k. is_above entry_number k (items earlier)) (sym (eqb-true slot.item.number n here)) ∙ falling.0

    here-live : Falling slot earlier → slot.is_live ≡ true → instruction_by (links_in (live earlier)) slot.item.number slot.item.command ≡ (told_of slot earlier) → live (slot ∷ earlier) ≡ slot.item ∷ live earlier
        → left_instructions (slot ∷ earlier) ≡ left_instructions earlier → nat_eq slot.item.number n ≡ true
        → left_instructions (marked entry_number n false (slot ∷ earlier)) ≡ with_some number_of (instruction_at n (instructions_in (live (slot ∷ earlier)))) (left_instructions (slot ∷ earlier))
    here-live falling there told lives stays here =
        let same = eqb-true slot.item.number n here in
        let below = under falling here in
        let gone : mark entry_number n false slot ≡ record slot { is_live = false } = ap (λ t. cond t (record slot { is_live = false }) slot) here in
        let found : instruction_at n (instructions_in (live (slot ∷ earlier))) ≡ (told_of slot earlier) =
        ap (λ entries. instruction_at n (instructions_in entries)) lives
        ∙ ap (λ k. instruction_at k (cons_option (instruction_by (links_in (live earlier)) slot.item.number slot.item.command) (instructions_in (live earlier)))) (sym same)
        ∙ instruction-here slot.item (links_in (live earlier)) (instructions_in (live earlier))
        (ap (λ k. instruction_at k (instructions_in (live earlier))) same ∙ instruction-below n (live earlier) (above-side entry_number n true earlier below)) ∙ told in
        (λ i. left_instructions (gone i ∷ marked-below entry_number n false earlier below i))
        ∙ sym (ap (λ all. with_some number_of (instruction_at n (instructions_in (live (slot ∷ earlier)))) all) stays
        ∙ ap (λ f. with_some number_of f (left_instructions earlier)) found
        ∙ with_some-first n (told_of slot earlier) (left_instructions earlier) (λ i is. instruction-number (links_in (items earlier)) slot.item i is ∙ same) (left-below n earlier below))

    other-live : left_instructions (marked entry_number n false earlier) ≡ with_some number_of (instruction_at n (instructions_in (live earlier))) (left_instructions earlier) → slot.is_live ≡ true
        → live (slot ∷ earlier) ≡ slot.item ∷ live earlier → left_instructions (slot ∷ earlier) ≡ left_instructions earlier → nat_eq slot.item.number n ≡ false
        → left_instructions (marked entry_number n false (slot ∷ earlier)) ≡ with_some number_of (instruction_at n (instructions_in (live (slot ∷ earlier)))) (left_instructions (slot ∷ earlier))
    other-live rest there lives stays other =
        let same = mark-same entry_number n false slot other in
        ap (λ (s : Slot Entry). left_instructions (s ∷ marked entry_number n false earlier)) same
        ∙ ap (λ t. cond t (left_instructions (marked entry_number n false earlier)) (cons_option (instruction_by (links_in (items (marked entry_number n false earlier))) slot.item.number slot.item.command) (left_instructions (marked entry_number n false earlier)))) there
        ∙ rest
        ∙ sym (ap (λ all. with_some number_of (instruction_at n (instructions_in (live (slot ∷ earlier)))) all) stays
        ∙ ap (λ f. with_some number_of f (left_instructions earlier))
        (ap (λ entries. instruction_at n (instructions_in entries)) lives ∙ instruction-on n slot.item (links_in (live earlier)) (instructions_in (live earlier)) other))

    here-taken : Falling slot earlier → slot.is_live ≡ false → live (slot ∷ earlier) ≡ live earlier → nat_eq slot.item.number n ≡ true
        → left_instructions (marked entry_number n false (slot ∷ earlier)) ≡ with_some number_of (instruction_at n (instructions_in (live (slot ∷ earlier)))) (left_instructions (slot ∷ earlier))
    here-taken falling taken lives here =
        let below = under falling here in
        let gone : mark entry_number n false slot ≡ slot = ap (λ t. cond t (record slot { is_live = false }) slot) here ∙ (λ i. record slot { is_live = sym taken i }) in
        let none : instruction_at n (instructions_in (live (slot ∷ earlier))) ≡ None =
        ap (λ entries. instruction_at n (instructions_in entries)) lives ∙ instruction-below n (live earlier) (above-side entry_number n true earlier below) in
        (λ i. left_instructions (gone i ∷ marked-below entry_number n false earlier below i))
        ∙ sym (ap (λ f. with_some number_of f (left_instructions (slot ∷ earlier))) none)

    other-taken : left_instructions (marked entry_number n false earlier) ≡ with_some number_of (instruction_at n (instructions_in (live earlier))) (left_instructions earlier) → Falling slot earlier → slot.is_live ≡ false
        → live (slot ∷ earlier) ≡ live earlier → nat_eq slot.item.number n ≡ false
        → left_instructions (marked entry_number n false (slot ∷ earlier)) ≡ with_some number_of (instruction_at n (instructions_in (live (slot ∷ earlier)))) (left_instructions (slot ∷ earlier))
    other-taken rest falling taken lives other =
        let same = mark-same entry_number n false slot other in
        let found = instruction_at n (instructions_in (live earlier)) in
        let whole : left_instructions (slot ∷ earlier) ≡ cons_option (told_of slot earlier) (left_instructions earlier) = ap (λ t. cond t (left_instructions earlier) (cons_option (told_of slot earlier) (left_instructions earlier))) taken in
        ap (λ (s : Slot Entry). left_instructions (s ∷ marked entry_number n false earlier)) same
        ∙ ap (λ t. cond t (left_instructions (marked entry_number n false earlier)) (cons_option (instruction_by (links_in (items (marked entry_number n false earlier))) slot.item.number slot.item.command) (left_instructions (marked entry_number n false earlier)))) taken
        ∙ (λ i. cons_option (instruction_by (links_in (items-marked entry_number n false earlier i)) slot.item.number slot.item.command) (rest i))
        ∙ sym (with_some-after found (told_of slot earlier) (left_instructions earlier) (λ i j is own_is. before i j is own_is))
        ∙ sym ((λ i. with_some number_of (instruction_at n (instructions_in (lives i))) (left_instructions (slot ∷ earlier))) ∙ ap (with_some number_of found) whole)
      where
        before : (i j : Instruction) → instruction_at n (instructions_in (live earlier)) ≡ Some i → (told_of slot earlier) ≡ Some j → i.number < j.number
        before i j is own_is =
            let below = above-instructions slot.item.number (live earlier) (above-side entry_number slot.item.number true earlier falling.0) in
            let less = ltb-true i.number slot.item.number (at-number number_of n slot.item.number (instructions_in (live earlier)) i below is) in
            let same = instruction-number (links_in (items earlier)) slot.item j own_is in
            omega (arith, less, same)

-- where no entry that was taken out has a number, no instruction of theirs has it
pub left-apart : (slots : List (Slot Entry)) (n : ℕ) → numbers_fall entry_number (items slots) ≡ true → item_at entry_number n (lifted slots) ≡ None → instruction_at n (left_instructions slots) ≡ None
left-apart [] n fall none = refl
left-apart (slot ∷ earlier) n fall none =
    let falling = falling-parts entry_number slot.item (items earlier) fall in
    elim (cases_Bool slot.is_live) [
      | inl there ↦
          ap (λ t. instruction_at n (cond t (left_instructions earlier) (cons_option (told_of slot earlier) (left_instructions earlier)))) there
          ∙ left-apart earlier n falling.1 (ap (item_at entry_number n) (sym (side_on false slot earlier (ap not there))) ∙ none)
      | inr taken ↦
          let parts = at-none entry_number n slot.item (lifted earlier) (ap (item_at entry_number n) (sym (side_here false slot earlier (ap not taken))) ∙ none) in
          ap (λ t. instruction_at n (cond t (left_instructions earlier) (cons_option (told_of slot earlier) (left_instructions earlier)))) taken
          ∙ instruction-on n slot.item (links_in (items earlier)) (left_instructions earlier) parts.0 ∙ left-apart earlier n falling.1 parts.1
    ]

-- a number above those of the entries that were taken out is above their instructions
pub above-left : (n : ℕ) (slots : List (Slot Entry)) → is_above entry_number n (lifted slots) ≡ true → is_above_instructions n (left_instructions slots) ≡ true
above-left n [] above = refl
above-left n (slot ∷ earlier) above =
    elim (cases_Bool slot.is_live) [
      | inl there ↦ rw there (above-left n earlier (ap (is_above entry_number n) (sym (side_on false slot earlier (ap not there))) ∙ above))
      | inr taken ↦
          let parts : (nat_lt slot.item.number n ≡ true) × (is_above entry_number n (lifted earlier) ≡ true) = and_parts _ _ (ap (is_above entry_number n) (sym (side_here false slot earlier (ap not taken))) ∙ above) in
          rw taken (more (told_of slot earlier) refl parts.0 (above-left n earlier parts.1))
    ]
  where
    more : (found : Option Instruction) → told_of slot earlier ≡ found → nat_lt slot.item.number n ≡ true → is_above_instructions n (left_instructions earlier) ≡ true → is_above_instructions n (cons_option found (left_instructions earlier)) ≡ true
    more None is less rest = rest
    more (Some i) is less rest = and_from _ _ (ap (λ k. nat_lt k n) (instruction-number (links_in (items earlier)) slot.item i is) ∙ less) rest
