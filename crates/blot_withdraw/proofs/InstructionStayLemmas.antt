-- Where nobody needs what goes, the instructions of the entries that stay are those that stay of all instructions,
-- and what is asked of their allocations is answered as before.
use Rattle.std.proofs.Common.{◌≡◌, ℕ, Bool, true, false, ◌&&◌, List, [], ◌∷◌, Option, Some, None, refl, sym, ap, ◌∙◌, inl, inr, not, filter, is_none, All, option_map}
use Rattle.std.specs.List.{cons_option}
use Rattle.std.specs.Option.{option_map_or}
use Rattle.std.proofs.lemmas.Bool.{cases_Bool, and_parts, not-true}
use Rattle.std.proofs.lemmas.List.Elements.{All-nil, All-cons, All-head, All-tail, All-weaker}
use Rattle.blot_types.specs.declared.{allocation.Instruction.Instruction, command.Command.Command, command.Entry.Entry, keys.AllocKey.AllocKey, keys.ExecKey.ExecKey, link.Link.Link}
use Rattle.blot_types.specs.declared.command.Command.TheVariants.{Trade, Correct, Bust, AllocNew, AllocReplace, AllocCancel, Withdraw}
use Rattle.blot_types.specs.Allocations.{instruction_by, instructions_in}
use Rattle.blot_types.specs.Chains.{root_in}
use Rattle.blot_types.specs.Instructions.{is_keyed, alloc_taker_in, brings_allocation, is_allocation_of, is_allocation_in, ends, ended_in, names, is_reference, holds_beside, other_holder_in, reference_of}
use Rattle.blot_types.specs.Refusals.{alloc_key, alloc_reference, listed_by}
use Rattle.blot_types.specs.Survivors.{links_in}
use Rattle.blot_types.proofs.AcceptLemmas.{unmapped}
use Rattle.blot_types.proofs.KeyLemmas.{same_alloc-true}
use Rattle.blot_types.proofs.StayLemmas.{mapped-none, unfound-among, find-stays, any-stays}
use Rattle.blot_types.proofs.LinkOutLemmas.{same-instruction}
use Rattle.blot_types.proofs.AllocOutLemmas.{ends-refers}
use Rattle.blot_withdraw.proofs.SpareLemmas.{Spares, spares-newest, roots-spared}
use Rattle.blot_withdraw.proofs.Split.{Split, IsFree}

abbrev pub instruction_stays : Split → Instruction → Bool
instruction_stays split instruction = not (split.drops instruction.key)

-- ---- the instructions of the entries that stay

keyed : (links : List Link) (number : ℕ) (command : Command) (i : Instruction) → instruction_by links number command ≡ Some i → alloc_key command ≡ Some i.key
keyed links number (Trade trade) i is = cc
keyed links number (Correct correct) i is = cc
keyed links number (Bust bust) i is = cc
keyed links number (AllocNew new) i is = ap (option_map (λ j. j.key)) is
keyed links number (AllocReplace replace) i is = ap (option_map (λ j. j.key)) is
keyed links number (AllocCancel cancel) i is = ap (option_map (λ j. j.key)) is
keyed links number (Withdraw withdrawn) i is = ap (option_map (λ j. j.key)) is

referring : (links : List Link) (number : ℕ) (command : Command) (i : Instruction) → instruction_by links number command ≡ Some i → alloc_reference command ≡ reference_of i.role
referring links number (Trade trade) i is = cc
referring links number (Correct correct) i is = cc
referring links number (Bust bust) i is = cc
referring links number (AllocNew new) i is = ap (λ o. option_map_or (λ j. reference_of j.role) o None) is
referring links number (AllocReplace replace) i is = ap (λ o. option_map_or (λ j. reference_of j.role) o None) is
referring links number (AllocCancel cancel) i is = ap (λ o. option_map_or (λ j. reference_of j.role) o None) is
referring links number (Withdraw withdrawn) i is = ap (λ o. option_map_or (λ j. reference_of j.role) o None) is

one-more :
    (split : Split) (entry : Entry) (earlier : List Entry) (found : Option Instruction) → instruction_by (links_in earlier) entry.number entry.command ≡ found
    → (split.stays entry ≡ true → instruction_by (links_in (filter split.stays earlier)) entry.number entry.command ≡ found)
    → instructions_in (filter split.stays earlier) ≡ filter (instruction_stays split) (instructions_in earlier)
    → instructions_in (filter split.stays (entry ∷ earlier)) ≡ filter (instruction_stays split) (cons_option found (instructions_in earlier))
one-more split entry earlier None is same rest =
    elim (cases_Bool (split.stays entry)) [
      | inl stays ↦ rw (stays, same stays) rest
      | inr goes ↦ rw goes rest
    ]
one-more split entry earlier (Some i) is same rest =
    let with_it : split.stays entry ≡ instruction_stays split i = split.allocated entry i.key (keyed (links_in earlier) entry.number entry.command i is) in
    elim (cases_Bool (split.stays entry)) [
      | inl stays ↦
          let kept : instruction_stays split i ≡ true = sym with_it ∙ stays in
          rw (stays, same stays, kept) (ap (λ later. i ∷ later) rest)
      | inr goes ↦
          let passed : instruction_stays split i ≡ false = sym with_it ∙ goes in
          rw (goes, passed) rest
    ]

pub instructions-split :
    (split : Split) (entries : List Entry) → Spares split entries → instructions_in (filter split.stays entries) ≡ filter (instruction_stays split) (instructions_in entries)
instructions-split split [] spares = refl
instructions-split split (entry ∷ earlier) spares =
    let new = spares-newest split entry earlier spares in
    let kept = links_in (filter split.stays earlier) in
    one-more split entry earlier (instruction_by (links_in earlier) entry.number entry.command) refl
    (λ stays. same-instruction (links_in earlier) kept entry.number entry.command
    (All-weaker (λ key. split.goes (split.roots key) ≡ false) (λ key. root_in kept key ≡ root_in (links_in earlier) key)
    (roots-spared split earlier new.before) (listed_by entry.command) (new.own.lists stays)))
    (instructions-split split earlier new.before)

-- ---- what is asked of allocations

-- what refers to an allocation goes where that goes
abbrev pub IsTied : Split → Instruction → Type 0
IsTied split i = (reference : AllocKey) → reference_of i.role ≡ Some reference → split.drops i.key ≡ split.drops reference

tied-more :
    (split : Split) (entry : Entry) (earlier : List Entry) (found : Option Instruction) → instruction_by (links_in earlier) entry.number entry.command ≡ found → IsFree split entry
    → All (IsTied split) (instructions_in earlier) → All (IsTied split) (cons_option found (instructions_in earlier))
tied-more split entry earlier None is free rest = rest
tied-more split entry earlier (Some i) is free rest =
    All-cons (IsTied split) i (instructions_in earlier)
    (λ reference refers. free.refers i.key reference (keyed (links_in earlier) entry.number entry.command i is) (referring (links_in earlier) entry.number entry.command i is ∙ refers)) rest

pub tied : (split : Split) (entries : List Entry) → All (IsFree split) entries → All (IsTied split) (instructions_in entries)
tied split [] free = All-nil (IsTied split)
tied split (entry ∷ earlier) free =
    tied-more split entry earlier (instruction_by (links_in earlier) entry.number entry.command) refl (All-head (IsFree split) entry earlier free)
    (tied split earlier (All-tail (IsFree split) entry earlier free))

-- a key that was new is new
pub taker-stays : (split : Split) (instructions : List Instruction) (key : AllocKey) → alloc_taker_in instructions key ≡ None → alloc_taker_in (filter (instruction_stays split) instructions) key ≡ None
taker-stays split instructions key fresh =
    mapped-none (λ i. i.number) _ (unfound-among (is_keyed key) (is_keyed key) (instruction_stays split) instructions (λ i stays is. is) (unmapped (λ i. i.number) _ fresh))

-- an allocation that stays is there
pub allocation-stays :
    (split : Split) (instructions : List Instruction) (key : AllocKey) → split.drops key ≡ false
    → is_allocation_in (filter (instruction_stays split) instructions) key ≡ is_allocation_in instructions key
allocation-stays split instructions key stays =
    any-stays (is_allocation_of key) (instruction_stays split) instructions
    (λ i is.
    let parts : (is_keyed key i ≡ true) × (brings_allocation i.role ≡ true) = and_parts _ _ is in
    ap (λ k. not (split.drops k)) (same_alloc-true i.key key parts.0) ∙ ap not stays)

-- one that nothing ended is ended by none
pub unended-stays : (split : Split) (instructions : List Instruction) (key : AllocKey) → ended_in instructions key ≡ None → ended_in (filter (instruction_stays split) instructions) key ≡ None
unended-stays split instructions key none =
    mapped-none (λ i. i.number) _
    (unfound-among (λ i. ends key i.role) (λ i. ends key i.role) (instruction_stays split) instructions (λ i stays is. is) (unmapped (λ i. i.number) _ none))

-- what ended it stays with it
ended-stays :
    (split : Split) (instructions : List Instruction) (key : AllocKey) → All (IsTied split) instructions → split.drops key ≡ false
    → ended_in (filter (instruction_stays split) instructions) key ≡ ended_in instructions key
ended-stays split instructions key tied stays =
    ap (option_map (λ i. i.number))
    (find-stays (λ i. ends key i.role) (instruction_stays split) instructions
    (All-weaker (IsTied split) (λ i. ends key i.role ≡ true → instruction_stays split i ≡ true)
    (λ i with_it ended. ap not (with_it key (ends-refers key i.role ended) ∙ stays)) instructions tied))

holds-stays :
    (split : Split) (instructions : List Instruction) (reference : Option AllocKey) (root : ExecKey) (i : Instruction) → All (IsTied split) instructions → instruction_stays split i ≡ true
    → holds_beside (filter (instruction_stays split) instructions) reference root i ≡ holds_beside instructions reference root i
holds-stays split instructions reference root i tied stays =
    ap (λ ended. ((brings_allocation i.role && is_none ended) && names root i) && not (is_reference reference i.key)) (ended-stays split instructions i.key tied (not-true _ stays))

-- a chain that no other live allocation named is named by none
pub holder-stays :
    (split : Split) (instructions : List Instruction) (reference : Option AllocKey) (root : ExecKey) → All (IsTied split) instructions → other_holder_in instructions reference root ≡ None
    → other_holder_in (filter (instruction_stays split) instructions) reference root ≡ None
holder-stays split instructions reference root tied none =
    mapped-none (λ i. i.number) _
    (unfound-among (holds_beside instructions reference root) (holds_beside (filter (instruction_stays split) instructions) reference root) (instruction_stays split) instructions
    (λ i stays held. sym (holds-stays split instructions reference root i tied stays) ∙ held) (unmapped (λ i. i.number) _ none))
