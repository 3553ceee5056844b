-- The first entry that passes a test, which sees the entries before it. The entries stand newest first, and their numbers fall.
use Rattle.std.proofs.Common.{◌≡◌, ℕ, ◌<◌, Bool, true, false, cond, ◌&&◌, ◌||◌, List, [], ◌∷◌, ◌++◌, Option, Some, None, refl, sym, ap, ◌∙◌, arith, is_none, nat_lt, ltb-true}
use Rattle.std.specs.List.{cons_option}
use Rattle.std.specs.Option.{option_map_or, option_or}
use Rattle.std.proofs.lemmas.Bool.{and_parts}
use Rattle.blot_types.specs.declared.{allocation.Instruction.Instruction, command.Command.Command, command.Entry.Entry, link.Link.Link}
use Rattle.blot_types.specs.declared.command.Command.TheVariants.{Trade, Correct, Bust, AllocNew, AllocReplace, AllocCancel, Withdraw}
use Rattle.blot_types.specs.Allocations.{instruction_by, instructions_in}
use Rattle.blot_types.specs.Legal.{is_above_entries, legal_in, refusal_in, rises_in}
use Rattle.blot_types.specs.Lesser.{lesser}
use Rattle.blot_types.specs.Survivors.{link_of, links_in}
use Rattle.blot_types.specs.Withdrawal.{needed_in, needs}
use Rattle.blot_types.proofs.ChainLemmas.{none_is}
use Rattle.blot_types.proofs.EntryLemmas.{link-number}
use Rattle.blot_types.proofs.NeedLemmas.{not-below}
use Rattle.blot_types.proofs.GeneralLemmas.{and-false, or-none}
use Rattle.blot_places.proofs.FirstLemmas.{first-more, first_by, is_under, one_of_two, under-or}
use Rattle.blot_chain.specs.Steps.{number_of as link_number}
use Rattle.blot_alloc.specs.Allocs.{number_of as instruction_number}

-- the number of the first that passes
abbrev pub first_in : (List Entry → Entry → Bool) → List Entry → Option ℕ
first_in test [] = None
first_in test (entry ∷ earlier) = option_or (first_in test earlier) (cond (test earlier entry) (Some entry.number) None)

in-under : (bound : ℕ) (test : List Entry → Entry → Bool) (entries : List Entry) → is_above_entries bound entries ≡ true → is_under bound (first_in test entries) ≡ true
in-under bound test [] above = refl
in-under bound test (entry ∷ earlier) above =
    let parts : (nat_lt entry.number bound ≡ true) × (is_above_entries bound earlier ≡ true) = and_parts _ _ above in
    under-or (λ (n : ℕ). n) bound entry.number (first_in test earlier) (test earlier entry) (in-under bound test earlier parts.1) parts.0

-- the first that passes one of two tests is the lesser of the first that pass each
pub in-either :
    (p q : List Entry → Entry → Bool) (entries : List Entry) → rises_in entries ≡ true
    → first_in (λ before entry. p before entry || q before entry) entries ≡ lesser (first_in p entries) (first_in q entries)
in-either p q [] rise = refl
in-either p q (entry ∷ earlier) rise =
    let parts : (is_above_entries entry.number earlier ≡ true) × (rises_in earlier ≡ true) = and_parts _ _ rise in
    let n = entry.number in
    ap (λ found. option_or found (cond (p earlier entry || q earlier entry) (Some n) None)) (in-either p q earlier parts.1)
    ∙ one_of_two (first_in p earlier) (first_in q earlier) (p earlier entry) (q earlier entry) n (in-under n p earlier parts.0) (in-under n q earlier parts.0)

-- none of them passes where they are numbered below
pub none-in : (n : ℕ) (test : List Entry → Entry → Bool) (entries : List Entry) → is_above_entries n entries ≡ true → first_in (λ before entry. nat_lt n entry.number && test before entry) entries ≡ None
none-in n test [] above = refl
none-in n test (entry ∷ earlier) above =
    let parts : (nat_lt entry.number n ≡ true) × (is_above_entries n earlier ≡ true) = and_parts _ _ above in
    let less : entry.number < n = ltb-true _ _ parts.0 in
    let under : nat_lt n entry.number ≡ false = not-below n entry.number (omega (arith, less)) in
    ap (λ found. option_or found (cond (nat_lt n entry.number && test earlier entry) (Some entry.number) None)) (none-in n test earlier parts.1)
    ∙ ap (λ b. cond (b && test earlier entry) (Some entry.number) None) under

-- nor does the one of the number itself
pub none-at : (test : List Entry → Entry → Bool) (k : Entry) (front : List Entry) → rises_in (k ∷ front) ≡ true → first_in (λ before entry. nat_lt k.number entry.number && test before entry) (k ∷ front) ≡ None
none-at test k front rise =
    let parts : (is_above_entries k.number front ≡ true) × (rises_in front ≡ true) = and_parts _ _ rise in
    let under : nat_lt k.number k.number ≡ false = not-below k.number k.number (omega arith) in
    ap (λ found. option_or found (cond (nat_lt k.number k.number && test front k) (Some k.number) None)) (none-in k.number test front parts.0)
    ∙ ap (λ b. cond (b && test front k) (Some k.number) None) under

-- ---- among the links, and among the instructions

linked-more : (entry : Entry) (found : Option Link) (test : Link → Bool) (earlier : List Link) → link_of entry ≡ found
    → option_or (first_by link_number test earlier) (cond (option_map_or test found false) (Some entry.number) None) ≡ first_by link_number test (cons_option found earlier)
linked-more entry None test earlier is = or-none (first_by link_number test earlier)
linked-more entry (Some link) test earlier is =
    ap (λ n. option_or (first_by link_number test earlier) (cond (test link) (Some n) None)) (sym (link-number entry link is)) ∙ sym (first-more link_number test link earlier)

pub in-links : (test : Link → Bool) (entries : List Entry) → first_in (λ before entry. option_map_or test (link_of entry) false) entries ≡ first_by link_number test (links_in entries)
in-links test [] = refl
in-links test (entry ∷ earlier) =
    ap (λ found. option_or found (cond (option_map_or test (link_of entry) false) (Some entry.number) None)) (in-links test earlier)
    ∙ linked-more entry (link_of entry) test (links_in earlier) refl

abbrev number_in : Option Instruction → ℕ
number_in found = option_map_or instruction_number found 0

pub instruction-number : (links : List Link) (number : ℕ) (command : Command) (i : Instruction) → instruction_by links number command ≡ Some i → i.number ≡ number
instruction-number links number (Trade trade) i is = cc
instruction-number links number (Correct correct) i is = cc
instruction-number links number (Bust bust) i is = cc
instruction-number links number (AllocNew new) i is = ap number_in (sym is)
instruction-number links number (AllocReplace replace) i is = ap number_in (sym is)
instruction-number links number (AllocCancel cancel) i is = ap number_in (sym is)
instruction-number links number (Withdraw withdrawn) i is = cc

-- an entry as the allocations see it, where others stand before it
abbrev pub instruction_after : List Entry → Entry → Option Instruction
instruction_after before entry = instruction_by (links_in before) entry.number entry.command

instructed-more : (before : List Entry) (entry : Entry) (found : Option Instruction) (test : Instruction → Bool) (earlier : List Instruction) → instruction_after before entry ≡ found
    → option_or (first_by instruction_number test earlier) (cond (option_map_or test found false) (Some entry.number) None) ≡ first_by instruction_number test (cons_option found earlier)
instructed-more before entry None test earlier is = or-none (first_by instruction_number test earlier)
instructed-more before entry (Some i) test earlier is =
    ap (λ n. option_or (first_by instruction_number test earlier) (cond (test i) (Some n) None)) (sym (instruction-number (links_in before) entry.number entry.command i is))
    ∙ sym (first-more instruction_number test i earlier)

pub in-instructions :
    (test : Instruction → Bool) (entries : List Entry)
    → first_in (λ before entry. option_map_or test (instruction_after before entry) false) entries ≡ first_by instruction_number test (instructions_in entries)
in-instructions test [] = refl
in-instructions test (entry ∷ earlier) =
    ap (λ found. option_or found (cond (option_map_or test (instruction_after earlier entry) false) (Some entry.number) None)) (in-instructions test earlier)
    ∙ instructed-more earlier entry (instruction_after earlier entry) test (instructions_in earlier) refl

-- the number of an entry is that of its link, and of its instruction
link-above : (n : ℕ) (entry : Entry) (found : Option Link) (test : Link → Bool) → link_of entry ≡ found
    → (nat_lt n entry.number && option_map_or test found false) ≡ option_map_or (λ link. nat_lt n link.number && test link) found false
link-above n entry None test is = and-false (nat_lt n entry.number)
link-above n entry (Some link) test is = ap (λ m. nat_lt n m && test link) (sym (link-number entry link is))

pub links-above :
    (n : ℕ) (test : Link → Bool) (entries : List Entry)
    → first_in (λ before entry. nat_lt n entry.number && option_map_or test (link_of entry) false) entries ≡ first_by link_number (λ link. nat_lt n link.number && test link) (links_in entries)
links-above n test entries =
    ap (λ test. first_in test entries) (λ i before entry. link-above n entry (link_of entry) test refl i) ∙ in-links (λ link. nat_lt n link.number && test link) entries

instruction-above : (n : ℕ) (before : List Entry) (entry : Entry) (found : Option Instruction) (test : Instruction → Bool) → instruction_after before entry ≡ found
    → (nat_lt n entry.number && option_map_or test found false) ≡ option_map_or (λ i. nat_lt n i.number && test i) found false
instruction-above n before entry None test is = and-false (nat_lt n entry.number)
instruction-above n before entry (Some i) test is = ap (λ m. nat_lt n m && test i) (sym (instruction-number (links_in before) entry.number entry.command i is))

pub instructions-above :
    (n : ℕ) (test : Instruction → Bool) (entries : List Entry)
    → first_in (λ before entry. nat_lt n entry.number && option_map_or test (instruction_after before entry) false) entries
    ≡ first_by instruction_number (λ i. nat_lt n i.number && test i) (instructions_in entries)
instructions-above n test entries =
    ap (λ test. first_in test entries) (λ i before entry. instruction-above n before entry (instruction_after before entry) test refl i)
    ∙ in-instructions (λ i. nat_lt n i.number && test i) entries

-- ---- what needs an entry

-- a test of what needs k, for the entries after it
abbrev pub after : Entry → (List Entry → Entry → Bool) → List Entry → Entry → Bool
after k test before entry = nat_lt k.number entry.number && test before entry

pub needed-in : (k : Entry) (entries : List Entry) → needed_in k entries ≡ first_in (after k (λ before entry. needs before k entry.command)) entries
needed-in k [] = refl
needed-in k (entry ∷ earlier) =
    ap (λ found. option_or found (cond (nat_lt k.number entry.number && needs earlier k entry.command) (Some entry.number) None)) (needed-in k earlier)

-- an entry after k, where no earlier one passes
pub record IsNext (k : Entry) (front : List Entry) (test : List Entry → Entry → Bool) (later : List Entry) (entry : Entry) : Type 0 where
  pub accepted : refusal_in (later ++ k ∷ front) entry.command ≡ None
  pub legal : legal_in (later ++ k ∷ front) ≡ true
  pub above : is_above_entries entry.number (later ++ k ∷ front) ≡ true
  pub rise : rises_in (later ++ k ∷ front) ≡ true
  pub none : first_in (after k test) (later ++ k ∷ front) ≡ None

-- it needs k exactly where it passes
abbrev pub IsTest : Entry → List Entry → (List Entry → Entry → Bool) → Type 0
IsTest k front test = (later : List Entry) (entry : Entry) → IsNext k front test later entry → needs (later ++ k ∷ front) k entry.command ≡ test (later ++ k ∷ front) entry

tested-more :
    (k : Entry) (front : List Entry) (test : List Entry → Entry → Bool) (entry : Entry) (later : List Entry) (found : Option ℕ) → first_in (after k test) (later ++ k ∷ front) ≡ found
    → (found ≡ None → needs (later ++ k ∷ front) k entry.command ≡ test (later ++ k ∷ front) entry)
    → option_or found (cond (after k (λ before entry. needs before k entry.command) (later ++ k ∷ front) entry) (Some entry.number) None)
    ≡ option_or found (cond (after k test (later ++ k ∷ front) entry) (Some entry.number) None)
tested-more k front test entry later (Some n) is same = refl
tested-more k front test entry later None is same = ap (λ b. cond (nat_lt k.number entry.number && b) (Some entry.number) None) (same refl)

-- so the first that needs k is the first that passes
pub needed-by :
    (k : Entry) (front : List Entry) (test : List Entry → Entry → Bool) → IsTest k front test → (later : List Entry) → legal_in (later ++ k ∷ front) ≡ true → rises_in (later ++ k ∷ front) ≡ true
    → first_in (after k (λ before entry. needs before k entry.command)) (later ++ k ∷ front) ≡ first_in (after k test) (later ++ k ∷ front)
needed-by k front test step [] legal rise = none-at (λ before entry. needs before k entry.command) k front rise ∙ sym (none-at test k front rise)
needed-by k front test step (entry ∷ later) legal rise =
    let legals : (is_none (refusal_in (later ++ k ∷ front) entry.command) ≡ true) × (legal_in (later ++ k ∷ front) ≡ true) = and_parts _ _ legal in
    let rises : (is_above_entries entry.number (later ++ k ∷ front) ≡ true) × (rises_in (later ++ k ∷ front) ≡ true) = and_parts _ _ rise in
    ap (λ found. option_or found (cond (after k (λ before entry. needs before k entry.command) (later ++ k ∷ front) entry) (Some entry.number) None)) (needed-by k front test step later legals.1 rises.1)
    ∙ tested-more k front test entry later (first_in (after k test) (later ++ k ∷ front)) refl
    (λ none. step later entry (record { accepted = none_is _ legals.0; legal = legals.1; above = rises.0; rise = rises.1; none = none }))
