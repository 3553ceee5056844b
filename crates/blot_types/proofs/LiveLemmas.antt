-- What one more instruction changes in the allocations that are live.
use Rattle.std.proofs.Common.{◌≡◌, ℕ, Bool, true, false, ◌&&◌, ◌+ℤ◌, arith, List, [], ◌∷◌, ◌++◌, reverse, Option, Some, None, refl, sym, ap, subst, ◌∙◌, inl, inr, ℤ, filter, find, is_none, is_some, not, All, append-nil}
use Rattle.std.specs.List.{cons_option}
use Rattle.std.specs.Option.{option_or}
use Rattle.std.proofs.lemmas.Bool.{cases_Bool, and_parts}
use Rattle.std.proofs.lemmas.Int.{ints}
use Rattle.std.proofs.lemmas.List.{reverse-reverse, reverse-append}
use Rattle.std.proofs.lemmas.List.Elements.{All-nil, All-cons, All-append, All-weaker, filter-append, filter_map-append}
use Rattle.std.proofs.lemmas.List.Folds.{find-append}
use Rattle.blot_types.specs.declared.{allocation.Instruction.Instruction, command.Command.Command, command.Entry.Entry, keys.AllocKey.AllocKey, link.Link.Link}
use Rattle.blot_types.specs.declared.command.Command.TheVariants.{Trade, Correct, Bust, AllocNew, AllocReplace, AllocCancel, Withdraw}
use Rattle.blot_types.specs.Allocations.{Allocation, allocation_of, instruction_by, instructions_in, instructions_of, live_allocations}
use Rattle.blot_types.specs.Instructions.{is_keyed, alloc_taker_in, brings_allocation, is_allocation_in, ends, ended_in, is_live_key}
use Rattle.blot_types.specs.Keys.{same_alloc}
use Rattle.blot_types.specs.Legal.{refusal_in, legal_in, is_legal, entry_refusal}
use Rattle.blot_types.specs.Order.{total}
use Rattle.blot_types.specs.Survivors.{links_in}
use Rattle.blot_types.proofs.AcceptLemmas.{accepted-instruction, instructed, instructions_of-push}
use Rattle.blot_types.proofs.ChainLemmas.{differing, none_is}
use Rattle.blot_types.proofs.ChangeLemmas.{allocations_in, allocations-push}
use Rattle.blot_types.proofs.InstructionLemmas.{follows}
use Rattle.blot_types.proofs.KeyLemmas.{same_alloc-true, same_alloc-refl}
use Rattle.blot_types.proofs.LawLemmas.{filter-none, find-none}
use Rattle.blot_types.proofs.NamedLemmas.{own-unended}
use Rattle.blot_types.proofs.SumLemmas.{total-filter}
use Rattle.blot_types.proofs.SurvivorLemmas.{filter-and}
use Rattle.blot_types.proofs.GeneralLemmas.{and-true, and-false, or-none}

-- ---- lists

pub filter-same : {X : Type 0} (p q : X → Bool) (xs : List X) → ((x : X) → p x ≡ q x) → filter p xs ≡ filter q xs
filter-same p q [] same = refl
filter-same p q (x ∷ xs) same = rw (same x, filter-same p q xs same) refl

-- ---- an instruction and its allocation

-- an allocation bears the key of its instruction; without an instruction there is none
abbrev pub IsOfInstruction : Option Instruction → Option Allocation → Type 0
IsOfInstruction None allocation = allocation ≡ None
IsOfInstruction (Some i) None = brings_allocation i.role ≡ false
IsOfInstruction (Some i) (Some a) = (a.key ≡ i.key) × (brings_allocation i.role ≡ true)

pub of_instruction : (links : List Link) (number : ℕ) (command : Command) → IsOfInstruction (instruction_by links number command) (allocation_of command)
of_instruction links number (Trade trade) = refl
of_instruction links number (Correct correct) = refl
of_instruction links number (Bust bust) = refl
of_instruction links number (AllocNew new) = (refl, refl)
of_instruction links number (AllocReplace replace) = (refl, refl)
of_instruction links number (AllocCancel cancel) = refl
of_instruction links number (Withdraw withdrawn) = refl

-- the key of each allocation is taken up
abbrev pub IsTaken : List Instruction → Allocation → Type 0
IsTaken instructions allocation = is_some (alloc_taker_in instructions allocation.key) ≡ true

taken-behind : (found : Option Instruction) (instructions : List Instruction) (allocation : Allocation) → IsTaken instructions allocation → IsTaken (cons_option found instructions) allocation
taken-behind None instructions allocation taken = taken
taken-behind (Some i) instructions allocation taken =
    elim (cases_Bool (is_keyed allocation.key i)) [
      | inl here ↦ rw here refl
      | inr other ↦ rw other taken
    ]

taken-own :
    (found : Option Instruction) (brought : Option Allocation) (instructions : List Instruction) → IsOfInstruction found brought
    → All (IsTaken (cons_option found instructions)) (cons_option brought [])
taken-own None None instructions is = All-nil (IsTaken instructions)
taken-own None (Some a) instructions is = cc
taken-own (Some i) None instructions is = All-nil (IsTaken (i ∷ instructions))
taken-own (Some i) (Some a) instructions is =
    let here : is_keyed a.key i ≡ true = ap (λ k. same_alloc i.key k) is.0 ∙ same_alloc-refl i.key in
    All-cons (IsTaken (i ∷ instructions)) a [] (rw here refl) (All-nil (IsTaken (i ∷ instructions)))

pub turned : (entry : Entry) (earlier : List Entry) → allocations_in (reverse (entry ∷ earlier)) ≡ allocations_in (reverse earlier) ++ cons_option (allocation_of entry.command) []
turned entry earlier = ap allocations_in (reverse-append (entry ∷ []) earlier) ∙ filter_map-append (λ e. allocation_of e.command) (reverse earlier) (entry ∷ [])

pub all_taken : (entries : List Entry) → All (IsTaken (instructions_in entries)) (allocations_in (reverse entries))
all_taken [] = All-nil (IsTaken [])
all_taken (entry ∷ earlier) =
    let found = instruction_by (links_in earlier) entry.number entry.command in
    let after = cons_option found (instructions_in earlier) in
    subst (All (IsTaken after)) (sym (turned entry earlier))
    (All-append (IsTaken after) (allocations_in (reverse earlier)) (cons_option (allocation_of entry.command) [])
    (All-weaker (IsTaken (instructions_in earlier)) (IsTaken after) (λ a taken. taken-behind found (instructions_in earlier) a taken) (allocations_in (reverse earlier)) (all_taken earlier))
    (taken-own found (allocation_of entry.command) (instructions_in earlier) (of_instruction (links_in earlier) entry.number entry.command)))

-- ---- one allocation a key

abbrev pub has_alloc_key : AllocKey → Allocation → Bool
has_alloc_key key allocation = same_alloc key allocation.key

pub none_keyed : (instructions : List Instruction) (key : AllocKey) (allocations : List Allocation) → alloc_taker_in instructions key ≡ None → All (IsTaken instructions) allocations → All (λ a. has_alloc_key key a ≡ false) allocations
none_keyed instructions key allocations fresh taken =
    All-weaker (IsTaken instructions) (λ a. has_alloc_key key a ≡ false)
    (λ a is.
    elim (cases_Bool (has_alloc_key key a)) [
      | inl same ↦
          let none : is_some (alloc_taker_in instructions a.key) ≡ false = ap (λ k. is_some (alloc_taker_in instructions k)) (sym (same_alloc-true key a.key same)) ∙ ap is_some fresh in
          absurd (differing is none)
      | inr other ↦ other
    ]) allocations taken

one_or_none : {X : Type 0} (p : X → Bool) (found : Option X) → filter p (cons_option found []) ≡ cons_option (find p (cons_option found [])) []
one_or_none p None = refl
one_or_none p (Some x) =
    elim (cases_Bool (p x)) [
      | inl passes ↦ rw passes refl
      | inr fails ↦ rw fails refl
    ]

-- whether some of the last one is keyed, or none
last_keyed :
    (earlier : List Allocation) (last : Option Allocation) (key : AllocKey)
    → filter (has_alloc_key key) earlier ≡ cons_option (find (has_alloc_key key) earlier) []
    → ((a : Allocation) → last ≡ Some a → has_alloc_key key a ≡ true → All (λ b. has_alloc_key key b ≡ false) earlier)
    → filter (has_alloc_key key) (earlier ++ cons_option last []) ≡ cons_option (find (has_alloc_key key) (earlier ++ cons_option last [])) []
last_keyed earlier None key before fresh = ap (filter (has_alloc_key key)) (append-nil earlier) ∙ before ∙ ap (λ l. cons_option (find (has_alloc_key key) l) []) (sym (append-nil earlier))
last_keyed earlier (Some a) key before fresh =
    let p = has_alloc_key key in
    let split : filter p (earlier ++ a ∷ []) ≡ filter p earlier ++ filter p (a ∷ []) = filter-append p earlier (a ∷ []) in
    let found : find p (earlier ++ a ∷ []) ≡ option_or (find p earlier) (find p (a ∷ [])) = find-append p earlier (a ∷ []) in
    elim (cases_Bool (p a)) [
      | inl here ↦
          let none = fresh a refl here in
          split ∙ ap (λ front. front ++ filter p (a ∷ [])) (filter-none p earlier none) ∙ one_or_none p (Some a)
          ∙ ap (λ o. cons_option o []) (sym (found ∙ ap (λ o. option_or o (find p (a ∷ []))) (find-none p earlier none)))
      | inr other ↦
          let last_none : find p (a ∷ []) ≡ None = rw other refl in
          let rest_none : filter p (a ∷ []) ≡ [] = rw other refl in
          split ∙ ap (λ back. filter p earlier ++ back) rest_none ∙ append-nil (filter p earlier) ∙ before
          ∙ ap (λ o. cons_option o []) (sym (found ∙ ap (option_or (find p earlier)) last_none ∙ or-none (find p earlier)))
    ]

fresh_of :
    (entries : List Entry) (found : Option Instruction) (brought : Option Allocation) (key : AllocKey) → IsOfInstruction found brought
    → ((i : Instruction) → found ≡ Some i → alloc_taker_in (instructions_in entries) i.key ≡ None)
    → (a : Allocation) → brought ≡ Some a → has_alloc_key key a ≡ true → All (λ b. has_alloc_key key b ≡ false) (allocations_in (reverse entries))
fresh_of entries None None key is fresh a brought keyed = cc
fresh_of entries None (Some b) key is fresh a brought keyed = cc
fresh_of entries (Some i) None key is fresh a brought keyed = cc
fresh_of entries (Some i) (Some b) key is fresh a brought keyed =
    let one : b ≡ a = cc in
    let same : key ≡ i.key = same_alloc-true key a.key keyed ∙ ap (λ x. x.key) (sym one) ∙ is.0 in
    none_keyed (instructions_in entries) key (allocations_in (reverse entries)) (ap (alloc_taker_in (instructions_in entries)) same ∙ fresh i refl) (all_taken entries)

-- of a key there is one allocation at most
alloc_once_in : (entries : List Entry) (key : AllocKey) → legal_in entries ≡ true → filter (has_alloc_key key) (allocations_in (reverse entries)) ≡ cons_option (find (has_alloc_key key) (allocations_in (reverse entries))) []
alloc_once_in [] key legal = refl
alloc_once_in (entry ∷ earlier) key legal =
    let parts : (is_none (refusal_in earlier entry.command) ≡ true) × (legal_in earlier ≡ true) = and_parts _ _ legal in
    let accepted = none_is (refusal_in earlier entry.command) parts.0 in
    let found = instruction_by (links_in earlier) entry.number entry.command in
    subst (λ l. filter (has_alloc_key key) l ≡ cons_option (find (has_alloc_key key) l) []) (sym (turned entry earlier))
    (last_keyed (allocations_in (reverse earlier)) (allocation_of entry.command) key (alloc_once_in earlier key parts.1)
    (fresh_of earlier found (allocation_of entry.command) key (of_instruction (links_in earlier) entry.number entry.command)
    (λ i is. (follows (instructions_in earlier) i.key i.role i.roots (accepted-instruction earlier entry i accepted is)).fresh)))

pub alloc_once : (list : List Entry) (key : AllocKey) → is_legal list ≡ true → filter (has_alloc_key key) (allocations_in list) ≡ cons_option (find (has_alloc_key key) (allocations_in list)) []
alloc_once list key legal =
    subst (λ l. filter (has_alloc_key key) (allocations_in l) ≡ cons_option (find (has_alloc_key key) (allocations_in l)) []) (reverse-reverse list) (alloc_once_in (reverse list) key legal)

-- ---- the live allocations with one more instruction

pub unended-step : (i : Instruction) (instructions : List Instruction) (key : AllocKey) → is_none (ended_in (i ∷ instructions) key) ≡ (is_none (ended_in instructions key) && not (ends key i.role))
unended-step i instructions key =
    elim (cases_Bool (ends key i.role)) [
      | inl ended ↦ rw ended (sym (and-false (is_none (ended_in instructions key))))
      | inr other ↦ rw other (sym (and-true (is_none (ended_in instructions key))))
    ]

new-stands : (p : Allocation → Bool) (brought : Option Allocation) → ((a : Allocation) → brought ≡ Some a → p a ≡ true) → filter p (cons_option brought []) ≡ cons_option brought []
new-stands p None each = refl
new-stands p (Some a) each = rw (each a refl) refl

pub own-key : (found : Instruction) (brought : Option Allocation) → IsOfInstruction (Some found) brought → (a : Allocation) → brought ≡ Some a → a.key ≡ found.key
own-key i None is a brought = cc
own-key i (Some b) is a brought = let one : b ≡ a = cc in ap (λ x. x.key) (sym one) ∙ is.0

-- those that the instruction ends are live no more, and the one that it brings is
pub live-more :
    (list : List Entry) (entry : Entry) (i : Instruction) → is_legal list ≡ true → entry_refusal list entry.command ≡ None
    → instruction_by (links_in (reverse list)) entry.number entry.command ≡ Some i
    → live_allocations (list ++ entry ∷ []) ≡ filter (λ a. not (ends a.key i.role)) (live_allocations list) ++ cons_option (allocation_of entry.command) []
live-more list entry i legal accepted is =
    let instructions = instructions_of list in
    let it = follows instructions i.key i.role i.roots (accepted-instruction (reverse list) entry i accepted is) in
    let after : instructions_of (list ++ entry ∷ []) ≡ i ∷ instructions = instructions_of-push list entry ∙ ap (λ found. cons_option found instructions) is in
    let stands : Allocation → Bool = λ a. is_none (ended_in (i ∷ instructions) a.key) in
    let of_it : IsOfInstruction (Some i) (allocation_of entry.command) =
    subst (λ found. IsOfInstruction found (allocation_of entry.command)) is (of_instruction (links_in (reverse list)) entry.number entry.command) in
    ap (λ all. filter (λ a. is_none (ended_in all a.key)) (allocations_in (list ++ entry ∷ []))) after
    ∙ ap (filter stands) (allocations-push list entry)
    ∙ filter-append stands (allocations_in list) (cons_option (allocation_of entry.command) [])
    ∙ ap (λ front. front ++ filter stands (cons_option (allocation_of entry.command) []))
    (filter-same stands (λ a. is_none (ended_in instructions a.key) && not (ends a.key i.role)) (allocations_in list) (λ a. unended-step i instructions a.key)
    ∙ filter-and (λ a. is_none (ended_in instructions a.key)) (λ a. not (ends a.key i.role)) (allocations_in list))
    ∙ ap (λ back. filter (λ a. not (ends a.key i.role)) (live_allocations list) ++ back)
    (new-stands stands (allocation_of entry.command)
    (λ a brought. ap (λ k. is_none (ended_in (i ∷ instructions) k)) (own-key i (allocation_of entry.command) of_it a brought)
    ∙ ap is_none (own-unended instructions i (instructed (reverse list) legal) it)))

-- the allocation of a live key, and the others
pub total-ended :
    (g : Allocation → ℤ) (list : List Entry) (key : AllocKey) → is_legal list ≡ true → is_live_key (instructions_of list) key ≡ true
    → total g (live_allocations list)
    ≡ (total g (cons_option (find (has_alloc_key key) (allocations_in list)) []) +ℤ total g (filter (λ a. not (has_alloc_key key a)) (live_allocations list)))
total-ended g list key legal live =
    let parts : (is_allocation_in (instructions_of list) key ≡ true) × (is_none (ended_in (instructions_of list) key) ≡ true) = and_parts _ _ live in
    let alive : Allocation → Bool = λ a. is_none (ended_in (instructions_of list) a.key) in
    let keyed : filter (has_alloc_key key) (live_allocations list) ≡ filter (has_alloc_key key) (allocations_in list) =
    sym (filter-and alive (has_alloc_key key) (allocations_in list))
    ∙ filter-same (λ a. alive a && has_alloc_key key a) (has_alloc_key key) (allocations_in list) (λ a.
    elim (cases_Bool (has_alloc_key key a)) [
      | inl here ↦ rw here (and-true (alive a) ∙ ap (λ k. is_none (ended_in (instructions_of list) k)) (sym (same_alloc-true key a.key here)) ∙ parts.1)
      | inr other ↦ rw other (and-false (alive a))
    ]) in
    let split = total-filter g (has_alloc_key key) (live_allocations list) in
    let one : total g (filter (has_alloc_key key) (live_allocations list)) ≡ total g (cons_option (find (has_alloc_key key) (allocations_in list)) []) =
    ap (total g) (keyed ∙ alloc_once list key legal) in
    omega (arith, ints, split, one)
