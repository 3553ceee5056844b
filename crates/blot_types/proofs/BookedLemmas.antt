-- The lines of each allocation of a legal list book its block; the instructions of a list name each chain once.
use Rattle.std.proofs.Common.{◌≡◌, ℕ, Bool, true, false, pos, List, [], ◌∷◌, reverse, Option, Some, None, refl, sym, subst, ◌∙◌, inl, inr, ℤ, is_none, find, All, option_map, int_eq}
use Rattle.std.specs.List.{cons_option, list_any, list_all}
use Rattle.std.proofs.lemmas.Bool.{cases_Bool, and_parts}
use Rattle.std.proofs.lemmas.Bool.Decides.{Decides-int_eq}
use Rattle.std.proofs.lemmas.List.{reverse-reverse}
use Rattle.std.proofs.lemmas.List.Elements.{All-nil, All-cons, All-append}
use Rattle.blot_types.specs.declared.{allocation.Instruction.Instruction, command.Command.Command, command.Entry.Entry, keys.AllocKey.AllocKey, keys.ExecKey.ExecKey, refused.Refused.TheVariants.Quantity}
use Rattle.blot_types.specs.declared.command.Command.TheVariants.{Trade, Correct, Bust, AllocNew, AllocReplace, AllocCancel, Withdraw}
use Rattle.blot_types.specs.Allocations.{Allocation, allocation_of}
use Rattle.blot_types.specs.Instructions.{holds_beside, other_holder_in, are_apart, may_follow, is_instructed}
use Rattle.blot_types.specs.Legal.{refusal_in, legal_in, is_legal}
use Rattle.blot_types.specs.Refusals.{booked, mismatch, unknown_alloc, dead_alloc, unknown_exec, busted_exec, repeated_exec, exec_taken, instrument}
use Rattle.blot_types.proofs.AcceptLemmas.{or_parts}
use Rattle.blot_types.proofs.ChainLemmas.{none_is, clash}
use Rattle.blot_types.proofs.ChangeLemmas.{allocations_in}
use Rattle.blot_types.proofs.InstructionLemmas.{follows}
use Rattle.blot_types.proofs.LiveLemmas.{turned}

-- ---- the lines book the block

told : (a b : ℤ) → int_eq a b ≡ true → a ≡ b
told a b same = (Decides-int_eq a b).0 same

pub mismatch-none : (wanted block lines : ℤ) → mismatch wanted block lines ≡ None → lines ≡ block
mismatch-none wanted block lines none =
    elim (cases_Bool (int_eq block wanted)) [
      | inl first ↦
          elim (cases_Bool (int_eq lines wanted)) [
            | inl second ↦ told lines wanted second ∙ sym (told block wanted first)
            | inr other ↦ (let refused : Some (Quantity wanted lines) ≡ None = rw (first, other) at none in cc)
          ]
      | inr other ↦ (let refused : Some (Quantity wanted block) ≡ None = rw other at none in cc)
    ]

-- the lines of an allocation book its block
abbrev pub BooksBlock : Allocation → Type 0
BooksBlock allocation = booked allocation.terms.lines ≡ pos allocation.terms.block

books : (entries : List Entry) (command : Command) → refusal_in entries command ≡ None → All BooksBlock (cons_option (allocation_of command) [])
books entries (Trade trade) accepted = All-nil BooksBlock
books entries (Correct correct) accepted = All-nil BooksBlock
books entries (Bust bust) accepted = All-nil BooksBlock
books entries (AllocCancel cancel) accepted = All-nil BooksBlock
books entries (Withdraw withdrawn) accepted = All-nil BooksBlock
books entries (AllocNew new) accepted =
    let command = AllocNew new in
    let two = or_parts _ _ accepted in
    let five = or_parts (unknown_exec entries command) _ two.1 in
    let six = or_parts (busted_exec entries command) _ five.1 in
    let seven = or_parts (repeated_exec entries command) _ six.1 in
    let eight = or_parts (exec_taken entries command) _ seven.1 in
    let nine = or_parts (instrument entries command) _ eight.1 in
    All-cons BooksBlock (record { key = new.key; terms = new.terms }) [] (mismatch-none _ (pos new.terms.block) (booked new.terms.lines) nine.1) (All-nil BooksBlock)
books entries (AllocReplace replace) accepted =
    let command = AllocReplace replace in
    let two = or_parts _ _ accepted in
    let three = or_parts (unknown_alloc entries command) _ two.1 in
    let four = or_parts (dead_alloc entries command) _ three.1 in
    let five = or_parts (unknown_exec entries command) _ four.1 in
    let six = or_parts (busted_exec entries command) _ five.1 in
    let seven = or_parts (repeated_exec entries command) _ six.1 in
    let eight = or_parts (exec_taken entries command) _ seven.1 in
    let nine = or_parts (instrument entries command) _ eight.1 in
    All-cons BooksBlock (record { key = replace.key; terms = replace.terms }) [] (mismatch-none _ (pos replace.terms.block) (booked replace.terms.lines) nine.1) (All-nil BooksBlock)

books_in : (entries : List Entry) → legal_in entries ≡ true → All BooksBlock (allocations_in (reverse entries))
books_in [] legal = All-nil BooksBlock
books_in (entry ∷ earlier) legal =
    let parts : (is_none (refusal_in earlier entry.command) ≡ true) × (legal_in earlier ≡ true) = and_parts _ _ legal in
    subst (All BooksBlock) (sym (turned entry earlier))
    (All-append BooksBlock (allocations_in (reverse earlier)) (cons_option (allocation_of entry.command) []) (books_in earlier parts.1)
    (books earlier entry.command (none_is (refusal_in earlier entry.command) parts.0)))

pub books_blocks : (list : List Entry) → is_legal list ≡ true → All BooksBlock (allocations_in list)
books_blocks list legal = subst (λ l. All BooksBlock (allocations_in l)) (reverse-reverse list) (books_in (reverse list) legal)

-- ---- the roots that an instruction lists

-- each instruction lists chains that are all different
pub all_apart : (instructions : List Instruction) → is_instructed instructions ≡ true → All (λ i. are_apart i.roots ≡ true) instructions
all_apart [] legal = All-nil (λ i. are_apart i.roots ≡ true)
all_apart (i ∷ earlier) legal =
    let parts : (may_follow earlier i.key i.role i.roots ≡ true) × (is_instructed earlier ≡ true) = and_parts _ _ legal in
    All-cons (λ j. are_apart j.roots ≡ true) i earlier (follows earlier i.key i.role i.roots parts.0).apart (all_apart earlier parts.1)

unfound-any : {X : Type 0} (p : X → Bool) (xs : List X) → find p xs ≡ None → list_any p xs ≡ false
unfound-any p [] none = refl
unfound-any p (x ∷ xs) none =
    elim (cases_Bool (p x)) [
      | inl passes ↦ absurd (clash (rw passes at none))
      | inr fails ↦ rw fails (unfound-any p xs (rw fails at none))
    ]

unnumbered : {X : Type 0} (f : X → ℕ) (found : Option X) → is_none (option_map f found) ≡ true → found ≡ None
unnumbered f None none = refl
unnumbered f (Some x) none = cc

-- the chains that a new instruction lists are named by no live allocation but the one that it refers to
pub free_roots :
    (instructions : List Instruction) (reference : Option AllocKey) (roots : List ExecKey) → list_all (λ root. is_none (other_holder_in instructions reference root)) roots ≡ true
    → All (λ root. list_any (holds_beside instructions reference root) instructions ≡ false) roots
free_roots instructions reference [] free = All-nil _
free_roots instructions reference (root ∷ roots) free =
    let parts : (is_none (other_holder_in instructions reference root) ≡ true) × (list_all (λ r. is_none (other_holder_in instructions reference r)) roots ≡ true) = and_parts _ _ free in
    All-cons (λ r. list_any (holds_beside instructions reference r) instructions ≡ false) root roots
    (unfound-any (holds_beside instructions reference root) instructions (unnumbered (λ i. i.number) _ parts.0)) (free_roots instructions reference roots parts.1)
