-- What one allocation adds to the chains that are named and to the lines that are live: the one that an instruction ends,
-- and the one that it brings.
use Rattle.std.proofs.Common.{◌≡◌, Bool, true, false, ◌&&◌, ◌+ℤ◌, arith, List, [], ◌∷◌, ◌++◌, reverse, Option, Some, None, refl, sym, ap, subst, ◌∙◌, inl, inr, ℤ, ◌||◌, filter, find, is_none, is_some, not, All, option_map}
use Rattle.std.specs.List.{cons_option, list_any}
use Rattle.std.specs.Option.{option_map_or}
use Rattle.std.proofs.lemmas.Bool.{cases_Bool, and_from, and_parts}
use Rattle.std.proofs.lemmas.Int.{ints}
use Rattle.std.proofs.lemmas.List.{reverse-reverse}
use Rattle.std.proofs.lemmas.List.Elements.{All-nil, All-cons, All-head, All-tail}
use Rattle.std.proofs.lemmas.List.Folds.{find-append}
use Rattle.blot_types.specs.declared.{allocation.AllocRole.AllocRole, allocation.Instruction.Instruction, command.Entry.Entry, keys.AllocKey.AllocKey, keys.ExecKey.ExecKey, part.Part.Part}
use Rattle.blot_types.specs.Allocations.{Allocation, allocation_of, instruction_by, instructions_in, instructions_of, live_allocations}
use Rattle.blot_types.specs.Instructions.{is_keyed, alloc_taker_in, brings_allocation, is_allocation_of, is_allocation_in, ends, ended_in, holds_in, named_in, is_reference, holds_beside, reference_of, is_live_key, are_apart, is_instructed}
use Rattle.blot_types.specs.Keys.{is_among, same_alloc, same_exec}
use Rattle.blot_types.specs.Legal.{is_legal, entry_refusal}
use Rattle.blot_types.specs.Order.{total}
use Rattle.blot_types.specs.Position.{moves_of}
use Rattle.blot_types.specs.Survivors.{links_in}
use Rattle.blot_types.proofs.AcceptLemmas.{accepted-instruction, instructed, instructions_of-push}
use Rattle.blot_types.proofs.BookedLemmas.{all_apart, free_roots}
use Rattle.blot_types.proofs.ChainLemmas.{differing}
use Rattle.blot_types.proofs.ChangeLemmas.{is_named_root, allocations_in, allocations-push, named-held}
use Rattle.blot_types.proofs.InstructionLemmas.{Follows, follows, ends-reference}
use Rattle.blot_types.proofs.KeyLemmas.{same_alloc-true, same_alloc-refl, same_exec-true, same_exec-refl}
use Rattle.blot_types.proofs.LawLemmas.{find-none}
use Rattle.blot_types.proofs.LiveLemmas.{turned, IsOfInstruction, of_instruction, IsTaken, all_taken, none_keyed, has_alloc_key, live-more, total-ended}
use Rattle.blot_types.proofs.NamedLemmas.{keyed-live, named-more, named-less}
use Rattle.blot_types.proofs.SumLemmas.{total-append, total-cons}
use Rattle.blot_types.proofs.GeneralLemmas.{and-true, and-false, filter-all, found-All}

-- ---- lists

some-append : {X : Type 0} (p : X → Bool) (xs ys : List X) → is_some (find p xs) ≡ true → is_some (find p (xs ++ ys)) ≡ true
some-append p [] ys some = cc
some-append p (x ∷ xs) ys some =
    elim (cases_Bool (p x)) [
      | inl here ↦ rw here refl
      | inr passed ↦ rw passed (some-append p xs ys (rw passed at some))
    ]

some-last : {X : Type 0} (p : X → Bool) (xs : List X) (x : X) → p x ≡ true → is_some (find p (xs ++ x ∷ [])) ≡ true
some-last p [] x passes = rw passes refl
some-last p (y ∷ xs) x passes =
    elim (cases_Bool (p y)) [
      | inl here ↦ rw here refl
      | inr passed ↦ rw passed (some-last p xs x passes)
    ]

-- what is there
pub present : {X : Type 0} (found : Option X) → is_some found ≡ true → (x : X) × (found ≡ Some x)
present None some = cc
present (Some x) some = (x, refl)

any-some : {X : Type 0} (p q : X → Bool) (xs : List X) → ((x : X) → p x ≡ true → q x ≡ true) → list_any p xs ≡ true → is_some (find q xs) ≡ true
any-some p q [] each any = cc
any-some p q (x ∷ xs) each any =
    elim (cases_Bool (q x)) [
      | inl here ↦ rw here refl
      | inr passed ↦
          elim (cases_Bool (p x)) [
            | inl passes ↦ absurd (differing (each x passes) passed)
            | inr fails ↦ rw passed (any-some p q xs each (rw fails at any))
          ]
    ]

found-any : {X : Type 0} (p q : X → Bool) (xs : List X) (x : X) → find p xs ≡ Some x → q x ≡ true → list_any q xs ≡ true
found-any p q [] x found kept = cc
found-any p q (y ∷ ys) x found kept =
    elim (cases_Bool (q y)) [
      | inl passes ↦ rw passes refl
      | inr fails ↦
          elim (cases_Bool (p y)) [
            | inl here ↦ (let same : Some y ≡ Some x = rw here at found in let one : y ≡ x = cc in absurd (differing (ap q one ∙ kept) fails))
            | inr passed ↦ rw fails (found-any p q ys x (rw passed at found) kept)
          ]
    ]

-- ---- roots

-- what holds of each key that is among roots holds of each root
pub each-root : (f : ExecKey → Bool) (value : Bool) (roots : List ExecKey) → ((root : ExecKey) → is_among roots root ≡ true → f root ≡ value) → All (λ root. f root ≡ value) roots
each-root f value [] holds = All-nil (λ root. f root ≡ value)
each-root f value (root ∷ roots) holds =
    All-cons (λ r. f r ≡ value) root roots (holds root (rw (same_exec-refl root) refl))
    (each-root f value roots (λ r among. holds r (elim (cases_Bool (same_exec root r)) [
      | inl same ↦ rw same refl
      | inr other ↦ rw other among
    ])))

-- and the other way
pub among-root : (f : ExecKey → Bool) (value : Bool) (roots : List ExecKey) (root : ExecKey) → All (λ r. f r ≡ value) roots → is_among roots root ≡ true → f root ≡ value
among-root f value [] root all among = cc
among-root f value (first ∷ roots) root all among =
    elim (cases_Bool (same_exec first root)) [
      | inl same ↦ ap f (sym (same_exec-true first root same)) ∙ All-head (λ r. f r ≡ value) first roots all
      | inr other ↦ among-root f value roots root (All-tail (λ r. f r ≡ value) first roots all) (rw other at among)
    ]

-- ---- what one allocation adds

-- the amounts of the lines of allocations
abbrev pub lines_of : (Part → ℤ) → List Allocation → ℤ
lines_of f allocations = total (λ a. total f (moves_of a.terms)) allocations

-- the allocation of a key of a list: with it the chains that it lists are named too, and its lines are live too
pub record Brings (list : List Entry) (key : AllocKey) (fewer more : ExecKey → Bool) (few many : List Allocation) : Type 0 where
  pub allocation : Allocation
  pub instruction : Instruction
  pub found : find (has_alloc_key key) (allocations_in list) ≡ Some allocation
  pub listed : find (is_keyed key) (instructions_of list) ≡ Some instruction
  pub free : All (λ root. fewer root ≡ false) instruction.roots
  pub apart : are_apart instruction.roots ≡ true
  pub named : (root : ExecKey) → more root ≡ (is_among instruction.roots root || fewer root)
  pub lines : (f : Part → ℤ) → lines_of f many ≡ (total f (moves_of allocation.terms) +ℤ lines_of f few)

-- the same chains are named, and the same lines are live
pub record BringsNothing (fewer more : ExecKey → Bool) (few many : List Allocation) : Type 0 where
  pub named : (root : ExecKey) → more root ≡ fewer root
  pub lines : (f : Part → ℤ) → lines_of f many ≡ lines_of f few

abbrev pub BringsIf : List Entry → Option AllocKey → (ExecKey → Bool) → (ExecKey → Bool) → List Allocation → List Allocation → Type 0
BringsIf list None fewer more few many = BringsNothing fewer more few many
BringsIf list (Some key) fewer more few many = Brings list key fewer more few many

-- without the allocation that an instruction refers to
abbrev pub named_beside : List Entry → Option AllocKey → ExecKey → Bool
named_beside list reference root = list_any (holds_beside (instructions_of list) reference root) (instructions_of list)

abbrev pub live_beside : List Entry → Option AllocKey → List Allocation
live_beside list reference = filter (λ allocation. not (is_reference reference allocation.key)) (live_allocations list)

-- ---- the allocation that an instruction ends

-- where an instruction brings an allocation of a key, the list has it
brought_by :
    (found : Option Instruction) (brought : Option Allocation) (key : AllocKey) (instructions : List Instruction) (allocations : List Allocation)
    → IsOfInstruction found brought → is_allocation_in (cons_option found instructions) key ≡ true
    → (is_allocation_in instructions key ≡ true → is_some (find (has_alloc_key key) allocations) ≡ true)
    → is_some (find (has_alloc_key key) (allocations ++ cons_option brought [])) ≡ true
brought_by None brought key instructions allocations is any before = some-append (has_alloc_key key) allocations (cons_option brought []) (before any)
brought_by (Some i) None key instructions allocations is any before =
    elim (cases_Bool (is_allocation_of key i)) [
      | inl own ↦ absurd (differing (and_parts (is_keyed key i) (brings_allocation i.role) own).1 is)
      | inr other ↦ some-append (has_alloc_key key) allocations [] (before (rw other at any))
    ]
brought_by (Some i) (Some a) key instructions allocations is any before =
    elim (cases_Bool (is_allocation_of key i)) [
      | inl own ↦
          let same : i.key ≡ key = same_alloc-true i.key key (and_parts (is_keyed key i) (brings_allocation i.role) own).0 in
          some-last (has_alloc_key key) allocations a (ap (same_alloc key) (is.0 ∙ same) ∙ same_alloc-refl key)
      | inr other ↦ some-append (has_alloc_key key) allocations (a ∷ []) (before (rw other at any))
    ]

brought_in : (entries : List Entry) (key : AllocKey) → is_allocation_in (instructions_in entries) key ≡ true → is_some (find (has_alloc_key key) (allocations_in (reverse entries))) ≡ true
brought_in [] key any = cc
brought_in (entry ∷ earlier) key any =
    subst (λ all. is_some (find (has_alloc_key key) all) ≡ true) (sym (turned entry earlier))
    (brought_by (instruction_by (links_in earlier) entry.number entry.command) (allocation_of entry.command) key (instructions_in earlier) (allocations_in (reverse earlier))
    (of_instruction (links_in earlier) entry.number entry.command) any (brought_in earlier key))

brought : (list : List Entry) (key : AllocKey) → is_allocation_in (instructions_of list) key ≡ true → is_some (find (has_alloc_key key) (allocations_in list)) ≡ true
brought list key any = subst (λ l. is_some (find (has_alloc_key key) (allocations_in l)) ≡ true) (reverse-reverse list) (brought_in (reverse list) key any)

without-it : (a b : Bool) → (a ≡ true → b ≡ true) → b ≡ (a || (b && not a))
without-it true b holds = holds refl
without-it false b holds = sym (and-true b)

named-live :
    (instructions : List Instruction) (key : AllocKey) (t : Instruction) (root : ExecKey) → is_instructed instructions ≡ true → is_live_key instructions key ≡ true
    → find (is_keyed key) instructions ≡ Some t → is_among t.roots root ≡ true → is_among (named_in instructions) root ≡ true
named-live instructions key t root inside live found among =
    named-held instructions root
    ∙ found-any (is_keyed key) (holds_in instructions root) instructions t found (and_from _ _ (keyed-live instructions key t inside live found) among)

-- the allocation that an instruction refers to is live: with it more chains are named and more lines are live
pub ended-brings :
    (list : List Entry) (reference : Option AllocKey) → is_legal list ≡ true → option_map_or (is_live_key (instructions_of list)) reference true ≡ true
    → BringsIf list reference (named_beside list reference) (is_named_root list) (live_beside list reference) (live_allocations list)
ended-brings list None legal refers = record {
  named = λ root. named-held (instructions_of list) root ∙ (λ k. list_any (λ j. sym (and-true (holds_in (instructions_of list) root j)) k) (instructions_of list));
  lines = λ f. ap (lines_of f) (sym (filter-all (λ a. not false) (live_allocations list) (λ a. refl)));
}
ended-brings list (Some key) legal live =
    let instructions = instructions_of list in
    let inside : is_instructed instructions ≡ true = instructed (reverse list) legal in
    let parts : (is_allocation_in instructions key ≡ true) × (is_none (ended_in instructions key) ≡ true) = and_parts _ _ live in
    let it = present (find (has_alloc_key key) (allocations_in list)) (brought list key parts.0) in
    let by =
    present (find (is_keyed key) instructions)
    (any-some (is_allocation_of key) (is_keyed key) instructions (λ j own. (and_parts (is_keyed key j) (brings_allocation j.role) own).0) parts.0) in
    let t = by.0 in
    let less : (root : ExecKey) → named_beside list (Some key) root ≡ (is_named_root list root && not (is_among t.roots root)) =
    λ root. named-less instructions key t root inside live by.1 in
    let held : (root : ExecKey) → is_among t.roots root ≡ true → is_named_root list root ≡ true =
    λ root among. named-live instructions key t root inside live by.1 among in
    record {
      allocation = it.0;
      instruction = t;
      found = it.1;
      listed = by.1;
      free = each-root (named_beside list (Some key)) false t.roots (λ root among. less root ∙ ap (λ b. is_named_root list root && not b) among ∙ and-false (is_named_root list root));
      apart = found-All (λ i. are_apart i.roots ≡ true) (is_keyed key) instructions t (all_apart instructions inside) by.1;
      named = λ root.
          without-it (is_among t.roots root) (is_named_root list root) (held root) ∙ ap (λ b. is_among t.roots root || b) (sym (less root));
      lines = λ f.
          (let split = total-ended (λ a. total f (moves_of a.terms)) list key legal live in
          let one : total (λ a. total f (moves_of a.terms)) (cons_option (find (has_alloc_key key) (allocations_in list)) []) ≡ lines_of f (it.0 ∷ []) = ap (λ o. lines_of f (cons_option o [])) it.1 in
          let sum = total-cons (λ (a : Allocation). total f (moves_of a.terms)) it.0 [] in
          omega (arith, ints, split, one, sum));
    }

-- ---- the allocation that it brings

beside-same :
    (list : List Entry) (role : AllocRole) (root : ExecKey)
    → list_any (λ j. holds_in (instructions_of list) root j && not (ends j.key role)) (instructions_of list) ≡ named_beside list (reference_of role) root
beside-same list role root k = list_any (λ j. holds_in (instructions_of list) root j && not (ends-reference j.key role k)) (instructions_of list)

live-same : (list : List Entry) (role : AllocRole) → filter (λ a. not (ends a.key role)) (live_allocations list) ≡ live_beside list (reference_of role)
live-same list role k = filter (λ a. not (ends-reference a.key role k)) (live_allocations list)

abbrev brought_key : Option Allocation → Option AllocKey
brought_key found = option_map (λ allocation. allocation.key) found

one_more : (f : Part → ℤ) (few : List Allocation) (a : Allocation) → lines_of f (few ++ a ∷ []) ≡ (total f (moves_of a.terms) +ℤ lines_of f few)
one_more f few a =
    let split = total-append (λ (b : Allocation). total f (moves_of b.terms)) few (a ∷ []) in
    let one = total-cons (λ (b : Allocation). total f (moves_of b.terms)) a [] in
    omega (arith, ints, split, one)

brings_by :
    (list after : List Entry) (i : Instruction) (brought : Option Allocation) → IsOfInstruction (Some i) brought → is_instructed (instructions_of list) ≡ true
    → Follows (instructions_of list) i.key i.role i.roots → instructions_of after ≡ i ∷ instructions_of list
    → allocations_in after ≡ allocations_in list ++ cons_option brought []
    → live_allocations after ≡ live_beside list (reference_of i.role) ++ cons_option brought []
    → All (IsTaken (instructions_of list)) (allocations_in list)
    → BringsIf after (brought_key brought) (named_beside list (reference_of i.role)) (is_named_root after) (live_beside list (reference_of i.role)) (live_allocations after)
brings_by list after i None is inside it instructions allocations live taken = record {
  named = λ root.
      ap (λ all. is_among (named_in all) root) instructions ∙ named-more (instructions_of list) i root inside it
      ∙ ap (λ b. (b && is_among i.roots root) || list_any (λ j. holds_in (instructions_of list) root j && not (ends j.key i.role)) (instructions_of list)) is
      ∙ beside-same list i.role root;
  lines = λ f.
      (let all = ap (lines_of f) live in
      let split = total-append (λ (b : Allocation). total f (moves_of b.terms)) (live_beside list (reference_of i.role)) [] in
      omega (arith, ints, all, split));
}
brings_by list after i (Some a) is inside it instructions allocations live taken =
    let p = has_alloc_key a.key in
    let none : find p (allocations_in list) ≡ None =
    find-none p (allocations_in list) (none_keyed (instructions_of list) a.key (allocations_in list) (ap (alloc_taker_in (instructions_of list)) is.0 ∙ it.fresh) taken) in
    let own : p a ≡ true = same_alloc-refl a.key in
    let keyed : is_keyed a.key i ≡ true = ap (same_alloc i.key) is.0 ∙ same_alloc-refl i.key in
    record {
      allocation = a;
      instruction = i;
      found = ap (find p) allocations ∙ find-append p (allocations_in list) (a ∷ []) ∙ rw (none, own) refl;
      listed = ap (find (is_keyed a.key)) instructions ∙ rw keyed refl;
      free = free_roots (instructions_of list) (reference_of i.role) i.roots it.unnamed;
      apart = it.apart;
      named = λ root.
          ap (λ all. is_among (named_in all) root) instructions ∙ named-more (instructions_of list) i root inside it
          ∙ ap (λ b. (b && is_among i.roots root) || list_any (λ j. holds_in (instructions_of list) root j && not (ends j.key i.role)) (instructions_of list)) is.1
          ∙ ap (λ b. is_among i.roots root || b) (beside-same list i.role root);
      lines = λ f. ap (lines_of f) live ∙ one_more f (live_beside list (reference_of i.role)) a;
    }

-- an accepted instruction: what it brings
pub brought-brings :
    (list : List Entry) (entry : Entry) (i : Instruction) → is_legal list ≡ true → entry_refusal list entry.command ≡ None
    → instruction_by (links_in (reverse list)) entry.number entry.command ≡ Some i
    → BringsIf (list ++ entry ∷ []) (option_map (λ allocation. allocation.key) (allocation_of entry.command)) (named_beside list (reference_of i.role)) (is_named_root (list ++ entry ∷ []))
    (live_beside list (reference_of i.role)) (live_allocations (list ++ entry ∷ []))
brought-brings list entry i legal accepted is =
    brings_by list (list ++ entry ∷ []) i (allocation_of entry.command)
    (subst (λ found. IsOfInstruction found (allocation_of entry.command)) is (of_instruction (links_in (reverse list)) entry.number entry.command))
    (instructed (reverse list) legal) (follows (instructions_of list) i.key i.role i.roots (accepted-instruction (reverse list) entry i accepted is))
    (instructions_of-push list entry ∙ ap (λ found. cons_option found (instructions_of list)) is) (allocations-push list entry)
    (live-more list entry i legal accepted is ∙ ap (λ few. few ++ cons_option (allocation_of entry.command) []) (live-same list i.role))
    (subst (λ l. All (IsTaken (instructions_of list)) (allocations_in l)) (reverse-reverse list) (all_taken (reverse list)))
