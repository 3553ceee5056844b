-- A book with an entry of an allocation in the middle, and the book without it: what is live without the allocation that
-- the entry ended and without the one that it brought, and what each of these adds.
use Rattle.std.proofs.Common.{◌≡◌, ℕ, ◌+◌, Bool, true, false, ◌&&◌, ◌+ℤ◌, arith, List, [], ◌∷◌, ◌++◌, length, reverse, Option, Some, None, refl, sym, ap, subst, ◌∙◌, inl, inr, ℤ, ◌||◌, filter, find, is_none, not, All, option_map}
use Rattle.std.specs.List.{cons_option, list_any}
use Rattle.std.specs.Option.{option_map_or}
use Rattle.std.proofs.lemmas.Bool.{cases_Bool, and_from, and_parts}
use Rattle.std.proofs.lemmas.Int.{ints}
use Rattle.std.proofs.lemmas.List.{reverse-append, reverse-reverse}
use Rattle.std.proofs.lemmas.List.Elements.{All-head, All-tail, All-weaker, filter_map-append}
use Rattle.blot_types.specs.declared.allocation.AllocRole.TheVariants.{Allocates, Replaces, Cancels}
use Rattle.blot_types.specs.declared.{allocation.Instruction.Instruction, command.Command.Command, command.Entry.Entry, keys.AllocKey.AllocKey, keys.ExecKey.ExecKey, link.Link.Link, refused.Refused.TheVariants.UnknownExec}
use Rattle.blot_types.specs.declared.command.Command.TheVariants.{Trade, Correct, Bust, AllocNew, AllocReplace, AllocCancel, Withdraw}
use Rattle.blot_types.specs.Allocations.{Allocation, allocation_of, instruction_by, instructions_in, instructions_of, live_allocations, roots_of_terms}
use Rattle.blot_types.specs.Chains.{root_in, is_chained}
use Rattle.blot_types.specs.Instructions.{is_keyed, alloc_taker_in, brings_allocation, is_allocation_of, is_allocation_in, ends, ended_in, is_live_in, names, holds_in, named_in, is_reference, holds_beside, reference_of, is_live_key, is_instructed}
use Rattle.blot_types.specs.Keys.{is_among, same_alloc}
use Rattle.blot_types.specs.Legal.{refusal_in, legal_in, is_legal, is_book}
use Rattle.blot_types.specs.Order.{total}
use Rattle.blot_types.specs.Position.{moves_of}
use Rattle.blot_types.specs.Refusals.{alloc_reference, exec_references, listed_by, withdrawn_by}
use Rattle.blot_types.specs.Survivors.{link_by, link_of, links_in, links_of, stands_in, version_of, versions_of, survivors}
use Rattle.blot_types.proofs.AcceptLemmas.{accepted-instruction, unmapped, instructed}
use Rattle.blot_types.proofs.AcceptOutLemmas.{accepts, unfound, listed}
use Rattle.blot_types.proofs.AllocOutLemmas.{alloc-key-out, ends-other, ended-alone}
use Rattle.blot_types.proofs.AllocStepLemmas.{GoneAlloc, same-links, laters, by-laters, whole-is, whole-instructed}
use Rattle.blot_types.proofs.ApartLemmas.{IsBook, book_of, read-with, read-without}
use Rattle.blot_types.proofs.BringLemmas.{lines_of, BringsIf, named_beside, live_beside, ended-brings, each-root}
use Rattle.blot_types.proofs.BustLemmas.{reverse-middle}
use Rattle.blot_types.proofs.ChainLemmas.{clash}
use Rattle.blot_types.proofs.ChainOutLemmas.{root-older}
use Rattle.blot_types.proofs.ChangeLemmas.{is_named_root, allocations_in, named-held}
use Rattle.blot_types.proofs.CorrectLemmas.{front-legal}
use Rattle.blot_types.proofs.EntryLemmas.{chained-links, version-unlinked}
use Rattle.blot_types.proofs.InstructionLemmas.{Follows, follows, ends-reference, swap, named_once, unended}
use Rattle.blot_types.proofs.KeyLemmas.{same_alloc-true, same_alloc-refl, same_alloc-sym}
use Rattle.blot_types.proofs.LinkOutLemmas.{links-rest, same-instruction}
use Rattle.blot_types.proofs.LiveLemmas.{IsOfInstruction, of_instruction, IsTaken, all_taken, none_keyed, has_alloc_key, filter-same, unended-step, own-key}
use Rattle.blot_types.proofs.NamedLemmas.{any-length}
use Rattle.blot_types.proofs.SumLemmas.{total-cons}
use Rattle.blot_types.proofs.SurvivorLemmas.{filter-and}
use Rattle.blot_types.proofs.VersionLemmas.{find-skip}
use Rattle.blot_types.proofs.GeneralLemmas.{and-true, any-same}

-- ---- lists with an item in the middle

any-middle : {A : Type 0} (p : A → Bool) (xs ys : List A) (y : A) → list_any p (xs ++ y ∷ ys) ≡ (p y || list_any p (xs ++ ys))
any-middle p [] ys y = refl
any-middle p (x ∷ xs) ys y =
    elim (cases_Bool (p x)) [
      | inl here ↦ rw here (sym (or-true (p y)))
      | inr passed ↦ rw passed (any-middle p xs ys y)
    ]
  where
    or-true : (b : Bool) → (b || true) ≡ true
    or-true true = refl
    or-true false = refl

length-middle : {A : Type 0} (p : A → Bool) (xs ys : List A) (y : A) → p y ≡ true → length (filter p (xs ++ y ∷ ys)) ≡ length (filter p (xs ++ ys)) + 1
length-middle p [] ys y passes = rw passes (omega arith)
length-middle p (x ∷ xs) ys y passes =
    let rest = length-middle p xs ys y passes in
    elim (cases_Bool (p x)) [
      | inl here ↦ rw here (omega (arith, rest))
      | inr other ↦ rw other rest
    ]

total-middle : {A : Type 0} (g : A → ℤ) (p : A → Bool) (xs ys : List A) (y : A) → p y ≡ true → total g (filter p (xs ++ y ∷ ys)) ≡ (g y +ℤ total g (filter p (xs ++ ys)))
total-middle g p [] ys y passes = rw passes (total-cons g y (filter p ys))
total-middle g p (x ∷ xs) ys y passes =
    let rest = total-middle g p xs ys y passes in
    elim (cases_Bool (p x)) [
      | inl here ↦
          let whole = total-cons g x (filter p (xs ++ y ∷ ys)) in
          let less = total-cons g x (filter p (xs ++ ys)) in
          rw here (omega (arith, ints, rest, whole, less))
      | inr other ↦ rw other rest
    ]

find-own : {A : Type 0} (p : A → Bool) (xs ys : List A) (y : A) → All (λ x. p x ≡ false) (xs ++ ys) → p y ≡ true → find p (xs ++ y ∷ ys) ≡ Some y
find-own p [] ys y none passes = rw passes refl
find-own p (x ∷ xs) ys y none passes = rw (All-head (λ z. p z ≡ false) x (xs ++ ys) none) (find-own p xs ys y (All-tail (λ z. p z ≡ false) x (xs ++ ys) none) passes)

any-later : {A : Type 0} (p : A → Bool) (xs ys : List A) → list_any p ys ≡ true → list_any p (xs ++ ys) ≡ true
any-later p [] ys some = some
any-later p (x ∷ xs) ys some =
    elim (cases_Bool (p x)) [
      | inl here ↦ rw here refl
      | inr passed ↦ rw passed (any-later p xs ys some)
    ]

-- ---- instructions with one of them in the middle

-- what is ended: what the others ended, and what it ended
unended-middle : (later front : List Instruction) (i : Instruction) (key : AllocKey) → is_none (ended_in (later ++ i ∷ front) key) ≡ (is_none (ended_in (later ++ front) key) && not (ends key i.role))
unended-middle [] front i key = unended-step i front key
unended-middle (j ∷ later) front i key =
    elim (cases_Bool (ends key j.role)) [
      | inl ended ↦ rw ended refl
      | inr other ↦ rw other (unended-middle later front i key)
    ]

-- tests in a row
and-assoc : (a b c : Bool) → (a && (b && c)) ≡ ((a && b) && c)
and-assoc true b c = refl
and-assoc false b c = refl

-- so what is live and names a chain with it, does so without it and isn't what it refers to
holds-middle : (later front : List Instruction) (i : Instruction) (root : ExecKey) (j : Instruction) → holds_in (later ++ i ∷ front) root j ≡ holds_beside (later ++ front) (reference_of i.role) root j
holds-middle later front i root j =
    ap (λ b. (brings_allocation j.role && b) && names root j) (unended-middle later front i j.key)
    ∙ ap (λ b. b && names root j) (and-assoc (brings_allocation j.role) (is_none (ended_in (later ++ front) j.key)) (not (ends j.key i.role)))
    ∙ swap (is_live_in (later ++ front) j) (not (ends j.key i.role)) (names root j)
    ∙ ap (λ test. holds_in (later ++ front) root j && not test) (ends-reference j.key i.role)

-- instructions of legal entries with one in the middle, and without it
record IsBetween (later front : List Instruction) (i : Instruction) : Type 0 where
  whole : is_instructed (later ++ i ∷ front) ≡ true
  out : is_instructed (later ++ front) ≡ true
  follows_them : Follows front i.key i.role i.roots

-- nothing ended its allocation
own-unended : (later front : List Instruction) (i : Instruction) → IsBetween later front i → is_none (ended_in (later ++ i ∷ front) i.key) ≡ true
own-unended later front i it =
    let others : is_none (ended_in (later ++ front) i.key) ≡ true = ap is_none (unended (later ++ front) i.key it.out (alloc-key-out later front i it.whole)) in
    let own : not (ends i.key i.role) ≡ true = ap not (ends-other later front i it.whole) in
    unended-middle later front i i.key ∙ and_from _ _ others own

-- the chains that are named with it: its own, if it brings an allocation, and those of the allocations that it doesn't end
named-middle :
    (later front : List Instruction) (i : Instruction) (root : ExecKey) → IsBetween later front i
    → is_among (named_in (later ++ i ∷ front)) root
    ≡ ((brings_allocation i.role && is_among i.roots root) || list_any (holds_beside (later ++ front) (reference_of i.role) root) (later ++ front))
named-middle later front i root it =
    named-held (later ++ i ∷ front) root
    ∙ any-middle (holds_in (later ++ i ∷ front) root) later front i
    ∙ ap (λ b. ((brings_allocation i.role && b) && names root i) || list_any (holds_in (later ++ i ∷ front) root) (later ++ front)) (own-unended later front i it)
    ∙ ap (λ b. (b && names root i) || list_any (holds_in (later ++ i ∷ front) root) (later ++ front)) (and-true (brings_allocation i.role))
    ∙ ap (λ rest. (brings_allocation i.role && names root i) || rest)
    (any-same (holds_in (later ++ i ∷ front) root) (holds_beside (later ++ front) (reference_of i.role) root) (later ++ front) (holds-middle later front i root))

-- its own chains are named by no other live allocation but the one that it refers to
free-middle :
    (later front : List Instruction) (i : Instruction) → IsBetween later front i → brings_allocation i.role ≡ true
    → All (λ root. list_any (holds_beside (later ++ front) (reference_of i.role) root) (later ++ front) ≡ false) i.roots
free-middle later front i it brings =
    let whole = later ++ i ∷ front in
    let rest = later ++ front in
    let beside : ExecKey → Bool = λ root. list_any (holds_beside rest (reference_of i.role) root) rest in
    each-root beside false i.roots (λ root among.
    let held : holds_in whole root i ≡ true = and_from _ _ (and_from _ _ brings (own-unended later front i it)) among in
    elim (cases_Bool (beside root)) [
      | inl another ↦
          let same : list_any (holds_in whole root) rest ≡ true =
          any-same (holds_in whole root) (holds_beside rest (reference_of i.role) root) rest (holds-middle later front i root) ∙ another in
          absurd (omega (arith, any-length (holds_in whole root) rest same, length-middle (holds_in whole root) later front i held, named_once whole it.whole root))
      | inr none ↦ none
    ])

-- what it refers to is live without it
referred-by :
    (later front : List Instruction) (i : Instruction) (found : Option AllocKey) → is_instructed (later ++ i ∷ front) ≡ true
    → ((key : AllocKey) → found ≡ Some key → ends key i.role ≡ true) → option_map_or (is_live_key front) found true ≡ true
    → option_map_or (is_live_key (later ++ front)) found true ≡ true
referred-by later front i None whole ended live = refl
referred-by later front i (Some key) whole ended live =
    let parts : (is_allocation_in front key ≡ true) × (is_none (ended_in front key) ≡ true) = and_parts _ _ live in
    and_from _ _ (any-later (is_allocation_of key) later front parts.0) (ap is_none (ended-alone later front i key whole (ended key refl)))

refers-middle : (later front : List Instruction) (i : Instruction) → IsBetween later front i → option_map_or (is_live_key (later ++ front)) (reference_of i.role) true ≡ true
refers-middle later front i it =
    referred-by later front i (reference_of i.role) it.whole
    (λ key is. ends-reference key i.role ∙ ap (λ found. is_reference found key) is ∙ same_alloc-refl key) it.follows_them.refers

-- ---- lists of entries

-- two lists, one with an entry of an allocation in the middle: their instructions and their allocations
record IsMiddle (list rest : List Entry) (i : Instruction) (brought : Option Allocation) : Type 0 where
  later : List Instruction
  earlier : List Instruction
  with_it : instructions_of list ≡ later ++ i ∷ earlier
  without_it : instructions_of rest ≡ later ++ earlier
  between : IsBetween later earlier i
  before : List Allocation
  after : List Allocation
  brings_it : allocations_in list ≡ before ++ cons_option brought after
  brings_others : allocations_in rest ≡ before ++ after
  of_it : IsOfInstruction (Some i) brought
  taken : All (IsTaken (instructions_of rest)) (allocations_in rest)
  legal : is_legal rest ≡ true

-- none of the others takes up its key
fresh-middle : (list rest : List Entry) (i : Instruction) (brought : Option Allocation) → IsMiddle list rest i brought → alloc_taker_in (instructions_of rest) i.key ≡ None
fresh-middle list rest i brought it = ap (λ all. alloc_taker_in all i.key) it.without_it ∙ alloc-key-out it.later it.earlier i it.between.whole

-- an item in the middle that isn't looked for isn't found
find-option : {A : Type 0} (p : A → Bool) (xs ys : List A) (found : Option A) → ((x : A) → found ≡ Some x → p x ≡ false) → find p (xs ++ cons_option found ys) ≡ find p (xs ++ ys)
find-option p xs ys None other = refl
find-option p xs ys (Some x) other = sym (find-skip p xs ys x (other x refl))

-- what the others bring is there beside what it brings
brings-middle :
    (list rest : List Entry) (i : Instruction) (brought : Option Allocation) (reference : Option AllocKey) (fewer more : ExecKey → Bool) (few many : List Allocation) → IsMiddle list rest i brought
    → BringsIf rest reference fewer more few many → BringsIf list reference fewer more few many
brings-middle list rest i brought None fewer more few many it brings = brings
brings-middle list rest i brought (Some key) fewer more few many it brings =
    let p = has_alloc_key key in
    let fresh = fresh-middle list rest i brought it in
    let other : is_keyed key i ≡ false =
    elim (cases_Bool (is_keyed key i)) [
      | inl here ↦
          let none : option_map (λ (j : Instruction). j.number) (find (is_keyed key) (instructions_of rest)) ≡ None = ap (alloc_taker_in (instructions_of rest)) (sym (same_alloc-true i.key key here)) ∙ fresh in
          absurd (clash (rw brings.listed at none))
      | inr apart ↦ apart
    ] in
    record {
      allocation = brings.allocation;
      instruction = brings.instruction;
      found = ap (find p) it.brings_it
          ∙ find-option p it.before it.after brought (λ a is. ap (same_alloc key) (own-key i brought it.of_it a is) ∙ same_alloc-sym key i.key ∙ other)
          ∙ ap (find p) (sym it.brings_others) ∙ brings.found;
      listed = ap (find (is_keyed key)) it.with_it ∙ sym (find-skip (is_keyed key) it.later it.earlier i other) ∙ ap (find (is_keyed key)) (sym it.without_it) ∙ brings.listed;
      free = brings.free;
      apart = brings.apart;
      named = brings.named;
      lines = brings.lines;
    }

-- what it ended
ended-middle :
    (list rest : List Entry) (i : Instruction) (brought : Option Allocation) → IsMiddle list rest i brought
    → BringsIf list (reference_of i.role) (named_beside rest (reference_of i.role)) (is_named_root rest) (live_beside rest (reference_of i.role)) (live_allocations rest)
ended-middle list rest i brought it =
    let reference = reference_of i.role in
    brings-middle list rest i brought reference (named_beside rest reference) (is_named_root rest) (live_beside rest reference) (live_allocations rest) it
    (ended-brings rest reference it.legal (ap (λ all. option_map_or (is_live_key all) reference true) it.without_it ∙ refers-middle it.later it.earlier i it.between))

-- what it brought: the chains that are named with it, and the allocations that are live
named-with :
    (list rest : List Entry) (i : Instruction) (brought : Option Allocation) (root : ExecKey) → IsMiddle list rest i brought
    → is_named_root list root ≡ ((brings_allocation i.role && is_among i.roots root) || named_beside rest (reference_of i.role) root)
named-with list rest i brought root it =
    ap (λ all. is_among (named_in all) root) it.with_it ∙ named-middle it.later it.earlier i root it.between
    ∙ ap (λ all. (brings_allocation i.role && is_among i.roots root) || list_any (holds_beside all (reference_of i.role) root) all) (sym it.without_it)

-- whether none of the instructions ended an allocation
abbrev unended_by : List Instruction → Allocation → Bool
unended_by instructions allocation = is_none (ended_in instructions allocation.key)

live-with : (list rest : List Entry) (i : Instruction) (brought : Option Allocation) (it : IsMiddle list rest i brought) → live_allocations list ≡ filter (unended_by (it.later ++ i ∷ it.earlier)) (it.before ++ cons_option brought it.after)
live-with list rest i brought it = λ k. filter (unended_by (it.with_it k)) (it.brings_it k)

live-others : (list rest : List Entry) (i : Instruction) (brought : Option Allocation) (it : IsMiddle list rest i brought) → filter (unended_by (it.later ++ i ∷ it.earlier)) (it.before ++ it.after) ≡ live_beside rest (reference_of i.role)
live-others list rest i brought it =
    let others = it.later ++ it.earlier in
    let stays : Allocation → Bool = λ a. not (is_reference (reference_of i.role) a.key) in
    filter-same (unended_by (it.later ++ i ∷ it.earlier)) (λ a. unended_by others a && stays a) (it.before ++ it.after)
    (λ a. unended-middle it.later it.earlier i a.key ∙ ap (λ test. unended_by others a && not test) (ends-reference a.key i.role))
    ∙ filter-and (unended_by others) stays (it.before ++ it.after)
    ∙ (λ k. filter stays (filter (unended_by (sym it.without_it k)) (sym it.brings_others k)))

brought-middle :
    (list rest : List Entry) (i : Instruction) (brought : Option Allocation) → IsMiddle list rest i brought
    → BringsIf list (option_map (λ allocation. allocation.key) brought) (named_beside rest (reference_of i.role)) (is_named_root list) (live_beside rest (reference_of i.role)) (live_allocations list)
brought-middle list rest i None it = record {
  named = λ root.
      named-with list rest i None root it ∙ ap (λ b. (b && is_among i.roots root) || named_beside rest (reference_of i.role) root) it.of_it;
  lines = λ f. ap (lines_of f) (live-with list rest i None it ∙ live-others list rest i None it);
}
brought-middle list rest i (Some a) it =
    let reference = reference_of i.role in
    let fresh = fresh-middle list rest i (Some a) it in
    let others = it.later ++ it.earlier in
    let none : All (λ b. has_alloc_key a.key b ≡ false) (it.before ++ it.after) =
    subst (All (λ b. has_alloc_key a.key b ≡ false)) it.brings_others
    (none_keyed (instructions_of rest) a.key (allocations_in rest) (ap (alloc_taker_in (instructions_of rest)) it.of_it.0 ∙ fresh) it.taken) in
    let unkeyed : All (λ (j : Instruction). is_keyed a.key j ≡ false) others =
    unfound (is_keyed a.key) others (unmapped (λ (j : Instruction). j.number) _ (ap (alloc_taker_in others) it.of_it.0 ∙ alloc-key-out it.later it.earlier i it.between.whole)) in
    let own : is_keyed a.key i ≡ true = ap (same_alloc i.key) it.of_it.0 ∙ same_alloc-refl i.key in
    let stands : unended_by (it.later ++ i ∷ it.earlier) a ≡ true = ap (λ key. is_none (ended_in (it.later ++ i ∷ it.earlier) key)) it.of_it.0 ∙ own-unended it.later it.earlier i it.between in
    record {
      allocation = a;
      instruction = i;
      found = ap (find (has_alloc_key a.key)) it.brings_it ∙ find-own (has_alloc_key a.key) it.before it.after a none (same_alloc-refl a.key);
      listed = ap (find (is_keyed a.key)) it.with_it ∙ find-own (is_keyed a.key) it.later it.earlier i unkeyed own;
      free = subst (λ all. All (λ root. list_any (holds_beside all reference root) all ≡ false) i.roots) (sym it.without_it) (free-middle it.later it.earlier i it.between it.of_it.1);
      apart = it.between.follows_them.apart;
      named = λ root. named-with list rest i (Some a) root it ∙ ap (λ b. (b && is_among i.roots root) || named_beside rest reference root) it.of_it.1;
      lines = λ f.
          ap (lines_of f) (live-with list rest i (Some a) it)
          ∙ total-middle (λ (b : Allocation). total f (moves_of b.terms)) (unended_by (it.later ++ i ∷ it.earlier)) it.before it.after a stands
          ∙ ap (λ few. total f (moves_of a.terms) +ℤ lines_of f few) (live-others list rest i (Some a) it);
    }

-- ---- the entry

-- what an entry is that is no link and takes none out
record Instructs (links : List Link) (number : ℕ) (command : Command) : Type 0 where
  instruction : Instruction
  is : instruction_by links number command ≡ Some instruction
  refers : reference_of instruction.role ≡ alloc_reference command

instructs : (links : List Link) (number : ℕ) (command : Command) → link_by number command ≡ None → withdrawn_by command ≡ None → Instructs links number command
instructs links number (Trade trade) none stays = cc
instructs links number (Correct correct) none stays = cc
instructs links number (Bust bust) none stays = cc
instructs links number (AllocNew new) none stays = record {
  instruction = record { number = number; key = new.key; role = Allocates; roots = roots_of_terms links new.terms };
  is = refl;
  refers = refl;
}
instructs links number (AllocReplace replace) none stays = record {
  instruction = record { number = number; key = replace.key; role = Replaces replace.reference; roots = roots_of_terms links replace.terms };
  is = refl;
  refers = refl;
}
instructs links number (AllocCancel cancel) none stays = record {
  instruction = record { number = number; key = cancel.key; role = Cancels cancel.reference; roots = [] };
  is = refl;
  refers = refl;
}
instructs links number (Withdraw withdrawn) none stays = cc

-- it names the same chains among all links as among those before it
root-stays : (later front : List Link) (key : ExecKey) (found : Option ExecKey) → is_chained (later ++ front) ≡ true → root_in front key ≡ found → is_none found ≡ false → root_in (later ++ front) key ≡ root_in front key
root-stays later front key None chained is some = cc
root-stays later front key (Some root) chained is some = root-older later front key root chained is ∙ sym is

instruction-stays :
    (later front : List Entry) (number : ℕ) (command : Command) → legal_in (later ++ front) ≡ true → refusal_in front command ≡ None
    → instruction_by (links_in (later ++ front)) number command ≡ instruction_by (links_in front) number command
instruction-stays later front number command legal accepted =
    let some = unfound (λ key. is_none (root_in (links_in front) key)) (exec_references command) (unmapped UnknownExec _ (accepts front command accepted).rooted) in
    let chained : is_chained (links_in later ++ links_in front) ≡ true = ap is_chained (sym (links-rest later front)) ∙ chained-links (later ++ front) legal in
    same-instruction (links_in front) (links_in (later ++ front)) number command
    (All-weaker (λ key. is_none (root_in (links_in front) key) ≡ false) (λ key. root_in (links_in (later ++ front)) key ≡ root_in (links_in front) key)
    (λ key rooted. ap (λ links. root_in links key) (links-rest later front) ∙ root-stays (links_in later) (links_in front) key (root_in (links_in front) key) chained refl rooted)
    (listed_by command) (listed (λ key. is_none (root_in (links_in front) key) ≡ false) command some))

-- ---- the theorem

-- two books, one with an entry of an allocation and one without it. Without the allocation that the entry ended and the one
-- that it brought, the same chains are named and the same allocations are live in both: with the one that it ended they are
-- those of the book without it, with the one that it brought those of the book with it. The executions are the same; the
-- instructions and the allocations are split at the entry
pub record InstructionApart (list rest : List Entry) (entry : Entry) : Type 0 where
  pub ended :
      BringsIf list (alloc_reference entry.command) (named_beside rest (alloc_reference entry.command)) (is_named_root rest)
      (live_beside rest (alloc_reference entry.command)) (live_allocations rest)
  pub brought :
      BringsIf list (option_map (λ allocation. allocation.key) (allocation_of entry.command)) (named_beside rest (alloc_reference entry.command)) (is_named_root list)
      (live_beside rest (alloc_reference entry.command)) (live_allocations list)
  pub links : links_of list ≡ links_of rest
  pub versions : versions_of list ≡ versions_of rest
  pub survivors_are : survivors list ≡ survivors rest
  pub later : List Instruction
  pub instruction : Instruction
  pub earlier : List Instruction
  pub instruction_is : instruction_by (links_of list) entry.number entry.command ≡ Some instruction
  pub refers : reference_of instruction.role ≡ alloc_reference entry.command
  pub instructions_are : instructions_of list ≡ later ++ instruction ∷ earlier
  pub rest_instructions_are : instructions_of rest ≡ later ++ earlier
  pub before : List Allocation
  pub after : List Allocation
  pub allocations_are : allocations_in list ≡ before ++ cons_option (allocation_of entry.command) after
  pub rest_allocations_are : allocations_in rest ≡ before ++ after

-- the lists, split at the entry
middle :
    (front back : List Entry) (entry : Entry) (i : Instruction) → link_of entry ≡ None → instruction_by (links_in (reverse front)) entry.number entry.command ≡ Some i
    → IsBook (front ++ entry ∷ back) → IsBook (front ++ back) → IsMiddle (front ++ entry ∷ back) (front ++ back) i (allocation_of entry.command)
middle front back entry i none is book out =
    let later = reverse back in
    let earlier = reverse front in
    let rest = front ++ back in
    let whole : reverse (front ++ entry ∷ back) ≡ later ++ entry ∷ earlier = reverse-middle front back entry in
    let turned : reverse rest ≡ later ++ earlier = reverse-append front back in
    let gone : GoneAlloc later earlier entry i = record {
      unlinked = none;
      instruction = is;
      legal = ap legal_in (sym whole) ∙ book.legal;
      out = ap legal_in (sym turned) ∙ out.legal;
    } in
    let without_it : instructions_of rest ≡ laters later earlier ++ instructions_in earlier = ap instructions_in turned ∙ by-laters later earlier in
    record {
      later = laters later earlier;
      earlier = instructions_in earlier;
      with_it = ap instructions_in whole ∙ whole-is later earlier entry i gone;
      without_it = without_it;
      between = record {
        whole = whole-instructed later earlier entry i gone;
        out = ap is_instructed (sym without_it) ∙ instructed (reverse rest) out.legal;
        follows_them = follows (instructions_in earlier) i.key i.role i.roots (accepted-instruction earlier entry i (front-legal entry later earlier gone.legal).0 is);
      };
      before = allocations_in front;
      after = allocations_in back;
      brings_it = read-with (λ e. allocation_of e.command) front back entry;
      brings_others = filter_map-append (λ e. allocation_of e.command) front back;
      of_it = subst (λ found. IsOfInstruction found (allocation_of entry.command)) is (of_instruction (links_in earlier) entry.number entry.command);
      taken = subst (λ l. All (IsTaken (instructions_of rest)) (allocations_in l)) (reverse-reverse rest) (all_taken (reverse rest));
      legal = out.legal;
    }

pub instruction-apart :
    (front back : List Entry) (entry : Entry) → link_of entry ≡ None → withdrawn_by entry.command ≡ None → is_book (front ++ entry ∷ back) ≡ true → is_book (front ++ back) ≡ true
    → InstructionApart (front ++ entry ∷ back) (front ++ back) entry
instruction-apart front back entry none stays whole_book rest_book =
    let later = reverse back in
    let earlier = reverse front in
    let list = front ++ entry ∷ back in
    let rest = front ++ back in
    let book = book_of list whole_book in
    let out = book_of rest rest_book in
    let one = instructs (links_in earlier) entry.number entry.command none stays in
    let i = one.instruction in
    let it = middle front back entry i none one.is book out in
    let whole : reverse list ≡ later ++ entry ∷ earlier = reverse-middle front back entry in
    let turned : reverse rest ≡ later ++ earlier = reverse-append front back in
    let accepted = (front-legal entry later earlier (ap legal_in (sym whole) ∙ book.legal)).0 in
    let links : links_of list ≡ links_of rest = ap links_in whole ∙ sym (same-links later earlier entry none) ∙ ap links_in (sym turned) in
    let versions : versions_of list ≡ versions_of rest = read-without version_of front back entry (version-unlinked entry none) in
    record {
      ended = subst (λ reference. BringsIf list reference (named_beside rest reference) (is_named_root rest) (live_beside rest reference) (live_allocations rest)) one.refers
          (ended-middle list rest i (allocation_of entry.command) it);
      brought = subst (λ reference. BringsIf list (option_map (λ allocation. allocation.key) (allocation_of entry.command)) (named_beside rest reference) (is_named_root list) (live_beside rest reference) (live_allocations list)) one.refers
          (brought-middle list rest i (allocation_of entry.command) it);
      links = links;
      versions = versions;
      survivors_are = λ k. filter (stands_in (links k)) (versions k);
      later = it.later;
      instruction = i;
      earlier = it.earlier;
      instruction_is = ap (λ ls. instruction_by ls entry.number entry.command) (links ∙ ap links_in turned)
          ∙ instruction-stays later earlier entry.number entry.command (ap legal_in (sym turned) ∙ out.legal) accepted ∙ one.is;
      refers = one.refers;
      instructions_are = it.with_it;
      rest_instructions_are = it.without_it;
      before = it.before;
      after = it.after;
      allocations_are = it.brings_it;
      rest_allocations_are = it.brings_others;
    }
