-- What needs an entry of an allocation: the first instruction that refers to it, or lists a chain that it freed.
use Rattle.std.proofs.Common.{◌≡◌, ℕ, ◌<◌, ◌≤◌, Bool, true, false, cond, ◌&&◌, ◌||◌, List, [], ◌∷◌, ◌++◌, length, Option, Some, None, refl, sym, ap, subst, ◌∙◌, inl, inr, arith, filter, find, nat_eq, filter_map, option_and_then, option_map, eq-eqb, ne_eqb, append_assoc}
use Rattle.std.specs.List.{cons_option, list_any}
use Rattle.std.specs.Option.{option_map_or}
use Rattle.std.proofs.lemmas.Bool.{and_parts, and_right, cases_Bool}
use Rattle.std.proofs.lemmas.Option.{same_Some}
use Rattle.blot_types.specs.declared.allocation.AllocRole.TheVariants.{Allocates, Replaces, Cancels}
use Rattle.blot_types.specs.declared.{allocation.Instruction.Instruction, command.AllocCancel.AllocCancel as AllocCancelCommand, command.AllocNew.AllocNew as AllocNewCommand, command.AllocReplace.AllocReplace as AllocReplaceCommand, command.Command.Command, command.Entry.Entry, keys.AllocKey.AllocKey, keys.ExecKey.ExecKey, refused.Refused.TheVariants.UnknownAlloc}
use Rattle.blot_types.specs.declared.command.Command.TheVariants.{Trade, Correct, Bust, AllocNew, AllocReplace, AllocCancel, Withdraw}
use Rattle.blot_types.specs.Allocations.{instruction_by, instructions_in, roots_of_terms}
use Rattle.blot_types.specs.Chains.{root_in}
use Rattle.blot_types.specs.Instructions.{alloc_taker_in, brings_allocation, ended_roots, ends, first_instruction, first_needing_instruction, is_allocation_in, is_allocation_of, is_instructed, is_keyed, may_follow, names, names_any, needs_instruction, reference_of}
use Rattle.blot_types.specs.Keys.{same_alloc, same_exec}
use Rattle.blot_types.specs.Legal.{is_above_entries, legal_in, refusal_in, rises_in}
use Rattle.blot_types.specs.Refusals.{alloc_reference}
use Rattle.blot_types.specs.Survivors.{links_in}
use Rattle.blot_types.specs.Withdrawal.{needed_in, needs}
use Rattle.blot_types.proofs.AcceptLemmas.{instructed}
use Rattle.blot_types.proofs.AcceptOutLemmas.{accepts}
use Rattle.blot_types.proofs.AllocOutLemmas.{alloc-key-out, allocation-out, regains, unkeyed}
use Rattle.blot_types.proofs.AllocStepLemmas.{as_cancel, as_new, as_replace, asks, by-laters, cancel-needs, laters, new-needs, regained, replace-needs}
use Rattle.blot_types.proofs.ChainLemmas.{clash, differing}
use Rattle.blot_types.proofs.CorrectLemmas.{front-legal}
use Rattle.blot_types.proofs.InstructionLemmas.{follows}
use Rattle.blot_types.proofs.KeyLemmas.{same_alloc-sym, same_alloc-true, same_exec-sym}
use Rattle.blot_types.proofs.NeedLemmas.{member-below}
use Rattle.blot_types.proofs.GeneralLemmas.{or-false, any-same}
use Rattle.blot_alloc.proofs.HolderLemmas.{allocation-taker, keyed_once}
use Rattle.blot_command.proofs.FirstEntryLemmas.{IsTest, instruction-number, instruction_after, instructions-above, needed-by, needed-in}

-- ---- lists

any-never : {A : Type 0} (xs : List A) → list_any (λ x. false) xs ≡ false
any-never [] = refl
any-never (x ∷ xs) = any-never xs

pub or-turned : (a b c d : Bool) → ((a || b) || (c || d)) ≡ ((a || c) || (b || d))
or-turned true b c d = refl
or-turned false true true d = refl
or-turned false true false d = refl
or-turned false false c d = refl

any-or : {A : Type 0} (p q : A → Bool) (xs : List A) → list_any (λ x. p x || q x) xs ≡ (list_any p xs || list_any q xs)
any-or p q [] = refl
any-or p q (x ∷ xs) = ap (λ rest. (p x || q x) || rest) (any-or p q xs) ∙ or-turned (p x) (q x) (list_any p xs) (list_any q xs)

-- one of some and one of others, in either order
any-turned : {A B : Type 0} (r : A → B → Bool) (xs : List A) (ys : List B) → list_any (λ x. list_any (r x) ys) xs ≡ list_any (λ y. list_any (λ x. r x y) xs) ys
any-turned r [] ys = sym (any-never ys)
any-turned r (x ∷ xs) ys = ap (λ rest. list_any (r x) ys || rest) (any-turned r xs ys) ∙ sym (any-or (r x) (λ y. list_any (λ x. r x y) xs) ys)

-- through what is found for each
mapped-more : {B : Type 0} (p : B → Bool) (found : Option B) (rest : List B) → (option_map_or p found false || list_any p rest) ≡ list_any p (cons_option found rest)
mapped-more p None rest = refl
mapped-more p (Some y) rest = refl

pub any-mapped : {A B : Type 0} (f : A → Option B) (p : B → Bool) (xs : List A) → list_any (λ x. option_map_or p (f x) false) xs ≡ list_any p (filter_map f xs)
any-mapped f p [] = refl
any-mapped f p (x ∷ xs) = ap (λ rest. option_map_or p (f x) false || rest) (any-mapped f p xs) ∙ mapped-more p (f x) (filter_map f xs)

-- ---- the allocation that an instruction ended

-- it is found by its key, whatever came later
found-later :
    (key : AllocKey) (later front : List Instruction) (x : Instruction) → is_instructed (later ++ front) ≡ true → find (is_keyed key) front ≡ Some x → find (is_keyed key) (later ++ front) ≡ Some x
found-later key [] front x instructed found = found
found-later key (i ∷ later) front x instructed found =
    let parts : (may_follow (later ++ front) i.key i.role i.roots ≡ true) × (is_instructed (later ++ front) ≡ true) = and_parts _ _ instructed in
    let rest : find (is_keyed key) (later ++ front) ≡ Some x = found-later key later front x parts.1 found in
    elim (cases_Bool (is_keyed key i)) [
      | inl here ↦
          let fresh : alloc_taker_in (later ++ front) i.key ≡ None = (follows (later ++ front) i.key i.role i.roots parts.0).fresh in
          let taken : alloc_taker_in (later ++ front) key ≡ Some x.number = ap (option_map (λ i. i.number)) rest in
          absurd (clash (sym taken ∙ subst (λ k. alloc_taker_in (later ++ front) k ≡ None) (same_alloc-true i.key key here) fresh))
      | inr other ↦ ap (λ b. cond b (Some i) (find (is_keyed key) (later ++ front))) other ∙ rest
    ]

none-keyed : (key : AllocKey) (p : Instruction → Bool) (instructions : List Instruction) → length (filter (is_keyed key) instructions) ≤ 0 → list_any (λ i. is_allocation_of key i && p i) instructions ≡ false
none-keyed key p [] none = refl
none-keyed key p (i ∷ earlier) none =
    elim (cases_Bool (is_keyed key i)) [
      | inl here ↦ let some : length (i ∷ filter (is_keyed key) earlier) ≤ 0 = rw here at none in absurd (omega (arith, some))
      | inr other ↦ ap (λ b. ((b && brings_allocation i.role) && p i) || list_any (λ i. is_allocation_of key i && p i) earlier) other ∙ none-keyed key p earlier (rw other at none)
    ]

-- what is asked of the allocation of a key is asked of the one instruction that brings it
any-keyed :
    (key : AllocKey) (p : Instruction → Bool) (instructions : List Instruction) (x : Instruction) → length (filter (is_keyed key) instructions) ≤ 1
    → find (is_keyed key) instructions ≡ Some x → brings_allocation x.role ≡ true → list_any (λ i. is_allocation_of key i && p i) instructions ≡ p x
any-keyed key p [] x once found brings = absurd (clash (sym found))
any-keyed key p (i ∷ earlier) x once found brings =
    elim (cases_Bool (is_keyed key i)) [
      | inl here ↦
          let same : i ≡ x = same_Some i x (sym (ap (λ b. cond b (Some i) (find (is_keyed key) earlier)) here) ∙ found) in
          let rest : length (i ∷ filter (is_keyed key) earlier) ≤ 1 = rw here at once in
          ap (λ b. ((b && brings_allocation i.role) && p i) || list_any (λ i. is_allocation_of key i && p i) earlier) here
          ∙ ap (λ b. (brings_allocation i.role && p i) || b) (none-keyed key p earlier (omega (arith, rest))) ∙ or-false (brings_allocation i.role && p i)
          ∙ ap (λ (i : Instruction). brings_allocation i.role && p i) same ∙ ap (λ b. b && p x) brings
      | inr other ↦
          ap (λ b. ((b && brings_allocation i.role) && p i) || list_any (λ i. is_allocation_of key i && p i) earlier) other
          ∙ any-keyed key p earlier x (rw other at once) (sym (ap (λ b. cond b (Some i) (find (is_keyed key) earlier)) other) ∙ found) brings
    ]

-- the roots that an instruction frees are those of the allocation that it ended
abbrev IsFreed : Instruction → List ExecKey → List Instruction → Type 0
IsFreed j roots instructions = (root : ExecKey) → list_any (regains j root) instructions ≡ list_any (λ named. same_exec named root) roots

freed-ended :
    (j x : Instruction) (reference : AllocKey) (instructions : List Instruction) → is_instructed instructions ≡ true → find (is_keyed reference) instructions ≡ Some x
    → brings_allocation x.role ≡ true → ((key : AllocKey) → ends key j.role ≡ same_alloc reference key) → IsFreed j x.roots instructions
freed-ended j x reference instructions instructed found brings ending root =
    any-same (regains j root) (λ i. is_allocation_of reference i && names root i) instructions
    (λ i. ap (λ b. (b && brings_allocation i.role) && names root i) (ending i.key ∙ same_alloc-sym reference i.key))
    ∙ any-keyed reference (names root) instructions x (keyed_once instructions reference instructed) found brings

freed-nothing : (j : Instruction) (instructions : List Instruction) → ((key : AllocKey) → ends key j.role ≡ false) → IsFreed j [] instructions
freed-nothing j instructions ending root =
    any-same (regains j root) (λ i. false) instructions (λ i. ap (λ b. (b && brings_allocation i.role) && names root i) (ending i.key)) ∙ any-never instructions

-- ---- what an entry asks of an instruction before it

abbrev wanted : Instruction → List ExecKey → Instruction → Bool
wanted j roots i = ends j.key i.role || names_any roots i

module _ (j : Instruction) (roots : List ExecKey) (before : List Entry) (freed : IsFreed j roots (instructions_in before)) where
  -- a listed execution is of a freed chain
  listed-freed : (keys : List ExecKey) → list_any (regained j before) keys ≡ list_any (λ root. list_any (λ named. same_exec named root) (filter_map (root_in (links_in before)) keys)) roots
  listed-freed keys =
      any-same (regained j before) (λ key. option_map_or (λ root. list_any (λ named. same_exec named root) roots) (root_in (links_in before) key) false) keys
      (λ key. ap (λ test. option_map_or test (root_in (links_in before) key) false) (λ i root. freed root i))
      ∙ any-mapped (root_in (links_in before)) (λ root. list_any (λ named. same_exec named root) roots) keys
      ∙ any-turned (λ root named. same_exec named root) (filter_map (root_in (links_in before)) keys) roots
      ∙ ap (λ test. list_any test roots) (λ i named. list_any (λ root. same_exec-sym named root i) (filter_map (root_in (links_in before)) keys))

  none-named : list_any (λ root. list_any (λ named. same_exec named root) []) roots ≡ false
  none-named = any-never roots

  -- a reference is one to the allocation that it brings
  refers-brought : (reference : AllocKey) → (same_alloc j.key reference ≡ true → brings_allocation j.role ≡ true) → is_allocation_of reference j ≡ same_alloc reference j.key
  refers-brought reference brings = elim (cases_Bool (same_alloc j.key reference)) [
    | inl same ↦ ap (λ b. b && brings_allocation j.role) same ∙ brings same ∙ sym (sym (same_alloc-sym j.key reference) ∙ same)
    | inr other ↦ ap (λ b. b && brings_allocation j.role) other ∙ sym (sym (same_alloc-sym j.key reference) ∙ other)
  ]

  -- what it refers to, it may
  abbrev MayRefer : Option AllocKey → Type 0
  MayRefer found = (reference : AllocKey) → found ≡ Some reference → same_alloc j.key reference ≡ true → brings_allocation j.role ≡ true

  asks-instruction : (number : ℕ) (command : Command) → MayRefer (alloc_reference command) → asks j before command ≡ option_map_or (wanted j roots) (instruction_by (links_in before) number command) false
  asks-instruction number (Trade trade) may = refl
  asks-instruction number (Correct correct) may = refl
  asks-instruction number (Bust bust) may = refl
  asks-instruction number (AllocNew new) may = listed-freed new.terms.execs
  asks-instruction number (AllocReplace replace) may = λ i. refers-brought replace.reference (may replace.reference refl) i || listed-freed replace.terms.execs i
  asks-instruction number (AllocCancel cancel) may = λ i. refers-brought cancel.reference (may cancel.reference refl) i || sym none-named i
  asks-instruction number (Withdraw withdrawn) may = refl

-- ---- the instruction of an entry among those of all

instruction-of_cons : (entry : Entry) (before : List Entry) (found : Option Instruction) (n : ℕ) (rest : List Instruction) → instruction_after before entry ≡ found → nat_eq entry.number n ≡ false
    → find (λ (i : Instruction). nat_eq i.number n) (cons_option found rest) ≡ find (λ (i : Instruction). nat_eq i.number n) rest
instruction-of_cons entry before None n rest is other = refl
instruction-of_cons entry before (Some i) n rest is other =
    ap (λ b. cond b (Some i) (find (λ (i : Instruction). nat_eq i.number n) rest)) (ap (λ m. nat_eq m n) (instruction-number (links_in before) entry.number entry.command i is) ∙ other)

-- it is found by its number
pub numbered-instruction :
    (k : Entry) (front : List Entry) (j : Instruction) (later : List Entry) → instruction_after front k ≡ Some j → rises_in (later ++ k ∷ front) ≡ true
    → find (λ (i : Instruction). nat_eq i.number k.number) (instructions_in (later ++ k ∷ front)) ≡ Some j
numbered-instruction k front j [] is rise =
    let own : nat_eq j.number k.number ≡ true = eq-eqb j.number k.number (instruction-number (links_in front) k.number k.command j is) in
    ap (λ found. find (λ (i : Instruction). nat_eq i.number k.number) (cons_option found (instructions_in front))) is
    ∙ ap (λ b. cond b (Some j) (find (λ (i : Instruction). nat_eq i.number k.number) (instructions_in front))) own
numbered-instruction k front j (entry ∷ later) is rise =
    let rises : (is_above_entries entry.number (later ++ k ∷ front) ≡ true) × (rises_in (later ++ k ∷ front) ≡ true) = and_parts _ _ rise in
    let less : k.number < entry.number = member-below entry.number later front k rises.0 in
    let other : nat_eq entry.number k.number ≡ false = ne_eqb entry.number k.number (λ same. absurd (omega (arith, same, less))) in
    instruction-of_cons entry (later ++ k ∷ front) (instruction_after (later ++ k ∷ front) entry) k.number (instructions_in (later ++ k ∷ front)) refl other
    ∙ numbered-instruction k front j later is rises.1

-- those after it, itself, and those before it
abbrev after_it : Entry → List Entry → List Entry → List Instruction
after_it k front later = laters later (k ∷ front)

parted : (k : Entry) (front : List Entry) (j : Instruction) (later : List Entry) → instruction_after front k ≡ Some j → instructions_in (later ++ k ∷ front) ≡ after_it k front later ++ j ∷ instructions_in front
parted k front j later is = by-laters later (k ∷ front) ∙ ap (λ found. after_it k front later ++ cons_option found (instructions_in front)) is

-- ---- what an accepted command refers to

refused-unknown : (b : Bool) → (cond b None (Some UnknownAlloc)) ≡ None → b ≡ true
refused-unknown true none = refl
refused-unknown false none = absurd (clash none)

known-reference : (entries : List Entry) (command : Command) (reference : AllocKey) → refusal_in entries command ≡ None → alloc_reference command ≡ Some reference → is_allocation_in (instructions_in entries) reference ≡ true
known-reference entries command reference is refers =
    refused-unknown (is_allocation_in (instructions_in entries) reference)
    (ap (option_and_then (λ key. cond (is_allocation_in (instructions_in entries) key) None (Some UnknownAlloc))) (sym refers) ∙ (accepts entries command is).known)

may-refer :
    (k : Entry) (front : List Entry) (j : Instruction) (later : List Entry) (command : Command) → instruction_after front k ≡ Some j → legal_in (later ++ k ∷ front) ≡ true
    → refusal_in (later ++ k ∷ front) command ≡ None → (reference : AllocKey) → alloc_reference command ≡ Some reference → same_alloc j.key reference ≡ true → brings_allocation j.role ≡ true
may-refer k front j later command is legal accepted reference refers same =
    elim (cases_Bool (brings_allocation j.role)) [
      | inl brings ↦ brings
      | inr not ↦
          let whole = parted k front j later is in
          let follow : is_instructed (after_it k front later ++ j ∷ instructions_in front) ≡ true = ap is_instructed (sym whole) ∙ instructed (later ++ k ∷ front) legal in
          let fresh : is_allocation_in (after_it k front later ++ instructions_in front) j.key ≡ false =
          unkeyed (after_it k front later ++ instructions_in front) j.key (alloc-key-out (after_it k front later) (instructions_in front) j follow) in
          let none : is_allocation_in (instructions_in (later ++ k ∷ front)) j.key ≡ false =
          ap (λ all. is_allocation_in all j.key) whole
          ∙ sym (allocation-out (after_it k front later) (instructions_in front) j j.key (and_right (same_alloc j.key j.key) (brings_allocation j.role) not)) ∙ fresh in
          let known : is_allocation_in (instructions_in (later ++ k ∷ front)) j.key ≡ true =
          subst (λ key. is_allocation_in (instructions_in (later ++ k ∷ front)) key ≡ true) (sym (same_alloc-true j.key reference same)) (known-reference (later ++ k ∷ front) command reference accepted refers) in
          absurd (differing known none)
    ]

-- ---- an entry that ends an allocation, or none

-- the roots that it frees, whatever came later
record Frees (k : Entry) (front : List Entry) (j : Instruction) (roots : List ExecKey) : Type 0 where
  freed : (later : List Entry) → legal_in (later ++ k ∷ front) ≡ true → IsFreed j roots (instructions_in (later ++ k ∷ front))
  ended : (later : List Entry) → legal_in (later ++ k ∷ front) ≡ true → ended_roots (instructions_in (later ++ k ∷ front)) j.role ≡ roots

frees-nothing : (k : Entry) (front : List Entry) (j : Instruction) → j.role ≡ Allocates → Frees k front j []
frees-nothing k front j role = record {
  freed = λ later legal. freed-nothing j (instructions_in (later ++ k ∷ front)) (λ key. ap (ends key) role);
  ended = λ later legal. ap (ended_roots (instructions_in (later ++ k ∷ front))) role;
}

record IsEnded (reference : AllocKey) (instructions : List Instruction) : Type 0 where
  x : Instruction
  found : find (is_keyed reference) instructions ≡ Some x
  brings : brings_allocation x.role ≡ true

ended-found : (reference : AllocKey) (instructions : List Instruction) (found : Option Instruction) → find (is_keyed reference) instructions ≡ found → option_map_or (λ i. brings_allocation i.role) found false ≡ true → IsEnded reference instructions
ended-found reference instructions None is brings = absurd (differing brings refl)
ended-found reference instructions (Some x) is brings = record { x = x; found = is; brings = brings }

is-ended : (reference : AllocKey) (instructions : List Instruction) → is_instructed instructions ≡ true → is_allocation_in instructions reference ≡ true → IsEnded reference instructions
is-ended reference instructions instructed there =
    ended-found reference instructions (find (is_keyed reference) instructions) refl
    (allocation-taker instructions reference (find (is_keyed reference) instructions) refl (keyed_once instructions reference instructed) ∙ there)

frees-ended :
    (k : Entry) (front : List Entry) (j : Instruction) (reference : AllocKey) → instruction_after front k ≡ Some j → legal_in front ≡ true → (ended : IsEnded reference (instructions_in front))
    → ((key : AllocKey) → ends key j.role ≡ same_alloc reference key) → reference_of j.role ≡ Some reference → Frees k front j ended.x.roots
frees-ended k front j reference is front_legal ended ending refers =
    let there : (later : List Entry) → legal_in (later ++ k ∷ front) ≡ true → find (is_keyed reference) (instructions_in (later ++ k ∷ front)) ≡ Some ended.x =
    λ later legal.
    let whole : instructions_in (later ++ k ∷ front) ≡ (after_it k front later ++ j ∷ []) ++ instructions_in front = parted k front j later is ∙ sym (append_assoc (after_it k front later) (j ∷ []) (instructions_in front)) in
    ap (find (is_keyed reference)) whole
    ∙ found-later reference (after_it k front later ++ j ∷ []) (instructions_in front) ended.x (ap is_instructed (sym whole) ∙ instructed (later ++ k ∷ front) legal) ended.found in
    record {
      freed = λ later legal. freed-ended j ended.x reference (instructions_in (later ++ k ∷ front)) (instructed (later ++ k ∷ front) legal) (there later legal) ended.brings ending;
      ended = λ later legal.
          ap (λ found. option_map_or (λ (x : Instruction). x.roots) (option_and_then (λ key. find (is_keyed key) (instructions_in (later ++ k ∷ front))) found) []) refers
          ∙ ap (λ found. option_map_or (λ (x : Instruction). x.roots) found []) (there later legal);
    }

-- ---- the first that needs it

alloc-needed :
    (k : Entry) (front : List Entry) (j : Instruction) (roots : List ExecKey) → instruction_after front k ≡ Some j → Frees k front j roots
    → ((before : List Entry) (command : Command) → needs before k command ≡ asks j before command) → (later : List Entry) → legal_in (later ++ k ∷ front) ≡ true → rises_in (later ++ k ∷ front) ≡ true
    → needed_in k (later ++ k ∷ front) ≡ first_needing_instruction (instructions_in (later ++ k ∷ front)) k.number
alloc-needed k front j roots is frees asked later legal rise =
    let all = later ++ k ∷ front in
    let test : List Entry → Entry → Bool = λ before entry. option_map_or (wanted j roots) (instruction_after before entry) false in
    let step : IsTest k front test = λ later entry next.
    asked (later ++ k ∷ front) entry.command
    ∙ asks-instruction j roots (later ++ k ∷ front) (frees.freed later next.legal) entry.number entry.command (may-refer k front j later entry.command is next.legal next.accepted) in
    needed-in k all ∙ needed-by k front test step later legal rise ∙ instructions-above k.number (wanted j roots) all
    ∙ sym (ap (option_and_then (λ other. first_instruction (needs_instruction (instructions_in all) other) k.number (instructions_in all))) (numbered-instruction k front j later is rise)
    ∙ ap (λ rs. first_instruction (λ i. ends j.key i.role || names_any rs i) k.number (instructions_in all)) (frees.ended later legal))

pub new-needed :
    (number : ℕ) (new : AllocNewCommand) (front later : List Entry) → legal_in (later ++ as_new number new ∷ front) ≡ true → rises_in (later ++ as_new number new ∷ front) ≡ true
    → needed_in (as_new number new) (later ++ as_new number new ∷ front) ≡ first_needing_instruction (instructions_in (later ++ as_new number new ∷ front)) number
new-needed number new front later legal rise =
    let k = as_new number new in
    let j : Instruction = record { number = number; key = new.key; role = Allocates; roots = roots_of_terms (links_in front) new.terms } in
    alloc-needed k front j [] refl (frees-nothing k front j refl) (λ before command. new-needs j before number new command refl refl) later legal rise

pub replace-needed :
    (number : ℕ) (replace : AllocReplaceCommand) (front later : List Entry) → legal_in (later ++ as_replace number replace ∷ front) ≡ true → rises_in (later ++ as_replace number replace ∷ front) ≡ true
    → needed_in (as_replace number replace) (later ++ as_replace number replace ∷ front) ≡ first_needing_instruction (instructions_in (later ++ as_replace number replace ∷ front)) number
replace-needed number replace front later legal rise =
    let k = as_replace number replace in
    let j : Instruction = record { number = number; key = replace.key; role = Replaces replace.reference; roots = roots_of_terms (links_in front) replace.terms } in
    let own = front-legal k later front legal in
    let ended = is-ended replace.reference (instructions_in front) (instructed front own.1) (known-reference front k.command replace.reference own.0 refl) in
    alloc-needed k front j ended.x.roots refl (frees-ended k front j replace.reference refl own.1 ended (λ key. refl) refl) (λ before command. replace-needs j before number replace command refl refl) later legal rise

pub cancel-needed :
    (number : ℕ) (cancel : AllocCancelCommand) (front later : List Entry) → legal_in (later ++ as_cancel number cancel ∷ front) ≡ true → rises_in (later ++ as_cancel number cancel ∷ front) ≡ true
    → needed_in (as_cancel number cancel) (later ++ as_cancel number cancel ∷ front) ≡ first_needing_instruction (instructions_in (later ++ as_cancel number cancel ∷ front)) number
cancel-needed number cancel front later legal rise =
    let k = as_cancel number cancel in
    let j : Instruction = record { number = number; key = cancel.key; role = Cancels cancel.reference; roots = [] } in
    let own = front-legal k later front legal in
    let ended = is-ended cancel.reference (instructions_in front) (instructed front own.1) (known-reference front k.command cancel.reference own.0 refl) in
    alloc-needed k front j ended.x.roots refl (frees-ended k front j cancel.reference refl own.1 ended (λ key. refl) refl) (λ before command. cancel-needs j before number cancel command refl) later legal rise
