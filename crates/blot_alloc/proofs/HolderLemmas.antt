-- What the newest instruction of a key, and the newest that names a chain, tell of the definitions.
use Rattle.std.proofs.Common.{◌≡◌, ◌≤◌, Bool, true, false, ◌&&◌, cond, List, [], ◌∷◌, length, Option, Some, None, refl, sym, ap, subst, ◌∙◌, arith, inl, inr, not, filter, find, option_and_then, option_map}
use Rattle.std.specs.List.{list_any}
use Rattle.std.specs.Option.{option_map_or}
use Rattle.std.proofs.lemmas.Bool.{cases_Bool, and_parts, and_right}
use Rattle.blot_types.specs.declared.{allocation.Instruction.Instruction, keys.AllocKey.AllocKey, keys.ExecKey.ExecKey}
use Rattle.blot_types.specs.Instructions.{alloc_taker_in, brings_allocation, ends, holds_beside, holds_in, is_allocation_in, is_allocation_of, is_instructed, is_keyed, is_live_in, is_reference, may_follow, names, other_holder_in, reference_of}
use Rattle.blot_types.proofs.ChainLemmas.{differing}
use Rattle.blot_types.proofs.InstructionLemmas.{Follows, ends-reference, filter-unfound, follows, holds-step, live-step, named_once, named-free, no_number}
use Rattle.blot_types.proofs.KeyLemmas.{same_alloc-true}
use Rattle.blot_types.proofs.GeneralLemmas.{and-true}
use Rattle.blot_places.proofs.SlotLemmas.{find_here, find_on}

-- ---- lists

-- what was found, if it passes a test
abbrev pub if_passes : {X : Type 0} → (X → Bool) → Option X → Option X
if_passes test found = option_and_then (λ x. cond (test x) (Some x) None) found

none-left : {X : Type 0} (p q : X → Bool) (xs : List X) → ((x : X) → q x ≡ true → p x ≡ true) → length (filter p xs) ≤ 0 → find q xs ≡ None
none-left p q [] weaker none = refl
none-left p q (x ∷ xs) weaker none =
    elim (cases_Bool (p x)) [
      | inl passes ↦ let some : length (x ∷ filter p xs) ≤ 0 = rw passes at none in absurd (omega (arith, some))
      | inr fails ↦ elim (cases_Bool (q x)) [
        | inl too ↦ absurd (differing (weaker x too) fails)
        | inr neither ↦ find_on q x xs neither ∙ none-left p q xs weaker (rw fails at none)
      ]
    ]

-- where one element at most passes a test, it is the one that passes a stronger test, if one does
pub find-stronger :
    {X : Type 0} (p q : X → Bool) (xs : List X)
    → ((x : X) → q x ≡ true → p x ≡ true) → length (filter p xs) ≤ 1
    → find q xs ≡ if_passes q (find p xs)
find-stronger p q [] weaker one = refl
find-stronger p q (x ∷ xs) weaker one =
    elim (cases_Bool (p x)) [
      | inl passes ↦
          let rest : length (x ∷ filter p xs) ≤ 1 = rw passes at one in
          elim (cases_Bool (q x)) [
            | inl too ↦ find_here q x xs too ∙ sym (ap (if_passes q) (find_here p x xs passes) ∙ ap (λ b. cond b (Some x) None) too)
            | inr fails ↦
                find_on q x xs fails ∙ none-left p q xs weaker (omega (arith, rest))
                ∙ sym (ap (if_passes q) (find_here p x xs passes) ∙ ap (λ b. cond b (Some x) None) fails)
          ]
      | inr fails ↦ elim (cases_Bool (q x)) [
        | inl too ↦ absurd (differing (weaker x too) fails)
        | inr neither ↦
            find_on q x xs neither ∙ find-stronger p q xs weaker (rw fails at one)
            ∙ ap (if_passes q) (sym (find_on p x xs fails))
      ]
    ]

-- ---- the newest instruction of a key

-- no key is taken up twice
pub keyed_once : (instructions : List Instruction) (key : AllocKey) → is_instructed instructions ≡ true → length (filter (is_keyed key) instructions) ≤ 1
keyed_once [] key instructed = omega arith
keyed_once (i ∷ earlier) key instructed =
    let parts : (may_follow earlier i.key i.role i.roots ≡ true) × (is_instructed earlier ≡ true) = and_parts _ _ instructed in
    elim (cases_Bool (is_keyed key i)) [
      | inl here ↦
          let fresh : alloc_taker_in earlier key ≡ None = subst (λ k. alloc_taker_in earlier k ≡ None) (same_alloc-true i.key key here) (follows earlier i.key i.role i.roots parts.0).fresh in
          let none : filter (is_keyed key) earlier ≡ [] = filter-unfound (is_keyed key) earlier (no_number (λ x. x.number) _ fresh) in
          rw (here, none) (omega arith)
      | inr other ↦ rw other (keyed_once earlier key parts.1)
    ]

any-find : {X : Type 0} (p : X → Bool) (xs : List X) → list_any p xs ≡ option_map_or (λ x. true) (find p xs) false
any-find p [] = refl
any-find p (x ∷ xs) =
    elim (cases_Bool (p x)) [
      | inl passes ↦ rw passes refl
      | inr fails ↦ rw fails (any-find p xs)
    ]

-- whether the one of this key brings an allocation
brings : (key : AllocKey) (found : Option Instruction) → option_map_or (is_keyed key) found true ≡ true
    → option_map_or (λ i. true) (if_passes (is_allocation_of key) found) false ≡ option_map_or (λ i. brings_allocation i.role) found false
brings key None keyed = refl
brings key (Some i) keyed =
    elim (cases_Bool (brings_allocation i.role)) [
      | inl is ↦ rw (keyed, is) refl
      | inr not ↦ rw (keyed, not) refl
    ]

found-passes : {X : Type 0} (p : X → Bool) (xs : List X) → option_map_or p (find p xs) true ≡ true
found-passes p [] = refl
found-passes p (x ∷ xs) =
    elim (cases_Bool (p x)) [
      | inl passes ↦ ap (λ found. option_map_or p found true) (find_here p x xs passes) ∙ passes
      | inr fails ↦ ap (λ found. option_map_or p found true) (find_on p x xs fails) ∙ found-passes p xs
    ]

-- there is an allocation of a key where the instruction that takes up the key brings one
pub allocation-taker :
    (instructions : List Instruction) (key : AllocKey) (found : Option Instruction)
    → found ≡ find (is_keyed key) instructions → length (filter (is_keyed key) instructions) ≤ 1
    → option_map_or (λ i. brings_allocation i.role) found false ≡ is_allocation_in instructions key
allocation-taker instructions key found is once =
    let narrow : find (is_allocation_of key) instructions ≡ if_passes (is_allocation_of key) found =
    find-stronger (is_keyed key) (is_allocation_of key) instructions (λ i both. (and_parts (is_keyed key i) (brings_allocation i.role) both).0) once
    ∙ ap (if_passes (is_allocation_of key)) (sym is) in
    let keyed : option_map_or (is_keyed key) found true ≡ true = ap (λ found. option_map_or (is_keyed key) found true) is ∙ found-passes (is_keyed key) instructions in
    sym (any-find (is_allocation_of key) instructions ∙ ap (λ found. option_map_or (λ (i : Instruction). true) found false) narrow ∙ brings key found keyed)

-- ---- the newest instruction that names a chain

find-same : {X : Type 0} (p q : X → Bool) (xs : List X) → ((x : X) → p x ≡ q x) → find p xs ≡ find q xs
find-same p q xs same = ap (λ test. find test xs) (λ k x. same x k)

-- so after an instruction that names it no earlier allocation holds it
held-behind :
    (i : Instruction) (earlier : List Instruction) (root : ExecKey) → Follows earlier i.key i.role i.roots → names root i ≡ true
    → find (holds_in (i ∷ earlier) root) earlier ≡ None
held-behind i earlier root it named =
    let reference = reference_of i.role in
    find-same (holds_in (i ∷ earlier) root) (holds_beside earlier reference root) earlier
    (λ j. holds-step i earlier root j ∙ ap (λ test. holds_in earlier root j && not test) (ends-reference j.key i.role))
    ∙ no_number (λ x. x.number) _ (named-free earlier reference root i.roots it.unnamed named)

-- what was found among the earlier ones, seen after one instruction more
step : (i : Instruction) (earlier : List Instruction) (root : ExecKey) (found : Option Instruction) → option_map_or (names root) found true ≡ true
    → if_passes (holds_in (i ∷ earlier) root) (if_passes (is_live_in earlier) found) ≡ if_passes (is_live_in (i ∷ earlier)) found
step i earlier root None named = refl
step i earlier root (Some j) named =
    let ended = not (ends j.key i.role) in
    let held : holds_in (i ∷ earlier) root j ≡ (is_live_in earlier j && ended) =
    ap (λ live. live && names root j) (live-step i earlier j) ∙ ap (λ b. (is_live_in earlier j && ended) && b) named ∙ and-true (is_live_in earlier j && ended) in
    elim (cases_Bool (is_live_in earlier j)) [
      | inl is ↦
          ap (if_passes (holds_in (i ∷ earlier) root)) (ap (λ b. cond b (Some j) None) is)
          ∙ ap (λ b. cond b (Some j) None) (held ∙ sym (live-step i earlier j))
      | inr not_live ↦
          ap (if_passes (holds_in (i ∷ earlier) root)) (ap (λ b. cond b (Some j) None) not_live)
          ∙ sym (ap (λ b. cond b (Some j) None) (live-step i earlier j ∙ ap (λ b. b && ended) not_live))
    ]

-- only the newest instruction that names a chain can hold it: it does where its allocation is live
pub holder-newest :
    (instructions : List Instruction) (root : ExecKey) → is_instructed instructions ≡ true
    → if_passes (is_live_in instructions) (find (names root) instructions) ≡ find (holds_in instructions root) instructions
holder-newest [] root instructed = refl
holder-newest (i ∷ earlier) root instructed =
    let parts : (may_follow earlier i.key i.role i.roots ≡ true) × (is_instructed earlier ≡ true) = and_parts _ _ instructed in
    let live = is_live_in (i ∷ earlier) in
    elim (cases_Bool (names root i)) [
      | inl named ↦ ap (if_passes live) (find_here (names root) i earlier named) ∙ elim (cases_Bool (live i)) [
        | inl is ↦ ap (λ b. cond b (Some i) None) is ∙ sym (find_here (holds_in (i ∷ earlier) root) i earlier (ap (λ b. b && names root i) is ∙ named))
        | inr not ↦
            ap (λ b. cond b (Some i) None) not
            ∙ sym (find_on (holds_in (i ∷ earlier) root) i earlier (ap (λ b. b && names root i) not)
            ∙ held-behind i earlier root (follows earlier i.key i.role i.roots parts.0) named)
      ]
      | inr other ↦
          ap (if_passes live) (find_on (names root) i earlier other)
          ∙ sym (step i earlier root (find (names root) earlier) (found-passes (names root) earlier))
          ∙ ap (if_passes (holds_in (i ∷ earlier) root)) (holder-newest earlier root parts.1)
          ∙ sym (find-stronger (holds_in earlier root) (holds_in (i ∷ earlier) root) earlier
          (λ j held. (and_parts (holds_in earlier root j) (not (ends j.key i.role)) (sym (holds-step i earlier root j) ∙ held)).0)
          (named_once earlier parts.1 root))
          ∙ sym (find_on (holds_in (i ∷ earlier) root) i earlier (and_right (live i) (names root i) other))
    ]

-- ---- the holder other than the one referred to

beside : (instructions : List Instruction) (reference : Option AllocKey) (root : ExecKey) (found : Option Instruction)
    → option_map_or (holds_in instructions root) found true ≡ true
    → if_passes (λ i. not (is_reference reference i.key)) found ≡ if_passes (holds_beside instructions reference root) found
beside instructions reference root None held = refl
beside instructions reference root (Some i) held = sym (ap (λ b. cond (b && not (is_reference reference i.key)) (Some i) None) held)

-- it is the one that holds the chain, unless that is the one referred to
pub other-holder :
    (instructions : List Instruction) (reference : Option AllocKey) (root : ExecKey) (found : Option Instruction)
    → found ≡ find (holds_in instructions root) instructions → length (filter (holds_in instructions root) instructions) ≤ 1
    → option_map (λ i. i.number) (if_passes (λ i. not (is_reference reference i.key)) found) ≡ other_holder_in instructions reference root
other-holder instructions reference root found is once =
    let held : option_map_or (holds_in instructions root) found true ≡ true =
    ap (λ found. option_map_or (holds_in instructions root) found true) is ∙ found-passes (holds_in instructions root) instructions in
    ap (λ found. option_map (λ (i : Instruction). i.number) found)
    (beside instructions reference root found held ∙ ap (if_passes (holds_beside instructions reference root)) is
    ∙ sym (find-stronger (holds_in instructions root) (holds_beside instructions reference root) instructions
    (λ i both. (and_parts (holds_in instructions root i) (not (is_reference reference i.key)) both).0) once))
