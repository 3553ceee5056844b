-- Instructions without one of them.
use Rattle.std.proofs.Common.{◌≡◌, true, false, List, [], ◌∷◌, ◌++◌, Option, Some, None, refl, sym, ap, ◌∙◌, inl, inr, Bool, ◌&&◌, not, find, is_none, All, option_map}
use Rattle.std.specs.List.{list_any}
use Rattle.std.specs.Option.{option_map_or}
use Rattle.std.proofs.lemmas.Bool.{cases_Bool, and_parts, and_from, and_left, not_from_false}
use Rattle.std.proofs.lemmas.List.Elements.{All-cons, All-head, All-tail, All-weaker}
use Rattle.std.proofs.lemmas.List.Folds.{list_any_none}
use Rattle.blot_types.specs.declared.{allocation.AllocRole.AllocRole, allocation.Instruction.Instruction, keys.AllocKey.AllocKey, keys.ExecKey.ExecKey}
use Rattle.blot_types.specs.declared.allocation.AllocRole.TheVariants.{Allocates, Replaces, Cancels}
use Rattle.blot_types.specs.Instructions.{is_keyed, alloc_taker_in, brings_allocation, is_allocation_of, is_allocation_in, ends, ended_in, names, is_reference, is_live_in, holds_beside, other_holder_in, reference_of, is_live_key, may_follow, is_instructed}
use Rattle.blot_types.proofs.AcceptLemmas.{unmapped}
use Rattle.blot_types.proofs.ChainLemmas.{clash, differing, none_is}
use Rattle.blot_types.proofs.InstructionLemmas.{follows, unknown_reference}
use Rattle.blot_types.proofs.KeyLemmas.{same_alloc-true, same_alloc-refl, same_alloc-sym}
use Rattle.blot_types.proofs.LawLemmas.{find-none}
use Rattle.blot_types.proofs.AcceptOutLemmas.{unfound}
use Rattle.blot_types.proofs.StayLemmas.{mapped-none}
use Rattle.blot_types.proofs.VersionLemmas.{find-skip}
use Rattle.blot_types.proofs.CorrectLemmas.{All-pairs}
use Rattle.blot_types.proofs.GeneralLemmas.{any-none}

-- ---- plain lists

pub find-less : {A : Type 0} (p : A → Bool) (xs ys : List A) (y : A) → find p (xs ++ y ∷ ys) ≡ None → find p (xs ++ ys) ≡ None
find-less p [] ys y none =
    elim (cases_Bool (p y)) [
      | inl here ↦ absurd (clash (rw here at none))
      | inr other ↦ rw other at none
    ]
find-less p (x ∷ xs) ys y none =
    elim (cases_Bool (p x)) [
      | inl here ↦ absurd (clash (rw here at none))
      | inr passed ↦ rw passed (find-less p xs ys y (rw passed at none))
    ]

pub any-skip : {A : Type 0} (p : A → Bool) (xs ys : List A) (y : A) → p y ≡ false → list_any p (xs ++ ys) ≡ list_any p (xs ++ y ∷ ys)
any-skip p [] ys y other = rw other refl
any-skip p (x ∷ xs) ys y other =
    elim (cases_Bool (p x)) [
      | inl here ↦ rw here refl
      | inr passed ↦ rw passed (any-skip p xs ys y other)
    ]

All-less : {A : Type 0} (q : A → Type 0) (xs ys : List A) (y : A) → All q (xs ++ y ∷ ys) → All q (xs ++ ys)
All-less q [] ys y all = All-tail q y ys all
All-less q (x ∷ xs) ys y all = All-cons q x (xs ++ ys) (All-head q x (xs ++ y ∷ ys) all) (All-less q xs ys y (All-tail q x (xs ++ y ∷ ys) all))

find-middle : {A : Type 0} (p : A → Bool) (xs ys : List A) (y : A) → p y ≡ true → find p (xs ++ y ∷ ys) ≡ None → ⊥
find-middle p [] ys y here none = clash (rw here at none)
find-middle p (x ∷ xs) ys y here none =
    elim (cases_Bool (p x)) [
      | inl first ↦ clash (rw first at none)
      | inr passed ↦ find-middle p xs ys y here (rw passed at none)
    ]

-- ---- keys and allocations

pub alloc_taker-out : (later front : List Instruction) (j : Instruction) (key : AllocKey) → alloc_taker_in (later ++ j ∷ front) key ≡ None → alloc_taker_in (later ++ front) key ≡ None
alloc_taker-out later front j key fresh = mapped-none (λ i. i.number) _ (find-less (is_keyed key) later front j (unmapped (λ i. i.number) _ fresh))

-- none of the others takes up its key
pub alloc-key-out : (later front : List Instruction) (j : Instruction) → is_instructed (later ++ j ∷ front) ≡ true → alloc_taker_in (later ++ front) j.key ≡ None
alloc-key-out [] front j instructed =
    let parts : (may_follow front j.key j.role j.roots ≡ true) × (is_instructed front ≡ true) = and_parts _ _ instructed in
    (follows front j.key j.role j.roots parts.0).fresh
alloc-key-out (i ∷ later) front j instructed =
    let parts : (may_follow (later ++ j ∷ front) i.key i.role i.roots ≡ true) × (is_instructed (later ++ j ∷ front) ≡ true) = and_parts _ _ instructed in
    let fresh = (follows (later ++ j ∷ front) i.key i.role i.roots parts.0).fresh in
    let other : is_keyed j.key i ≡ false =
    elim (cases_Bool (is_keyed j.key i)) [
      | inl same ↦ absurd (find-middle (is_keyed i.key) later front j (same_alloc-sym j.key i.key ∙ same) (unmapped (λ (o : Instruction). o.number) _ fresh))
      | inr apart ↦ apart
    ] in
    rw other (alloc-key-out later front j parts.1)

-- an allocation whose key nobody takes up isn't there
pub unkeyed : (instructions : List Instruction) (key : AllocKey) → alloc_taker_in instructions key ≡ None → is_allocation_in instructions key ≡ false
unkeyed instructions key fresh =
    list_any_none (is_allocation_of key) instructions
    (All-weaker (λ i. is_keyed key i ≡ false) (λ i. is_allocation_of key i ≡ false) (λ i other. and_left (is_keyed key i) (brings_allocation i.role) other) instructions
    (unfound (is_keyed key) instructions (unmapped (λ (i : Instruction). i.number) _ fresh)))

pub allocation-out : (later front : List Instruction) (j : Instruction) (key : AllocKey) → is_allocation_of key j ≡ false → is_allocation_in (later ++ front) key ≡ is_allocation_in (later ++ j ∷ front) key
allocation-out later front j key other = any-skip (is_allocation_of key) later front j other

pub unended-out : (later front : List Instruction) (j : Instruction) (key : AllocKey) → ended_in (later ++ j ∷ front) key ≡ None → ended_in (later ++ front) key ≡ None
unended-out later front j key none = mapped-none (λ i. i.number) _ (find-less (λ (i : Instruction). ends key i.role) later front j (unmapped (λ (i : Instruction). i.number) _ none))

ended-out : (later front : List Instruction) (j : Instruction) (key : AllocKey) → ends key j.role ≡ false → ended_in (later ++ front) key ≡ ended_in (later ++ j ∷ front) key
ended-out later front j key other = ap (option_map (λ (i : Instruction). i.number)) (find-skip (λ (i : Instruction). ends key i.role) later front j other)

-- ---- holders

-- whether an instruction brings an allocation that j ended, and names a chain
abbrev pub regains : Instruction → ExecKey → Instruction → Bool
regains j root i = ends i.key j.role && brings_allocation i.role && names root i

-- a chain that no other live allocation names, and none that j ended, is named by none
pub holder-out : (later front : List Instruction) (j : Instruction) (reference : Option AllocKey) (root : ExecKey) → other_holder_in (later ++ j ∷ front) reference root ≡ None
    → list_any (regains j root) (later ++ j ∷ front) ≡ false → other_holder_in (later ++ front) reference root ≡ None
holder-out later front j reference root none lost =
    let whole = later ++ j ∷ front in
    let rest = later ++ front in
    let both = All-pairs (λ i. holds_beside whole reference root i ≡ false) (λ i. regains j root i ≡ false) whole
    (unfound (holds_beside whole reference root) whole (unmapped (λ (i : Instruction). i.number) _ none)) (any-none (regains j root) whole lost) in
    mapped-none (λ (i : Instruction). i.number) _
    (find-none (holds_beside rest reference root) rest
    (All-weaker (λ i. (holds_beside whole reference root i ≡ false) × (regains j root i ≡ false)) (λ i. holds_beside rest reference root i ≡ false)
    (λ i not_held.
    elim (cases_Bool (holds_beside rest reference root i)) [
      | inl held ↦
          let parts : ((is_live_in rest i && names root i) ≡ true) × (not (is_reference reference i.key) ≡ true) = and_parts _ _ held in
          let live : (is_live_in rest i ≡ true) × (names root i ≡ true) = and_parts _ _ parts.0 in
          let brought : (brings_allocation i.role ≡ true) × (is_none (ended_in rest i.key) ≡ true) = and_parts _ _ live.0 in
          elim (cases_Bool (ends i.key j.role)) [
            | inl ended ↦ absurd (differing (and_from _ _ (and_from _ _ ended brought.0) live.1) not_held.1)
            | inr other ↦
                let unended : is_none (ended_in whole i.key) ≡ true = ap is_none (sym (ended-out later front j i.key other)) ∙ brought.1 in
                absurd (differing (and_from _ _ (and_from _ _ (and_from _ _ brought.0 unended) live.1) parts.1) not_held.0)
          ]
      | inr free ↦ free
    ]) rest (All-less (λ i. (holds_beside whole reference root i ≡ false) × (regains j root i ≡ false)) later front j both)))

-- what j ended is ended by it alone
pub ends-refers : (key : AllocKey) (role : AllocRole) → ends key role ≡ true → reference_of role ≡ Some key
ends-refers key Allocates ended = cc
ends-refers key (Replaces reference) ended = ap Some (same_alloc-true reference key ended)
ends-refers key (Cancels reference) ended = ap Some (same_alloc-true reference key ended)

pub live-reference : (earlier : List Instruction) (i : Instruction) (key : AllocKey) → may_follow earlier i.key i.role i.roots ≡ true → ends key i.role ≡ true → ended_in earlier key ≡ None
live-reference earlier i key may ended =
    let refers : option_map_or (is_live_key earlier) (reference_of i.role) true ≡ true = (follows earlier i.key i.role i.roots may).refers in
    let live : is_live_key earlier key ≡ true = ap (λ o. option_map_or (is_live_key earlier) o true) (sym (ends-refers key i.role ended)) ∙ refers in
    let parts : (is_allocation_in earlier key ≡ true) × (is_none (ended_in earlier key) ≡ true) = and_parts _ _ live in
    none_is _ parts.1

pub ended-whole : (later front : List Instruction) (j : Instruction) (key : AllocKey) → ends key j.role ≡ true → ended_in (later ++ j ∷ front) key ≡ None → ⊥
ended-whole later front j key ended none = find-middle (λ (i : Instruction). ends key i.role) later front j ended (unmapped (λ (i : Instruction). i.number) _ none)

pub ended-alone : (later front : List Instruction) (j : Instruction) (key : AllocKey) → is_instructed (later ++ j ∷ front) ≡ true → ends key j.role ≡ true → ended_in (later ++ front) key ≡ None
ended-alone [] front j key instructed ended =
    let parts : (may_follow front j.key j.role j.roots ≡ true) × (is_instructed front ≡ true) = and_parts _ _ instructed in
    live-reference front j key parts.0 ended
ended-alone (i ∷ later) front j key instructed ended =
    let parts : (may_follow (later ++ j ∷ front) i.key i.role i.roots ≡ true) × (is_instructed (later ++ j ∷ front) ≡ true) = and_parts _ _ instructed in
    elim (cases_Bool (ends key i.role)) [
      | inl again ↦ absurd (ended-whole later front j key ended (live-reference (later ++ j ∷ front) i key parts.0 again))
      | inr other ↦ rw other (ended-alone later front j key parts.1 ended)
    ]

-- it isn't the allocation that it ended
pub ends-other : (later front : List Instruction) (j : Instruction) → is_instructed (later ++ j ∷ front) ≡ true → ends j.key j.role ≡ false
ends-other [] front j instructed =
    let parts : (may_follow front j.key j.role j.roots ≡ true) × (is_instructed front ≡ true) = and_parts _ _ instructed in
    let it = follows front j.key j.role j.roots parts.0 in
    elim (cases_Bool (ends j.key j.role)) [
      | inl ended ↦
          let own : is_reference (reference_of j.role) j.key ≡ true = ap (λ o. is_reference o j.key) (ends-refers j.key j.role ended) ∙ same_alloc-refl j.key in
          absurd (unknown_reference front j.key (reference_of j.role) it.refers own it.fresh)
      | inr other ↦ other
    ]
ends-other (i ∷ later) front j instructed =
    let parts : (may_follow (later ++ j ∷ front) i.key i.role i.roots ≡ true) × (is_instructed (later ++ j ∷ front) ≡ true) = and_parts _ _ instructed in
    ends-other later front j parts.1

-- a chain that an allocation names which j ended has a holder without j
pub holder-back : (later front : List Instruction) (j : Instruction) (reference : Option AllocKey) (root : ExecKey) → is_instructed (later ++ j ∷ front) ≡ true
    → ((key : AllocKey) → ends key j.role ≡ true → is_reference reference key ≡ false) → list_any (regains j root) (later ++ j ∷ front) ≡ true → other_holder_in (later ++ front) reference root ≡ None → ⊥
holder-back later front j reference root instructed beside some none =
    let rest = later ++ front in
    let own : regains j root j ≡ false = and_left _ (names root j) (and_left _ (brings_allocation j.role) (ends-other later front j instructed)) in
    let there : list_any (regains j root) rest ≡ true = any-skip (regains j root) later front j own ∙ some in
    let free = unfound (holds_beside rest reference root) rest (unmapped (λ (i : Instruction). i.number) _ none) in
    differing there
    (list_any_none (regains j root) rest
    (All-weaker (λ i. holds_beside rest reference root i ≡ false) (λ i. regains j root i ≡ false)
    (λ i unheld.
    elim (cases_Bool (regains j root i)) [
      | inl regained ↦
          let parts : ((ends i.key j.role && brings_allocation i.role) ≡ true) × (names root i ≡ true) = and_parts _ _ regained in
          let brought : (ends i.key j.role ≡ true) × (brings_allocation i.role ≡ true) = and_parts _ _ parts.0 in
          let unended : is_none (ended_in rest i.key) ≡ true = ap is_none (ended-alone later front j i.key instructed brought.0) in
          let held : holds_beside rest reference root i ≡ true = and_from _ _ (and_from _ _ (and_from _ _ brought.1 unended) parts.1) (not_from_false _ (beside i.key brought.0)) in
          absurd (differing held unheld)
      | inr other ↦ other
    ]) rest free))
