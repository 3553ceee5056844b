-- Instructions as they come: which allocations are live, and the chains that they name.
use Rattle.std.proofs.Common.{◌≡◌, ℕ, ◌≤◌, Bool, true, false, ◌&&◌, List, [], ◌∷◌, length, Option, Some, None, refl, sym, ap, subst, ◌∙◌, arith, inl, inr, not, filter, find, is_none, option_map}
use Rattle.std.specs.List.{list_any, list_all}
use Rattle.std.specs.Option.{option_map_or}
use Rattle.std.proofs.lemmas.Bool.{cases_Bool, and_parts}
use Rattle.blot_types.specs.declared.{allocation.AllocRole.AllocRole, allocation.Instruction.Instruction, keys.AllocKey.AllocKey, keys.ExecKey.ExecKey}
use Rattle.blot_types.specs.declared.allocation.AllocRole.TheVariants.{Allocates, Replaces, Cancels}
use Rattle.blot_types.specs.Instructions.{is_keyed, alloc_taker_in, brings_allocation, is_allocation_of, is_allocation_in, ends, ended_in, is_live_in, names, holds_in, is_reference, holds_beside, other_holder_in, reference_of, is_live_key, are_apart, may_follow, is_instructed}
use Rattle.blot_types.specs.Keys.{same_exec}
use Rattle.blot_types.proofs.ChainLemmas.{clash, differing, none_is}
use Rattle.blot_types.proofs.KeyLemmas.{same_exec-true, same_alloc-true}
use Rattle.blot_types.proofs.GeneralLemmas.{and-true, and-false}

-- ---- lists

-- what passes one test passes another: then no more pass it
pub fewer : {X : Type 0} (q p : X → Bool) (xs : List X) → ((x : X) → q x ≡ true → p x ≡ true) → length (filter q xs) ≤ length (filter p xs)
fewer q p [] weaker = omega arith
fewer q p (x ∷ xs) weaker =
    let rest = fewer q p xs weaker in
    elim (cases_Bool (q x)) [
      | inl passes ↦ rw (passes, weaker x passes) (omega (arith, rest))
      | inr fails ↦
          elim (cases_Bool (p x)) [
            | inl other ↦ rw (fails, other) (omega (arith, rest))
            | inr neither ↦ rw (fails, neither) rest
          ]
    ]

-- where none is found, none passes
pub filter-unfound : {X : Type 0} (p : X → Bool) (xs : List X) → find p xs ≡ None → filter p xs ≡ []
filter-unfound p [] none = refl
filter-unfound p (x ∷ xs) none =
    elim (cases_Bool (p x)) [
      | inl passes ↦ absurd (clash (rw passes at none))
      | inr fails ↦ rw fails (filter-unfound p xs (rw fails at none))
    ]

pub no_number : {X : Type 0} (f : X → ℕ) (found : Option X) → option_map f found ≡ None → found ≡ None
no_number f None none = refl
no_number f (Some x) none = cc

no_length : {X : Type 0} (xs : List X) → xs ≡ [] → length xs ≤ 0
no_length xs is = rw is (omega arith)

-- ---- one more instruction

-- an allocation is live after one more instruction where it was live, and that doesn't end it
pub live-step : (i : Instruction) (earlier : List Instruction) (j : Instruction) → is_live_in (i ∷ earlier) j ≡ (is_live_in earlier j && not (ends j.key i.role))
live-step i earlier j =
    elim (cases_Bool (ends j.key i.role)) [
      | inl ended ↦ rw ended (and-false (brings_allocation j.role) ∙ sym (and-false (is_live_in earlier j)))
      | inr not_ended ↦ rw not_ended (sym (and-true (is_live_in earlier j)))
    ]

pub swap : (a b c : Bool) → ((a && b) && c) ≡ ((a && c) && b)
swap true true c = sym (and-true c)
swap true false c = sym (and-false c)
swap false b c = refl

pub holds-step : (i : Instruction) (earlier : List Instruction) (root : ExecKey) (j : Instruction) → holds_in (i ∷ earlier) root j ≡ (holds_in earlier root j && not (ends j.key i.role))
holds-step i earlier root j = ap (λ live. live && names root j) (live-step i earlier j) ∙ swap (is_live_in earlier j) (not (ends j.key i.role)) (names root j)

-- an instruction ends the allocation that it refers to, and no other
pub ends-reference : (key : AllocKey) (role : AllocRole) → ends key role ≡ is_reference (reference_of role) key
ends-reference key Allocates = refl
ends-reference key (Replaces reference) = refl
ends-reference key (Cancels reference) = refl

-- so the live allocations after it that name a chain are those other than the one that it refers to
holds-beside : (i : Instruction) (earlier : List Instruction) (root : ExecKey) (j : Instruction) → holds_in (i ∷ earlier) root j ≡ holds_beside earlier (reference_of i.role) root j
holds-beside i earlier root j = holds-step i earlier root j ∙ ap (λ test. holds_in earlier root j && not test) (ends-reference j.key i.role)

-- what `may_follow` says
pub record Follows (earlier : List Instruction) (key : AllocKey) (role : AllocRole) (roots : List ExecKey) : Type 0 where
  pub fresh : alloc_taker_in earlier key ≡ None
  pub refers : option_map_or (is_live_key earlier) (reference_of role) true ≡ true
  pub apart : are_apart roots ≡ true
  pub unnamed : list_all (λ root. is_none (other_holder_in earlier (reference_of role) root)) roots ≡ true

pub follows : (earlier : List Instruction) (key : AllocKey) (role : AllocRole) (roots : List ExecKey) → may_follow earlier key role roots ≡ true → Follows earlier key role roots
follows earlier key role roots may =
    let last : ((is_none (alloc_taker_in earlier key) && option_map_or (is_live_key earlier) (reference_of role) true && are_apart roots) ≡ true)
    × (list_all (λ root. is_none (other_holder_in earlier (reference_of role) root)) roots ≡ true) = and_parts _ _ may in
    let middle : ((is_none (alloc_taker_in earlier key) && option_map_or (is_live_key earlier) (reference_of role) true) ≡ true) × (are_apart roots ≡ true) = and_parts _ _ last.0 in
    let first : (is_none (alloc_taker_in earlier key) ≡ true) × (option_map_or (is_live_key earlier) (reference_of role) true ≡ true) = and_parts _ _ middle.0 in
    record { fresh = none_is (alloc_taker_in earlier key) first.0; refers = first.1; apart = middle.1; unnamed = last.1 }

-- ---- a chain is named once

-- a chain that an instruction names is held by no other live allocation
pub named-free :
    (earlier : List Instruction) (reference : Option AllocKey) (root : ExecKey) (roots : List ExecKey)
    → list_all (λ r. is_none (other_holder_in earlier reference r)) roots ≡ true → list_any (λ named. same_exec named root) roots ≡ true
    → other_holder_in earlier reference root ≡ None
named-free earlier reference root [] all any = cc
named-free earlier reference root (first ∷ roots) all any =
    let parts : (is_none (other_holder_in earlier reference first) ≡ true) × (list_all (λ r. is_none (other_holder_in earlier reference r)) roots ≡ true) = and_parts _ _ all in
    elim (cases_Bool (same_exec first root)) [
      | inl same ↦
          subst (λ r. other_holder_in earlier reference r ≡ None) (same_exec-true first root same) (none_is (other_holder_in earlier reference first) parts.0)
      | inr other ↦ named-free earlier reference root roots parts.1 (rw other at any)
    ]

abbrev holders : List Instruction → ExecKey → List Instruction
holders instructions root = filter (holds_in instructions root) instructions

held-behind : (i : Instruction) (earlier : List Instruction) (root : ExecKey) → length (filter (holds_in (i ∷ earlier) root) earlier) ≤ length (holders earlier root)
held-behind i earlier root =
    fewer (holds_in (i ∷ earlier) root) (holds_in earlier root) earlier
    (λ j held. (and_parts (holds_in earlier root j) (not (ends j.key i.role)) (sym (holds-step i earlier root j) ∙ held)).0)

held-by-it :
    (i : Instruction) (earlier : List Instruction) (root : ExecKey) → Follows earlier i.key i.role i.roots → names root i ≡ true
    → length (filter (holds_in (i ∷ earlier) root) earlier) ≤ 0
held-by-it i earlier root follows_them named =
    let reference = reference_of i.role in
    let free : other_holder_in earlier reference root ≡ None = named-free earlier reference root i.roots follows_them.unnamed named in
    let none : filter (holds_beside earlier reference root) earlier ≡ [] = filter-unfound (holds_beside earlier reference root) earlier (no_number (λ x. x.number) _ free) in
    let bound : length (filter (holds_in (i ∷ earlier) root) earlier) ≤ length (filter (holds_beside earlier reference root) earlier) =
    fewer (holds_in (i ∷ earlier) root) (holds_beside earlier reference root) earlier (λ j held. sym (holds-beside i earlier root j) ∙ held) in
    omega (arith, bound, no_length _ none)

pub named_once : (instructions : List Instruction) → is_instructed instructions ≡ true → (root : ExecKey) → length (filter (holds_in instructions root) instructions) ≤ 1
named_once [] instructed root = omega arith
named_once (i ∷ earlier) instructed root =
    let parts : (may_follow earlier i.key i.role i.roots ≡ true) × (is_instructed earlier ≡ true) = and_parts _ _ instructed in
    let before : length (holders earlier root) ≤ 1 = named_once earlier parts.1 root in
    elim (cases_Bool (holds_in (i ∷ earlier) root i)) [
      | inl held ↦
          let named : names root i ≡ true = (and_parts (is_live_in (i ∷ earlier) i) (names root i) held).1 in
          let alone = held-by-it i earlier root (follows earlier i.key i.role i.roots parts.0) named in
          rw held (omega (arith, alone))
      | inr passed ↦ rw passed (omega (arith, before, held-behind i earlier root))
    ]

-- ---- keys

-- a key that is new is that of no allocation, and nothing ended it
taken-any : (key : AllocKey) (instructions : List Instruction) → alloc_taker_in instructions key ≡ None → list_any (is_allocation_of key) instructions ≡ false
taken-any key [] fresh = refl
taken-any key (i ∷ earlier) fresh =
    elim (cases_Bool (is_keyed key i)) [
      | inl here ↦ absurd (clash (rw here at fresh))
      | inr other ↦ rw other (taken-any key earlier (rw other at fresh))
    ]

pub unknown_reference :
    (earlier : List Instruction) (key : AllocKey) (reference : Option AllocKey) → option_map_or (is_live_key earlier) reference true ≡ true
    → is_reference reference key ≡ true → alloc_taker_in earlier key ≡ None → ⊥
unknown_reference earlier key None refers is fresh = differing is refl
unknown_reference earlier key (Some reference) refers is fresh =
    let same : reference ≡ key = same_alloc-true reference key is in
    let live : is_live_key earlier key ≡ true = ap (is_live_key earlier) (sym same) ∙ refers in
    differing (and_parts (is_allocation_in earlier key) (is_none (ended_in earlier key)) live).0 (taken-any key earlier fresh)

pub unended : (instructions : List Instruction) (key : AllocKey) → is_instructed instructions ≡ true → alloc_taker_in instructions key ≡ None → ended_in instructions key ≡ None
unended [] key instructed fresh = refl
unended (i ∷ earlier) key instructed fresh =
    let parts : (may_follow earlier i.key i.role i.roots ≡ true) × (is_instructed earlier ≡ true) = and_parts _ _ instructed in
    let it = follows earlier i.key i.role i.roots parts.0 in
    elim (cases_Bool (is_keyed key i)) [
      | inl here ↦ absurd (clash (rw here at fresh))
      | inr other ↦
          let older : alloc_taker_in earlier key ≡ None = rw other at fresh in
          elim (cases_Bool (ends key i.role)) [
            | inl ended ↦ absurd (unknown_reference earlier key (reference_of i.role) it.refers (sym (ends-reference key i.role) ∙ ended) older)
            | inr not_ended ↦ rw not_ended (unended earlier key parts.1 older)
          ]
    ]
