-- What one more instruction changes: the chains that are named, and the allocations that are live.
use Rattle.std.proofs.Common.{◌≡◌, ◌+◌, ◌≤◌, Bool, true, false, ◌&&◌, arith, List, [], ◌∷◌, length, Some, None, refl, sym, ap, subst, ◌∙◌, inl, inr, ◌||◌, filter, find, is_none, not, All}
use Rattle.std.specs.List.{list_any}
use Rattle.std.proofs.lemmas.Bool.{cases_Bool, and_from, and_parts}
use Rattle.std.proofs.lemmas.List.Elements.{All-nil, All-cons, All-head, All-tail, All-weaker}
use Rattle.blot_types.specs.declared.{allocation.Instruction.Instruction, keys.AllocKey.AllocKey, keys.ExecKey.ExecKey}
use Rattle.blot_types.specs.Instructions.{is_keyed, alloc_taker_in, brings_allocation, is_allocation_of, is_allocation_in, ends, ended_in, is_live_in, names, holds_in, named_in, reference_of, is_live_key, may_follow, is_instructed}
use Rattle.blot_types.specs.Keys.{is_among, same_alloc}
use Rattle.blot_types.proofs.AcceptLemmas.{instructed}
use Rattle.blot_types.proofs.ChainLemmas.{clash, differing}
use Rattle.blot_types.proofs.ChangeLemmas.{named-held}
use Rattle.blot_types.proofs.InstructionLemmas.{Follows, follows, holds-step, ends-reference, unknown_reference, unended, named_once}
use Rattle.blot_types.proofs.KeyLemmas.{same_alloc-true, same_alloc-sym}
use Rattle.blot_types.proofs.SurvivorLemmas.{find-passes}
use Rattle.blot_types.proofs.GeneralLemmas.{and-true, and-false, any-same, any-agree}

-- ---- lists

pub any-length : {X : Type 0} (p : X → Bool) (xs : List X) → list_any p xs ≡ true → 1 ≤ length (filter p xs)
any-length p [] any = cc
any-length p (x ∷ xs) any =
    elim (cases_Bool (p x)) [
      | inl passes ↦ rw passes (omega arith)
      | inr fails ↦ rw fails (any-length p xs (rw fails at any))
    ]

found-length : {X : Type 0} (p q : X → Bool) (xs : List X) (x : X) → find p xs ≡ Some x → q x ≡ true → 1 ≤ length (filter q xs)
found-length p q [] x found kept = cc
found-length p q (y ∷ ys) x found kept =
    elim (cases_Bool (q y)) [
      | inl passes ↦ rw passes (omega arith)
      | inr fails ↦
          elim (cases_Bool (p y)) [
            | inl here ↦
                let same : Some y ≡ Some x = rw here at found in
                let one : y ≡ x = cc in
                absurd (differing (ap q one ∙ kept) fails)
            | inr passed ↦ rw fails (found-length p q ys x (rw passed at found) kept)
          ]
    ]

length-split : {X : Type 0} (a b : X → Bool) (xs : List X) → length (filter (λ x. a x && not (b x)) xs) + length (filter (λ x. a x && b x) xs) ≡ length (filter a xs)
length-split a b [] = refl
length-split a b (x ∷ xs) =
    let rest = length-split a b xs in
    elim (cases_Bool (a x)) [
      | inl first ↦
          elim (cases_Bool (b x)) [
            | inl second ↦ rw (first, second) (omega (arith, rest))
            | inr other ↦ rw (first, other) (omega (arith, rest))
          ]
      | inr fails ↦ rw fails rest
    ]

-- ---- the new instruction itself

-- it doesn't refer to itself, and nothing ended its allocation
pub own-unended : (instructions : List Instruction) (i : Instruction) → is_instructed instructions ≡ true → Follows instructions i.key i.role i.roots → ended_in (i ∷ instructions) i.key ≡ None
own-unended instructions i instructed it =
    elim (cases_Bool (ends i.key i.role)) [
      | inl ended ↦ absurd (unknown_reference instructions i.key (reference_of i.role) it.refers (sym (ends-reference i.key i.role) ∙ ended) it.fresh)
      | inr other ↦ rw other (unended instructions i.key instructed it.fresh)
    ]

own-live : (instructions : List Instruction) (i : Instruction) → is_instructed instructions ≡ true → Follows instructions i.key i.role i.roots → is_live_in (i ∷ instructions) i ≡ brings_allocation i.role
own-live instructions i instructed it = ap (λ ended. brings_allocation i.role && is_none ended) (own-unended instructions i instructed it) ∙ and-true (brings_allocation i.role)

-- the chains that are named with it: its own, if it brings an allocation, and those of the allocations that it doesn't end
pub named-more :
    (instructions : List Instruction) (i : Instruction) (root : ExecKey) → is_instructed instructions ≡ true → Follows instructions i.key i.role i.roots
    → is_among (named_in (i ∷ instructions)) root
    ≡ ((brings_allocation i.role && is_among i.roots root) || list_any (λ j. holds_in instructions root j && not (ends j.key i.role)) instructions)
named-more instructions i root instructed it =
    named-held (i ∷ instructions) root
    ∙ ap (λ live. (live && names root i) || list_any (holds_in (i ∷ instructions) root) instructions) (own-live instructions i instructed it)
    ∙ ap (λ rest. (brings_allocation i.role && names root i) || rest)
    (any-same (holds_in (i ∷ instructions) root) (λ j. holds_in instructions root j && not (ends j.key i.role)) instructions (λ j. holds-step i instructions root j))

-- ---- the allocation that it ends

-- one instruction alone takes up a key
unkeyed : (key : AllocKey) (instructions : List Instruction) → alloc_taker_in instructions key ≡ None → All (λ j. is_keyed key j ≡ false) instructions
unkeyed key [] fresh = All-nil (λ j. is_keyed key j ≡ false)
unkeyed key (i ∷ earlier) fresh =
    elim (cases_Bool (is_keyed key i)) [
      | inl here ↦ absurd (clash (rw here at fresh))
      | inr other ↦ All-cons (λ j. is_keyed key j ≡ false) i earlier other (unkeyed key earlier (rw other at fresh))
    ]

keyed-same :
    (key : AllocKey) (instructions : List Instruction) (t : Instruction) → is_instructed instructions ≡ true → find (is_keyed key) instructions ≡ Some t
    → All (λ j. is_keyed key j ≡ true → j ≡ t) instructions
keyed-same key [] t instructed found = cc
keyed-same key (i ∷ earlier) t instructed found =
    let parts : (may_follow earlier i.key i.role i.roots ≡ true) × (is_instructed earlier ≡ true) = and_parts _ _ instructed in
    elim (cases_Bool (is_keyed key i)) [
      | inl here ↦
          let is : Some i ≡ Some t = rw here at found in
          let one : i ≡ t = cc in
          let own : i.key ≡ key = same_alloc-true i.key key here in
          let fresh : alloc_taker_in earlier key ≡ None = ap (alloc_taker_in earlier) (sym own) ∙ (follows earlier i.key i.role i.roots parts.0).fresh in
          All-cons (λ j. is_keyed key j ≡ true → j ≡ t) i earlier (λ keyed. one)
          (All-weaker (λ j. is_keyed key j ≡ false) (λ j. is_keyed key j ≡ true → j ≡ t) (λ j other keyed. absurd (differing keyed other)) earlier (unkeyed key earlier fresh))
      | inr other ↦
          All-cons (λ j. is_keyed key j ≡ true → j ≡ t) i earlier (λ keyed. absurd (differing keyed other))
          (keyed-same key earlier t parts.1 (rw other at found))
    ]

any-all : {X : Type 0} (p : X → Bool) (P : X → Type 0) (Q : Type 0) (xs : List X) → list_any p xs ≡ true → All P xs → ((x : X) → p x ≡ true → P x → Q) → Q
any-all p P Q [] any all step = cc
any-all p P Q (x ∷ xs) any all step =
    elim (cases_Bool (p x)) [
      | inl passes ↦ step x passes (All-head P x xs all)
      | inr fails ↦ any-all p P Q xs (rw fails at any) (All-tail P x xs all) step
    ]

-- the allocation of a live key is live
pub keyed-live :
    (instructions : List Instruction) (key : AllocKey) (t : Instruction) → is_instructed instructions ≡ true → is_live_key instructions key ≡ true
    → find (is_keyed key) instructions ≡ Some t → is_live_in instructions t ≡ true
keyed-live instructions key t instructed live found =
    let parts : (is_allocation_in instructions key ≡ true) × (is_none (ended_in instructions key) ≡ true) = and_parts _ _ live in
    any-all (is_allocation_of key) (λ j. is_keyed key j ≡ true → j ≡ t) (is_live_in instructions t ≡ true) instructions parts.0 (keyed-same key instructions t instructed found)
    (λ j is same.
    let both : (is_keyed key j ≡ true) × (brings_allocation j.role ≡ true) = and_parts _ _ is in
    let one : j ≡ t = same both.0 in
    let own : j.key ≡ key = same_alloc-true j.key key both.0 in
    subst (λ k. is_live_in instructions k ≡ true) one (and_from _ _ both.1 (ap (λ k. is_none (ended_in instructions k)) own ∙ parts.1)))

-- without the allocation of a live key, exactly its chains are named no more
pub named-less :
    (instructions : List Instruction) (key : AllocKey) (t : Instruction) (root : ExecKey) → is_instructed instructions ≡ true → is_live_key instructions key ≡ true
    → find (is_keyed key) instructions ≡ Some t
    → list_any (λ j. holds_in instructions root j && not (same_alloc key j.key)) instructions ≡ (is_among (named_in instructions) root && not (is_among t.roots root))
named-less instructions key t root instructed live found =
    let holds = holds_in instructions root in
    let keyed : Instruction → Bool = λ j. same_alloc key j.key in
    let stands = keyed-live instructions key t instructed live found in
    let own : is_keyed key t ≡ true = find-passes (is_keyed key) instructions t found in
    let all_same = keyed-same key instructions t instructed found in
    elim (cases_Bool (is_among t.roots root)) [
      | inl named ↦
          let it_holds : (holds t && keyed t) ≡ true = and_from _ _ (and_from _ _ stands named) (same_alloc-sym key t.key ∙ own) in
          let one : 1 ≤ length (filter (λ j. holds j && keyed j) instructions) = found-length (is_keyed key) (λ j. holds j && keyed j) instructions t found it_holds in
          elim (cases_Bool (list_any (λ j. holds j && not (keyed j)) instructions)) [
            | inl another ↦
                let two : 1 ≤ length (filter (λ j. holds j && not (keyed j)) instructions) = any-length (λ j. holds j && not (keyed j)) instructions another in
                absurd (omega (arith, one, two, length-split holds keyed instructions, named_once instructions instructed root))
            | inr none ↦ none ∙ sym (ap (λ b. is_among (named_in instructions) root && not b) named ∙ and-false (is_among (named_in instructions) root))
          ]
      | inr unnamed ↦
          any-agree (λ j. holds j && not (keyed j)) holds instructions
          (All-weaker (λ j. is_keyed key j ≡ true → j ≡ t) (λ j. (holds j && not (keyed j)) ≡ holds j)
          (λ j same.
          elim (cases_Bool (keyed j)) [
            | inl here ↦
                let is : j ≡ t = same (same_alloc-sym j.key key ∙ here) in
                let passed : holds j ≡ false = ap holds is ∙ ap (λ b. is_live_in instructions t && b) unnamed ∙ and-false (is_live_in instructions t) in
                rw passed refl
            | inr other ↦ rw other (and-true (holds j))
          ]) instructions all_same)
          ∙ sym (named-held instructions root) ∙ sym (ap (λ b. is_among (named_in instructions) root && not b) unnamed ∙ and-true (is_among (named_in instructions) root))
    ]
