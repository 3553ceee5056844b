-- The first instruction that needs another, and the first that lists a root.
use Rattle.std.proofs.Common.{◌≡◌, ℕ, ◌+◌, ◌<◌, Bool, true, false, cond, ◌&&◌, ◌||◌, List, [], ◌∷◌, get_or, length, reverse, take, Option, Some, None, sym, ap, subst, ◌∙◌, inl, inr, arith, All, find, nat_eq, nat_lt, option_and_then, option_map, eqb-true, ltb-true}
use Rattle.std.specs.Option.{option_map_or, option_or}
use Rattle.std.proofs.lemmas.Bool.{and_parts, cases_Bool}
use Rattle.std.proofs.lemmas.List.{reverse-reverse}
use Rattle.std.proofs.lemmas.List.Elements.{All-cons, All-nil}
use Rattle.std.proofs.lemmas.List.Folds.{list_any_more}
use Rattle.std.proofs.lemmas.Option.{same_Some}
use Rattle.blot_types.specs.declared.{allocation.AllocRole.AllocRole, allocation.Instruction.Instruction, keys.AllocKey.AllocKey, keys.ExecKey.ExecKey}
use Rattle.blot_types.specs.Instructions.{ended_in, ended_roots, ends, first_instruction, first_naming, first_needing_instruction, is_instructed, is_keyed, may_follow, names, names_any, needs_instruction, reference_of}
use Rattle.blot_types.specs.Keys.{same_exec}
use Rattle.blot_types.specs.Lesser.{lesser}
use Rattle.blot_types.proofs.AllocOutLemmas.{ends-other, live-reference}
use Rattle.blot_types.proofs.InstructionLemmas.{follows, unended}
use Rattle.blot_types.proofs.GeneralLemmas.{and-false, or-none, and-either}
use Rattle.blot_places.specs.declared.slots.Slot.{Slot}
use Rattle.blot_places.specs.Places.{places_in}
use Rattle.blot_places.specs.Shown.{Shown, item_at, shown_of}
use Rattle.blot_places.specs.Slots.{UpToFirst, is_above, live, numbers_fall, oldest_above, places_by}
use Rattle.blot_places.proofs.AroundLemmas.{oldest-above, parted-above}
use Rattle.blot_places.proofs.FirstLemmas.{first-either, first-more, first-none, first_by}
use Rattle.blot_places.proofs.MarkLemmas.{falling-side}
use Rattle.blot_places.proofs.ShownLemmas.{at-here, at-number, at-on, falling-parts}
use Rattle.blot_alloc.specs.declared.index.Index.{Index}
use Rattle.blot_alloc.specs.Allocs.{number_of, roots_in}
use Rattle.blot_alloc.specs.Holds.{HoldsAllocs}
use Rattle.blot_alloc.specs.Index.{stack_under}

-- ---- the stack of a root

module _ (index : Index) (slots : List (Slot Instruction)) (holds : HoldsAllocs index (reverse slots)) (root : ExecKey) (n : ℕ) where
  named : reverse (stack_under index.holders root) ≡ places_by (names root) (reverse slots)
  named = reverse-reverse (places_in same_exec index.holders root) ∙ holds.indexed.holders root

  pub parted-names : UpToFirst number_of n slots (stack_under index.holders root)
  parted-names = parted-above number_of n (names root) slots (stack_under index.holders root) named holds.fall

  pub naming-held : option_map number_of (oldest_above number_of n slots (stack_under index.holders root)) ≡ first_naming (live (reverse slots)) n root
  naming-held = ap (option_map number_of) (oldest-above number_of n (names root) slots (stack_under index.holders root) named)

-- what a contract sees falls
pub shown-falls : (index : Index) (slots : List (Slot Instruction)) (shown : Shown Instruction) → HoldsAllocs index slots → shown_of slots ≡ shown → numbers_fall number_of shown.list ≡ true
shown-falls index slots shown holds view = subst (λ (shown : Shown Instruction). numbers_fall number_of shown.list ≡ true) view (falling-side number_of true slots holds.fall)

-- ---- one of some roots

-- the first that passes one of two tests
first-of_two :
    (p q : Instruction → Bool) (n : ℕ) (instructions : List Instruction) → numbers_fall number_of instructions ≡ true
    → first_instruction (λ i. p i || q i) n instructions ≡ lesser (first_instruction p n instructions) (first_instruction q n instructions)
first-of_two p q n instructions fall =
    ap (λ test. first_by number_of test instructions) (λ i x. and-either (nat_lt n (number_of x)) (p x) (q x) i)
    ∙ first-either number_of (λ x. nat_lt n (number_of x) && p x) (λ x. nat_lt n (number_of x) && q x) instructions fall

all-fail : (n : ℕ) (instructions : List Instruction) → All (λ x. (nat_lt n (number_of x) && false) ≡ false) instructions
all-fail n [] = All-nil (λ x. (nat_lt n (number_of x) && false) ≡ false)
all-fail n (i ∷ earlier) = All-cons (λ x. (nat_lt n (number_of x) && false) ≡ false) i earlier (and-false (nat_lt n (number_of i))) (all-fail n earlier)

pub none-asked : (n : ℕ) (instructions : List Instruction) → first_instruction (λ i. false) n instructions ≡ None
none-asked n instructions = first-none number_of (λ x. nat_lt n (number_of x) && false) instructions (all-fail n instructions)

-- one root more
pub any-more :
    (roots more : List ExecKey) (root : ExecKey) (n : ℕ) (instructions : List Instruction) → numbers_fall number_of instructions ≡ true
    → ((i : Instruction) → names_any more i ≡ (names_any roots i || names root i))
    → lesser (first_instruction (names_any roots) n instructions) (first_naming instructions n root) ≡ first_instruction (names_any more) n instructions
any-more roots more root n instructions fall is =
    sym (first-of_two (names_any roots) (names root) n instructions fall)
    ∙ sym (ap (λ test. first_instruction test n instructions) (λ k i. is i k))

-- at a step of a loop over roots
pub any-step :
    (roots : List ExecKey) (index : ℕ) (root : ExecKey) (n : ℕ) (instructions : List Instruction) → numbers_fall number_of instructions ≡ true
    → index < length roots → root ≡ get_or roots index root
    → lesser (first_instruction (names_any (take index roots)) n instructions) (first_naming instructions n root) ≡ first_instruction (names_any (take (index + 1) roots)) n instructions
any-step roots index root n instructions fall within is =
    any-more (take index roots) (take (index + 1) roots) root n instructions fall
    (λ i. list_any_more (λ root. names root i) roots index root within ∙ ap (λ r. names_any (take index roots) i || names r i) (sym is))

-- the roots that an ended allocation names, found by its key
roots-of_found : (found : Option Instruction) (roots : Option (List ExecKey)) → option_map (λ i. i.roots) found ≡ roots → option_map_or (λ (i : Instruction). i.roots) found [] ≡ option_map_or (λ rs. rs) roots []
roots-of_found None roots is = ap (λ roots. option_map_or (λ (rs : List ExecKey). rs) roots []) is
roots-of_found (Some i) roots is = ap (λ roots. option_map_or (λ (rs : List ExecKey). rs) roots []) is

pub ended_roots-by :
    (instructions : List Instruction) (role : AllocRole) (key : AllocKey) (roots : Option (List ExecKey)) → Some key ≡ reference_of role → roots ≡ roots_in instructions key
    → ended_roots instructions role ≡ option_map_or (λ rs. rs) roots []
ended_roots-by instructions role key roots refers is =
    ap (λ found. option_map_or (λ (i : Instruction). i.roots) (option_and_then (λ key. find (is_keyed key) instructions) found) []) (sym refers)
    ∙ roots-of_found (find (is_keyed key) instructions) roots (sym is)

pub ended_roots-none : (instructions : List Instruction) (role : AllocRole) → None ≡ reference_of role → ended_roots instructions role ≡ []
ended_roots-none instructions role refers =
    ap (λ found. option_map_or (λ (i : Instruction). i.roots) (option_and_then (λ key. find (is_keyed key) instructions) found) []) (sym refers)

-- ---- what ends the allocation of an instruction comes after it

none-above : (p : Instruction → Bool) (n : ℕ) (instructions : List Instruction) → is_above number_of n instructions ≡ true → All (λ x. (nat_lt n (number_of x) && p x) ≡ false) instructions
none-above p n [] above = All-nil (λ x. (nat_lt n (number_of x) && p x) ≡ false)
none-above p n (i ∷ earlier) above =
    let parts : (nat_lt (number_of i) n ≡ true) × (is_above number_of n earlier ≡ true) = and_parts _ _ above in
    let less : number_of i < n = ltb-true _ _ parts.0 in
    All-cons (λ x. (nat_lt n (number_of x) && p x) ≡ false) i earlier
    (elim (cases_Bool (nat_lt n (number_of i))) [
      | inl more ↦ let after : n < number_of i = ltb-true _ _ more in absurd (omega (arith, less, after))
      | inr other ↦ ap (λ b. b && p i) other
    ]) (none-above p n earlier parts.1)

-- where none is above the number
none-after : (p : Instruction → Bool) (n : ℕ) (instructions : List Instruction) → is_above number_of n instructions ≡ true → first_instruction p n instructions ≡ None
none-after p n instructions above = first-none number_of (λ x. nat_lt n (number_of x) && p x) instructions (none-above p n instructions above)

-- the instruction of the number itself
ended-own :
    (i : Instruction) (earlier : List Instruction) (n : ℕ) → is_instructed (i ∷ earlier) ≡ true → numbers_fall number_of (i ∷ earlier) ≡ true → number_of i ≡ n
    → ended_in (i ∷ earlier) i.key ≡ first_instruction (λ x. ends i.key x.role) n (i ∷ earlier)
ended-own i earlier n instructed fall its =
    let parts : (may_follow earlier i.key i.role i.roots ≡ true) × (is_instructed earlier ≡ true) = and_parts _ _ instructed in
    let falling = falling-parts number_of i earlier fall in
    let other : ends i.key i.role ≡ false = ends-other [] earlier i instructed in
    let none : ended_in earlier i.key ≡ None = unended earlier i.key parts.1 (follows earlier i.key i.role i.roots parts.0).fresh in
    let test : Instruction → Bool = λ x. nat_lt n (number_of x) && ends i.key x.role in
    let fails : test i ≡ false = ap (λ b. nat_lt n (number_of i) && b) other ∙ and-false (nat_lt n (number_of i)) in
    ap (λ b. option_map number_of (cond b (Some i) (find (λ x. ends i.key x.role) earlier))) other ∙ none
    ∙ sym (first-more number_of test i earlier
    ∙ ap (λ b. option_or (first_by number_of test earlier) (cond b (Some (number_of i)) None)) fails
    ∙ ap (λ found. option_or found None) (none-after (λ x. ends i.key x.role) n earlier (subst (λ m. is_above number_of m earlier ≡ true) its falling.0)))

its-number : (n : ℕ) (instructions : List Instruction) (k : Instruction) → item_at number_of n instructions ≡ Some k → number_of k ≡ n
its-number n [] k found = cc
its-number n (i ∷ earlier) k found = elim (cases_Bool (nat_eq (number_of i) n)) [
  | inl here ↦ ap number_of (sym (same_Some i k (sym (at-here number_of n i earlier here) ∙ found))) ∙ eqb-true _ _ here
  | inr other ↦ its-number n earlier k (sym (at-on number_of n i earlier other) ∙ found)
]

pub ended-after :
    (instructions : List Instruction) (n : ℕ) (k : Instruction) → is_instructed instructions ≡ true → numbers_fall number_of instructions ≡ true
    → item_at number_of n instructions ≡ Some k → ended_in instructions k.key ≡ first_instruction (λ i. ends k.key i.role) n instructions
ended-after [] n k instructed fall found = cc
ended-after (i ∷ earlier) n k instructed fall found =
    let parts : (may_follow earlier i.key i.role i.roots ≡ true) × (is_instructed earlier ≡ true) = and_parts _ _ instructed in
    let falling = falling-parts number_of i earlier fall in
    let test : Instruction → Bool = λ x. nat_lt n (number_of x) && ends k.key x.role in
    elim (cases_Bool (nat_eq (number_of i) n)) [
      | inl here ↦
          subst (λ (k : Instruction). ended_in (i ∷ earlier) k.key ≡ first_instruction (λ x. ends k.key x.role) n (i ∷ earlier))
          (same_Some i k (sym (at-here number_of n i earlier here) ∙ found)) (ended-own i earlier n instructed fall (eqb-true _ _ here))
      | inr other ↦
          let behind : item_at number_of n earlier ≡ Some k = sym (at-on number_of n i earlier other) ∙ found in
          let rest = ended-after earlier n k parts.1 falling.1 behind in
          elim (cases_Bool (ends k.key i.role)) [
            | inl ended ↦
                let none : ended_in earlier k.key ≡ None = live-reference earlier i k.key parts.0 ended in
                let after : nat_lt n (number_of i) ≡ true = subst (λ m. nat_lt m (number_of i) ≡ true) (its-number n earlier k behind) (at-number number_of n (number_of i) earlier k falling.0 behind) in
                ap (λ b. option_map number_of (cond b (Some i) (find (λ x. ends k.key x.role) earlier))) ended
                ∙ sym (first-more number_of test i earlier
                ∙ ap (λ found. option_or found (cond (test i) (Some (number_of i)) None)) (sym rest ∙ none)
                ∙ ap (λ b. cond b (Some (number_of i)) None) (ap (λ b. b && ends k.key i.role) after ∙ ended))
            | inr not_ended ↦
                ap (λ b. option_map number_of (cond b (Some i) (find (λ x. ends k.key x.role) earlier))) not_ended ∙ rest
                ∙ sym (first-more number_of test i earlier
                ∙ ap (λ b. option_or (first_by number_of test earlier) (cond b (Some (number_of i)) None)) (ap (λ b. nat_lt n (number_of i) && b) not_ended ∙ and-false (nat_lt n (number_of i)))
                ∙ or-none (first_by number_of test earlier))
          ]
    ]

-- ---- what needs an instruction

pub needing-none : (instructions : List Instruction) (n : ℕ) → item_at number_of n instructions ≡ None → first_needing_instruction instructions n ≡ None
needing-none instructions n none = ap (option_and_then (λ k. first_instruction (needs_instruction instructions k) n instructions)) none

pub needing-found :
    (instructions : List Instruction) (n : ℕ) (k : Instruction) → is_instructed instructions ≡ true → numbers_fall number_of instructions ≡ true
    → item_at number_of n instructions ≡ Some k
    → lesser (ended_in instructions k.key) (first_instruction (names_any (ended_roots instructions k.role)) n instructions) ≡ first_needing_instruction instructions n
needing-found instructions n k instructed fall found =
    let freed = names_any (ended_roots instructions k.role) in
    ap (λ ended. lesser ended (first_instruction freed n instructions)) (ended-after instructions n k instructed fall found)
    ∙ sym (first-of_two (λ i. ends k.key i.role) freed n instructions fall)
    ∙ sym (ap (option_and_then (λ k. first_instruction (needs_instruction instructions k) n instructions)) found)
