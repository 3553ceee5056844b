-- What the allocations keep with one instruction more, one less, and one lifted out or put back; and what their look-ups find.
use Rattle.std.proofs.Common.{◌≡◌, ℕ, ◌<◌, Bool, true, List, [], ◌∷◌, ◌++◌, reverse, Option, Some, None, refl, sym, ap, subst, ◌∙◌, arith, inl, inr, find, IsSome, ltb-true}
use Rattle.std.specs.List.{list_all}
use Rattle.std.proofs.lemmas.Bool.{cases_Bool, and_parts, and_from}
use Rattle.std.proofs.lemmas.List.{reverse-append}
use Rattle.blot_types.specs.declared.{allocation.AllocRole.AllocRole, allocation.Instruction.Instruction, keys.AllocKey.AllocKey, keys.ExecKey.ExecKey}
use Rattle.blot_types.specs.Instructions.{are_apart, ends, holds_in, is_above_instructions, is_instructed, is_keyed, is_live_in, may_follow, names}
use Rattle.blot_types.specs.Keys.{same_alloc, same_exec}
use Rattle.blot_types.proofs.InstructionLemmas.{follows}
use Rattle.blot_places.specs.declared.slots.Slot.{Slot}
use Rattle.blot_places.specs.Places.{places_in}
use Rattle.blot_places.specs.Shown.{Shown, shown_of}
use Rattle.blot_places.specs.Slots.{is_above, items, lifted, live, marked, newest_live, numbers_fall}
use Rattle.blot_places.proofs.MarkLemmas.{above-both, above-side, at-apart, falling-side, items-marked, places-marked}
use Rattle.blot_places.proofs.ShownLemmas.{falling-parts, put_back-lifted}
use Rattle.blot_places.proofs.SlotLemmas.{lifted_here, lifted_on, live_here, live_on, newest_live-find}
use Rattle.blot_alloc.specs.declared.index.Index.{Index}
use Rattle.blot_alloc.specs.Allocs.{AddsOne, IsNewest, instruction_at, lifted_out, number_of, put_back}
use Rattle.blot_alloc.specs.Holds.{HoldsAllocs}
use Rattle.blot_alloc.specs.Index.{IsIndexed}
use Rattle.blot_alloc.proofs.HolderLemmas.{holder-newest, if_passes}

-- ---- the look-ups

module _ (index : Index) (slots : List (Slot Instruction)) (holds : HoldsAllocs index (reverse slots)) (stack : List ℕ) where
  pub taker-held :
      (key : AllocKey) → reverse stack ≡ places_in same_alloc index.takers key
      → newest_live slots (reverse stack) ≡ find (is_keyed key) (live (reverse slots))
  taker-held key under = ap (newest_live slots) (under ∙ holds.indexed.takers key) ∙ newest_live-find (is_keyed key) slots

  pub ending-held :
      (key : AllocKey) → reverse stack ≡ places_in same_alloc index.endings key
      → newest_live slots (reverse stack) ≡ find (λ i. ends key i.role) (live (reverse slots))
  ending-held key under = ap (newest_live slots) (under ∙ holds.indexed.endings key) ∙ newest_live-find (λ (i : Instruction). ends key i.role) slots

  -- what holds a root is the newest that names it, if its allocation is live
  pub holder-held :
      (root : ExecKey) (shown : Shown Instruction) → shown_of (reverse slots) ≡ shown
      → (found : Option Instruction) → found ≡ newest_live slots (reverse stack) → reverse stack ≡ places_in same_exec index.holders root
      → if_passes (is_live_in shown.list) found ≡ find (holds_in shown.list root) shown.list
  holder-held root shown view found is under =
      subst (λ shown. if_passes (is_live_in shown.list) found ≡ find (holds_in shown.list root) shown.list) view
      (ap (if_passes (is_live_in (live (reverse slots)))) (is ∙ ap (newest_live slots) (under ∙ holds.indexed.holders root) ∙ newest_live-find (names root) slots)
      ∙ holder-newest (live (reverse slots)) root holds.instructed)

-- what a contract sees might follow, instruction by instruction
pub shown-instructed : (index : Index) (slots : List (Slot Instruction)) (shown : Shown Instruction) → HoldsAllocs index slots → shown_of slots ≡ shown → is_instructed shown.list ≡ true
shown-instructed index slots shown holds view = subst (λ (shown : Shown Instruction). is_instructed shown.list ≡ true) view holds.instructed

-- ---- one instruction more

pub held-push :
    (index new : Index) (slots written : List (Slot Instruction)) (i : Instruction)
    → HoldsAllocs index (reverse slots) → written ≡ slots ++ record { item = i; is_live = true } ∷ []
    → IsIndexed new (record { item = i; is_live = true } ∷ reverse slots)
    → may_follow (shown_of (reverse slots)).list i.key i.role i.roots ≡ true
    → is_above_instructions i.number (shown_of (reverse slots)).list ≡ true → is_above_instructions i.number (shown_of (reverse slots)).kept ≡ true
    → HoldsAllocs new (reverse written)
held-push index new slots written i holds is indexed accepted above above_kept =
    let slot : Slot Instruction = record { item = i; is_live = true } in
    let earlier : List (Slot Instruction) = reverse slots in
    let all : HoldsAllocs new (slot ∷ earlier) = record {
      fall = and_from _ _ (above-both number_of i.number earlier above above_kept) holds.fall;
      apart = and_from _ _ (follows (live earlier) i.key i.role i.roots accepted).apart holds.apart;
      indexed = indexed;
      instructed = and_from _ _ accepted holds.instructed;
    } in
    subst (HoldsAllocs new) (sym (ap reverse is ∙ reverse-append slots (slot ∷ []))) all

-- ---- one instruction less

pub record PopsInstruction (key : AllocKey) (role : AllocRole) (slot : Slot Instruction) (earlier : List (Slot Instruction)) (shown : Shown Instruction) : Type 0 where
  pub lives : slot.is_live ≡ true
  pub adds : AddsOne key role (shown_of earlier) shown
  pub kept : (shown_of earlier).kept ≡ shown.kept

first_one : (a b : Instruction) (xs ys : List Instruction) → a ∷ xs ≡ b ∷ ys → a ≡ b
first_one a b xs ys is = cc

-- a newest instruction above those that are kept stands in the newest slot
newest-lives :
    (key : AllocKey) (role : AllocRole) (slot : Slot Instruction) (earlier : List (Slot Instruction)) → numbers_fall number_of (items (slot ∷ earlier)) ≡ true
    → IsNewest key role (shown_of (slot ∷ earlier)) → slot.is_live ≡ true
newest-lives key role slot earlier fall newest =
    elim (cases_Bool slot.is_live) [
      | inl is ↦ is
      | inr off ↦
          let n : ℕ = newest.0 in
          let own : ℕ = slot.item.number in
          let i : Instruction = record { number = n; key = key; role = role; roots = newest.1 } in
          let kept : is_above number_of n (slot.item ∷ lifted earlier) ≡ true = ap (is_above number_of n) (sym (lifted_here slot earlier off)) ∙ newest.4 in
          let below : own < n = ltb-true _ _ (and_parts _ _ kept).0 in
          let lists : live earlier ≡ i ∷ newest.2 = sym (live_on slot earlier off) ∙ newest.3 in
          let above : is_above number_of own (i ∷ newest.2) ≡ true =
          ap (is_above number_of own) (sym lists) ∙ above-side number_of own true earlier (falling-parts number_of slot.item (items earlier) fall).0 in
          let less : n < own = ltb-true _ _ (and_parts _ _ above).0 in
          absurd (omega (arith, below, less))
    ]

pub pops-instruction :
    (key : AllocKey) (role : AllocRole) (slot : Slot Instruction) (earlier : List (Slot Instruction)) → numbers_fall number_of (items (slot ∷ earlier)) ≡ true
    → IsNewest key role (shown_of (slot ∷ earlier)) → PopsInstruction key role slot earlier (shown_of (slot ∷ earlier))
pops-instruction key role slot earlier fall newest =
    let is : slot.is_live ≡ true = newest-lives key role slot earlier fall newest in
    let i : Instruction = record { number = newest.0; key = key; role = role; roots = newest.1 } in
    let lists : slot.item ∷ live earlier ≡ i ∷ newest.2 = sym (live_here slot earlier is) ∙ newest.3 in
    let same : slot.item ≡ i = first_one slot.item i (live earlier) newest.2 lists in
    record {
      lives = is;
      adds = (newest.0, newest.1, live_here slot earlier is ∙ ap (λ first. first ∷ live earlier) same);
      kept = sym (lifted_on slot earlier is);
    }

pub held-pop :
    (index new : Index) (slot : Slot Instruction) (earlier : List (Slot Instruction)) → HoldsAllocs index (slot ∷ earlier) → slot.is_live ≡ true
    → IsIndexed new earlier → HoldsAllocs new earlier
held-pop index new slot earlier holds is indexed =
    let instructed : (may_follow (live earlier) slot.item.key slot.item.role slot.item.roots ≡ true) × (is_instructed (live earlier) ≡ true) =
    and_parts _ _ (ap is_instructed (sym (live_here slot earlier is)) ∙ holds.instructed) in
    record {
      fall = (falling-parts number_of slot.item (items earlier) holds.fall).1;
      apart = (and_parts _ _ holds.apart).1;
      indexed = indexed;
      instructed = instructed.1;
    }

-- the last of the slots goes, where they show a newest instruction of this key and role
module _ (index : Index) (key : AllocKey) (role : AllocRole) (slots rest : List (Slot Instruction)) (slot : Slot Instruction) (is : slots ≡ rest ++ slot ∷ []) where
  reversed : reverse slots ≡ slot ∷ reverse rest
  reversed = ap reverse is ∙ reverse-append rest (slot ∷ [])

  pub pops-last :
      (shown : Shown Instruction) → HoldsAllocs index (reverse slots) → shown_of (reverse slots) ≡ shown → IsNewest key role shown
      → PopsInstruction key role slot (reverse rest) shown
  pops-last shown holds is_shown newest =
      let whole : shown_of (slot ∷ reverse rest) ≡ shown = ap shown_of (sym reversed) ∙ is_shown in
      subst (PopsInstruction key role slot (reverse rest)) whole
      (pops-instruction key role slot (reverse rest) (subst (HoldsAllocs index) reversed holds).fall (subst (IsNewest key role) (sym whole) newest))

  pub held-last :
      (new : Index) (shown : Shown Instruction) → HoldsAllocs index (reverse slots) → shown_of (reverse slots) ≡ shown → IsNewest key role shown
      → (IsIndexed index (slot ∷ reverse rest) → IsIndexed new (reverse rest)) → HoldsAllocs new (reverse rest)
  held-last new shown holds is_shown newest fewer =
      let all = subst (HoldsAllocs index) reversed holds in
      held-pop index new slot (reverse rest) all (pops-last shown holds is_shown newest).lives (fewer all.indexed)

-- ---- one lifted out, and put back

module _ (n : ℕ) (b : Bool) where
  indexed-marked : (index : Index) (slots : List (Slot Instruction)) → IsIndexed index slots → IsIndexed index (marked number_of n b slots)
  indexed-marked index slots indexed = record {
    takers = λ key. indexed.takers key ∙ sym (places-marked number_of n b (is_keyed key) slots);
    endings = λ key. indexed.endings key ∙ sym (places-marked number_of n b (λ i. ends key i.role) slots);
    holders = λ root. indexed.holders root ∙ sym (places-marked number_of n b (names root) slots);
  }

  pub held-marked :
      (index : Index) (slots : List (Slot Instruction)) → HoldsAllocs index slots → is_instructed (live (marked number_of n b slots)) ≡ true
      → HoldsAllocs index (marked number_of n b slots)
  held-marked index slots holds legal = record {
    fall = ap (numbers_fall number_of) (items-marked number_of n b slots) ∙ holds.fall;
    apart = ap (list_all (λ (i : Instruction). are_apart i.roots)) (items-marked number_of n b slots) ∙ holds.apart;
    indexed = indexed-marked index slots holds.indexed;
    instructed = legal;
  }

some-item : (found : Option Instruction) → IsSome found → (i : Instruction) × (found ≡ Some i)
some-item None some = cc
some-item (Some i) some = (i, refl)

-- put back, a lifted instruction stands where it stood
pub lift-back :
    (n : ℕ) (slots : List (Slot Instruction)) → numbers_fall number_of (items slots) ≡ true → IsSome (instruction_at n (shown_of slots).list)
    → put_back n (lifted_out n (shown_of slots)) ≡ shown_of slots
lift-back n slots fall some =
    let found = some-item (instruction_at n (live slots)) some in
    put_back-lifted number_of n (shown_of slots) found.0 (falling-side number_of true slots fall) found.1 (at-apart number_of n true slots found.0 fall found.1)
