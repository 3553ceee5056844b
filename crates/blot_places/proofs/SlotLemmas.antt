-- What the places of slots lead to.
use Rattle.std.proofs.Common.{◌≡◌, ℕ, Bool, true, false, List, [], ◌∷◌, ◌++◌, length, reverse, Option, Some, refl, sym, ap, subst, ◌∙◌, inl, inr, cond, find, filter, not, slice_get, option_map, option_and_then, append_assoc, append-nil}
use Rattle.std.specs.Option.{option_map_or}
use Rattle.std.proofs.lemmas.Bool.{cases_Bool}
use Rattle.std.proofs.lemmas.List.{reverse-append, reverse-reverse, length-reverse}
use Rattle.blot_places.specs.declared.slots.Slot.{Slot}
use Rattle.blot_places.specs.Slots.{items, live, lifted, places_by, is_live_at, newest_live}

-- ---- one more element, test by test

pub find_here : {X : Type 0} (test : X → Bool) (x : X) (rest : List X) → test x ≡ true → find test (x ∷ rest) ≡ Some x
find_here test x rest is = ap (λ b. cond b (Some x) (find test rest)) is

pub find_on : {X : Type 0} (test : X → Bool) (x : X) (rest : List X) → test x ≡ false → find test (x ∷ rest) ≡ find test rest
find_on test x rest is = ap (λ b. cond b (Some x) (find test rest)) is

module _ {T : Type 0} where
  -- ---- one more slot

  abbrev alive : List (Slot T) → List (Slot T)
  alive slots = filter (λ slot. slot.is_live) slots

  abbrev out : List (Slot T) → List (Slot T)
  out slots = filter (λ slot. not slot.is_live) slots

  pub live_here : (slot : Slot T) (earlier : List (Slot T)) → slot.is_live ≡ true → live (slot ∷ earlier) ≡ slot.item ∷ live earlier
  live_here slot earlier is = ap (λ b. items (cond b (slot ∷ alive earlier) (alive earlier))) is

  pub live_on : (slot : Slot T) (earlier : List (Slot T)) → slot.is_live ≡ false → live (slot ∷ earlier) ≡ live earlier
  live_on slot earlier is = ap (λ b. items (cond b (slot ∷ alive earlier) (alive earlier))) is

  pub lifted_here : (slot : Slot T) (earlier : List (Slot T)) → slot.is_live ≡ false → lifted (slot ∷ earlier) ≡ slot.item ∷ lifted earlier
  lifted_here slot earlier is = ap (λ b. items (cond (not b) (slot ∷ out earlier) (out earlier))) is

  pub lifted_on : (slot : Slot T) (earlier : List (Slot T)) → slot.is_live ≡ true → lifted (slot ∷ earlier) ≡ lifted earlier
  lifted_on slot earlier is = ap (λ b. items (cond (not b) (slot ∷ out earlier) (out earlier))) is

  pub places_here : (test : T → Bool) (slot : Slot T) (earlier : List (Slot T)) → test slot.item ≡ true → places_by test (slot ∷ earlier) ≡ length earlier ∷ places_by test earlier
  places_here test slot earlier is = ap (λ b. cond b (length earlier ∷ places_by test earlier) (places_by test earlier)) is

  pub places_on : (test : T → Bool) (slot : Slot T) (earlier : List (Slot T)) → test slot.item ≡ false → places_by test (slot ∷ earlier) ≡ places_by test earlier
  places_on test slot earlier is = ap (λ b. cond b (length earlier ∷ places_by test earlier) (places_by test earlier)) is

  -- ---- what the places lead to

  at_end : (slots later : List (Slot T)) (slot : Slot T) → slice_get (slots ++ slot ∷ later) (length slots) ≡ Some slot
  at_end [] later slot = refl
  at_end (first ∷ slots) later slot = at_end slots later slot

  pub reverse-cons : (slot : Slot T) (earlier later : List (Slot T)) → reverse (slot ∷ earlier) ++ later ≡ reverse earlier ++ slot ∷ later
  reverse-cons slot earlier later =
      ap (λ slots. slots ++ later) (reverse-append (slot ∷ []) earlier) ∙ append_assoc (reverse earlier) (slot ∷ []) later

  pub at_place : (slot : Slot T) (earlier later : List (Slot T)) → slice_get (reverse (slot ∷ earlier) ++ later) (length earlier) ≡ Some slot
  at_place slot earlier later =
      rw (reverse-cons slot earlier later)
      (subst (λ place. slice_get (reverse earlier ++ slot ∷ later) place ≡ Some slot) (length-reverse earlier) (at_end (reverse earlier) later slot))

  live_at : (all : List (Slot T)) (place : ℕ) (slot : Slot T) → slice_get all place ≡ Some slot → is_live_at all place ≡ slot.is_live
  live_at all place slot here = ap (λ found. option_map_or (λ (slot : Slot T). slot.is_live) found false) here

  abbrev item_of : Option (Slot T) → Option T
  item_of slot = option_map (λ slot. slot.item) slot

  newest_here : (all : List (Slot T)) (place : ℕ) (places : List ℕ) (slot : Slot T) → slice_get all place ≡ Some slot → slot.is_live ≡ true → newest_live all (place ∷ places) ≡ Some slot.item
  newest_here all place places slot here is =
      ap (λ found. item_of (option_and_then (slice_get all) found)) (find_here (is_live_at all) place places (live_at all place slot here ∙ is)) ∙ ap item_of here

  newest_on : (all : List (Slot T)) (place : ℕ) (places : List ℕ) (slot : Slot T) → slice_get all place ≡ Some slot → slot.is_live ≡ false → newest_live all (place ∷ places) ≡ newest_live all places
  newest_on all place places slot here is =
      ap (λ found. item_of (option_and_then (slice_get all) found)) (find_on (is_live_at all) place places (live_at all place slot here ∙ is))

  newest-live :
      (test : T → Bool) (slots later : List (Slot T))
      → newest_live (reverse slots ++ later) (places_by test slots) ≡ find test (live slots)
  newest-live test [] later = refl
  newest-live test (slot ∷ earlier) later =
      let all : List (Slot T) = reverse (slot ∷ earlier) ++ later in
      let here = at_place slot earlier later in
      let behind : newest_live all (places_by test earlier) ≡ find test (live earlier) =
      ap (λ all. newest_live all (places_by test earlier)) (reverse-cons slot earlier later) ∙ newest-live test earlier (slot ∷ later) in
      elim (cases_Bool (test slot.item)) [
        | inl passes ↦ ap (newest_live all) (places_here test slot earlier passes) ∙ elim (cases_Bool slot.is_live) [
          | inl is ↦
              newest_here all (length earlier) (places_by test earlier) slot here is
              ∙ sym (ap (find test) (live_here slot earlier is) ∙ find_here test slot.item (live earlier) passes)
          | inr not ↦
              newest_on all (length earlier) (places_by test earlier) slot here not ∙ behind ∙ sym (ap (find test) (live_on slot earlier not))
        ]
        | inr fails ↦ ap (newest_live all) (places_on test slot earlier fails) ∙ behind ∙ elim (cases_Bool slot.is_live) [
          | inl is ↦ sym (ap (find test) (live_here slot earlier is) ∙ find_on test slot.item (live earlier) fails)
          | inr not ↦ sym (ap (find test) (live_on slot earlier not))
        ]
      ]

  -- the newest live slot at the places of the items that pass a test is the first live one that passes it
  pub newest_live-find : (test : T → Bool) (slots : List (Slot T)) → newest_live slots (places_by test (reverse slots)) ≡ find test (live (reverse slots))
  newest_live-find test slots =
      ap (λ all. newest_live all (places_by test (reverse slots))) (sym (append-nil (reverse (reverse slots)) ∙ reverse-reverse slots))
      ∙ newest-live test (reverse slots) []
