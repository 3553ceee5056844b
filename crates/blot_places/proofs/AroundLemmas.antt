-- What stands on either side of a number among the places of the items that pass a test.
use Rattle.std.proofs.Common.{◌≡◌, ℕ, ◌+◌, ◌<◌, ◌≤◌, Bool, true, false, cond, not, ◌&&◌, List, [], ◌∷◌, ◌++◌, length, reverse, get_or, Option, Some, None, refl, sym, ap, subst, ◌∙◌, inl, inr, ⊎_elim, arith, filter, find, nat_le, nat_lt, slice_get, All, filter_map, option_and_then, option_map, le-leb, leb-true, lt-ltb, ltb-false, ltb-true, append-nil}
use Rattle.std.specs.List.{cons_option}
use Rattle.std.specs.List.Sorted.{IsPartitionedBy}
use Rattle.std.specs.Option.{option_map_or}
use Rattle.std.proofs.lemmas.Bool.{and_parts, cases_Bool, cases_lt}
use Rattle.std.proofs.lemmas.List.{get_or_append_left, get_or_push, length_push, reverse-append, reverse-reverse}
use Rattle.std.proofs.lemmas.List.Elements.{All-cons, All-get_or, All-nil, filter_map-append}
use Rattle.blot_types.proofs.StayLemmas.{filter-reverse}
use Rattle.blot_types.proofs.GeneralLemmas.{and-true, all-reversed}
use Rattle.blot_places.specs.declared.slots.Slot.{Slot}
use Rattle.blot_places.specs.Slots.{is_above, is_below, is_live_at, is_up_to, items, live, live_item, live_items, newest_live, numbers_fall, places_by}
use Rattle.blot_places.proofs.ShownLemmas.{falling-parts}
use Rattle.blot_places.proofs.SlotLemmas.{at_place, find_here, find_on, live_here, live_on, places_here, places_on, reverse-cons}

-- ---- lists

-- one more element at the end, after those that pass
parted-push : {X : Type 0} (p : X → Bool) (xs : List X) (y : X) → IsPartitionedBy p xs → (p y ≡ true → All (λ x. p x ≡ true) xs) → IsPartitionedBy p (xs ++ y ∷ [])
parted-push p xs y parted all i j d le within passes =
    let len : length (xs ++ y ∷ []) ≡ length xs + 1 = length_push xs y in
    ⊎_elim
    (λ (inside : j < length xs).
    let at_j : p (get_or xs j d) ≡ true = ap p (sym (get_or_append_left xs (y ∷ []) d j inside)) ∙ passes in
    ap p (get_or_append_left xs (y ∷ []) d i (omega arith)) ∙ parted i j d le inside at_j)
    (λ (past : length xs ≤ j).
    let at_end : p y ≡ true = ap p (sym (get_or_push xs y d j (omega (arith, len)))) ∙ passes in
    ⊎_elim
    (λ (inside : i < length xs). ap p (get_or_append_left xs (y ∷ []) d i inside) ∙ All-get_or (λ x. p x ≡ true) xs i d inside (all at_end))
    (λ (also : length xs ≤ i). ap p (get_or_push xs y d i (omega (arith, len))) ∙ at_end)
    (cases_lt i (length xs)))
    (cases_lt j (length xs))

find-kept : {X : Type 0} (r p : X → Bool) (xs : List X) → find r (filter p xs) ≡ find (λ x. p x && r x) xs
find-kept r p [] = refl
find-kept r p (x ∷ xs) = elim (cases_Bool (p x)) [
  | inl is ↦ rw is (ap (λ rest. cond (r x) (Some x) rest) (find-kept r p xs))
  | inr not ↦ rw not (find-kept r p xs)
]

turned-cons : {B : Type 0} (found : Option B) (ys : List B) → reverse ys ++ cons_option found [] ≡ reverse (cons_option found ys)
turned-cons None ys = append-nil (reverse ys)
turned-cons (Some y) ys = sym (reverse-append (y ∷ []) ys)

filter_map-reversed : {A B : Type 0} (f : A → Option B) (xs : List A) → filter_map f (reverse xs) ≡ reverse (filter_map f xs)
filter_map-reversed f [] = refl
filter_map-reversed f (x ∷ xs) =
    ap (filter_map f) (reverse-append (x ∷ []) xs) ∙ filter_map-append f (reverse xs) (x ∷ []) ∙ ap (λ front. front ++ cons_option (f x) []) (filter_map-reversed f xs)
    ∙ turned-cons (f x) (filter_map f xs)

-- ---- a test of numbers that all numbers below one that passes pass too

module _ {T : Type 0} (number_of : T → ℕ) (test : T → Bool) (q : ℕ → Bool) (down : (a b : ℕ) → a < b → q b ≡ true → q a ≡ true) where
  abbrev passes_at : List (Slot T) → ℕ → Bool
  passes_at all place = option_map_or (λ slot. q (number_of slot.item)) (slice_get all place) false

  at-newest : (slot : Slot T) (earlier later : List (Slot T)) → passes_at (reverse (slot ∷ earlier) ++ later) (length earlier) ≡ q (number_of slot.item)
  at-newest slot earlier later = ap (λ found. option_map_or (λ (slot : Slot T). q (number_of slot.item)) found false) (at_place slot earlier later)

  all-pass :
      (bound : ℕ) (slots later : List (Slot T)) → is_above number_of bound (items slots) ≡ true → q bound ≡ true
      → All (λ place. passes_at (reverse slots ++ later) place ≡ true) (places_by test slots)
  all-pass bound [] later above is = All-nil (λ place. passes_at later place ≡ true)
  all-pass bound (slot ∷ earlier) later above is =
      let parts : (nat_lt (number_of slot.item) bound ≡ true) × (is_above number_of bound (items earlier) ≡ true) = and_parts _ _ above in
      let all : List (Slot T) = reverse (slot ∷ earlier) ++ later in
      let rest : All (λ place. passes_at all place ≡ true) (places_by test earlier) =
      subst (λ slots. All (λ place. passes_at slots place ≡ true) (places_by test earlier)) (sym (reverse-cons slot earlier later)) (all-pass bound earlier (slot ∷ later) parts.1 is) in
      elim (cases_Bool (test slot.item)) [
        | inl passes ↦
            subst (All (λ place. passes_at all place ≡ true)) (sym (places_here test slot earlier passes))
            (All-cons (λ place. passes_at all place ≡ true) (length earlier) (places_by test earlier) (at-newest slot earlier later ∙ down _ bound (ltb-true _ _ parts.0) is) rest)
        | inr fails ↦ subst (All (λ place. passes_at all place ≡ true)) (sym (places_on test slot earlier fails)) rest
      ]

  parted-at :
      (slots later : List (Slot T)) → numbers_fall number_of (items slots) ≡ true → IsPartitionedBy (passes_at (reverse slots ++ later)) (reverse (places_by test slots))
  parted-at [] later fall = λ i j d le within passes. absurd (omega arith)
  parted-at (slot ∷ earlier) later fall =
      let falling = falling-parts number_of slot.item (items earlier) fall in
      let all : List (Slot T) = reverse (slot ∷ earlier) ++ later in
      let whole : reverse earlier ++ slot ∷ later ≡ all = sym (reverse-cons slot earlier later) in
      let rest : IsPartitionedBy (passes_at all) (reverse (places_by test earlier)) =
      subst (λ slots. IsPartitionedBy (passes_at slots) (reverse (places_by test earlier))) whole (parted-at earlier (slot ∷ later) falling.1) in
      elim (cases_Bool (test slot.item)) [
        | inl passes ↦
            subst (IsPartitionedBy (passes_at all)) (sym (ap reverse (places_here test slot earlier passes) ∙ reverse-append (length earlier ∷ []) (places_by test earlier)))
            (parted-push (passes_at all) (reverse (places_by test earlier)) (length earlier) rest
            (λ is.
            let below : q (number_of slot.item) ≡ true = sym (at-newest slot earlier later) ∙ is in
            all-reversed (λ place. passes_at all place ≡ true) (places_by test earlier)
            (subst (λ slots. All (λ place. passes_at slots place ≡ true) (places_by test earlier)) whole (all-pass (number_of slot.item) earlier (slot ∷ later) falling.0 below))))
        | inr fails ↦ subst (IsPartitionedBy (passes_at all)) (sym (ap reverse (places_on test slot earlier fails))) rest
      ]

  parted-stack :
      (slots : List (Slot T)) (stack : List ℕ) → numbers_fall number_of (items (reverse slots)) ≡ true → reverse stack ≡ places_by test (reverse slots)
      → IsPartitionedBy (passes_at slots) stack
  parted-stack slots stack fall is =
      subst (λ all. IsPartitionedBy (passes_at all) stack) (append-nil (reverse (reverse slots)) ∙ reverse-reverse slots)
      (subst (IsPartitionedBy (passes_at (reverse (reverse slots) ++ []))) (ap reverse (sym is) ∙ reverse-reverse stack) (parted-at (reverse slots) [] fall))

-- ---- the live items at the places that pass

module _ {T : Type 0} (test q : T → Bool) (p : ℕ → Bool) where
  item-here : (all : List (Slot T)) (place : ℕ) (slot : Slot T) → slice_get all place ≡ Some slot → live_item all place ≡ cond slot.is_live (Some slot.item) None
  item-here all place slot here = ap (λ found. option_and_then (λ (slot : Slot T). cond slot.is_live (Some slot.item) None) found) here

  abbrev both : List T → List T
  both xs = filter test (filter q xs)

  both-here : (x : T) (xs : List T) → test x ≡ true → q x ≡ true → both (x ∷ xs) ≡ x ∷ both xs
  both-here x xs passes is = ap (λ b. filter test (cond b (x ∷ filter q xs) (filter q xs))) is ∙ ap (λ b. cond b (x ∷ both xs) (both xs)) passes

  both-fails : (x : T) (xs : List T) → q x ≡ false → both (x ∷ xs) ≡ both xs
  both-fails x xs fails = ap (λ b. filter test (cond b (x ∷ filter q xs) (filter q xs))) fails

  both-untested : (x : T) (xs : List T) → test x ≡ false → both (x ∷ xs) ≡ both xs
  both-untested x xs fails = elim (cases_Bool (q x)) [
    | inl is ↦ ap (λ b. filter test (cond b (x ∷ filter q xs) (filter q xs))) is ∙ ap (λ b. cond b (x ∷ both xs) (both xs)) fails
    | inr other ↦ both-fails x xs other
  ]

  live-places :
      (slots later : List (Slot T))
      → ((place : ℕ) (slot : Slot T) → slice_get (reverse slots ++ later) place ≡ Some slot → p place ≡ q slot.item)
      → live_items (reverse slots ++ later) (filter p (places_by test slots)) ≡ both (live slots)
  live-places [] later agree = refl
  live-places (slot ∷ earlier) later agree =
      let all : List (Slot T) = reverse (slot ∷ earlier) ++ later in
      let whole : reverse earlier ++ slot ∷ later ≡ all = sym (reverse-cons slot earlier later) in
      let place = length earlier in
      let here : slice_get all place ≡ Some slot = at_place slot earlier later in
      let rest : live_items all (filter p (places_by test earlier)) ≡ both (live earlier) =
      ap (λ slots. live_items slots (filter p (places_by test earlier))) (sym whole)
      ∙ live-places earlier (slot ∷ later) (λ place slot found. agree place slot (ap (λ slots. slice_get slots place) (sym whole) ∙ found)) in
      elim (cases_Bool (test slot.item)) [
        | inl passes ↦
            ap (λ places. live_items all (filter p places)) (places_here test slot earlier passes) ∙ elim (cases_Bool (q slot.item)) [
              | inl is ↦
                  ap (λ b. live_items all (cond b (place ∷ filter p (places_by test earlier)) (filter p (places_by test earlier)))) (agree place slot here ∙ is)
                  ∙ elim (cases_Bool slot.is_live) [
                    | inl lives ↦
                        (λ i. cons_option ((item-here all place slot here ∙ ap (λ b. cond b (Some slot.item) None) lives) i) (rest i))
                        ∙ sym (ap both (live_here slot earlier lives) ∙ both-here slot.item (live earlier) passes is)
                    | inr off ↦
                        (λ i. cons_option ((item-here all place slot here ∙ ap (λ b. cond b (Some slot.item) None) off) i) (rest i))
                        ∙ sym (ap both (live_on slot earlier off))
                  ]
              | inr fails ↦
                  ap (λ b. live_items all (cond b (place ∷ filter p (places_by test earlier)) (filter p (places_by test earlier)))) (agree place slot here ∙ fails)
                  ∙ rest ∙ elim (cases_Bool slot.is_live) [
                    | inl lives ↦ sym (ap both (live_here slot earlier lives) ∙ both-fails slot.item (live earlier) fails)
                    | inr off ↦ sym (ap both (live_on slot earlier off))
                  ]
            ]
        | inr fails ↦
            ap (λ places. live_items all (filter p places)) (places_on test slot earlier fails) ∙ rest ∙ elim (cases_Bool slot.is_live) [
              | inl lives ↦ sym (ap both (live_here slot earlier lives) ∙ both-untested slot.item (live earlier) fails)
              | inr off ↦ sym (ap both (live_on slot earlier off))
            ]
      ]

  live-stack :
      (slots : List (Slot T)) (stack : List ℕ) → reverse stack ≡ places_by test (reverse slots)
      → ((place : ℕ) (slot : Slot T) → slice_get slots place ≡ Some slot → p place ≡ q slot.item)
      → live_items slots (filter p (reverse stack)) ≡ both (live (reverse slots))
  live-stack slots stack is agree =
      let whole : reverse (reverse slots) ++ [] ≡ slots = append-nil (reverse (reverse slots)) ∙ reverse-reverse slots in
      ap (λ places. live_items slots (filter p places)) is ∙ ap (λ all. live_items all (filter p (places_by test (reverse slots)))) (sym whole)
      ∙ live-places (reverse slots) [] (λ place slot found. agree place slot (ap (λ all. slice_get all place) (sym whole) ∙ found))

  -- and oldest first
  live-turned :
      (slots : List (Slot T)) (stack : List ℕ) → reverse stack ≡ places_by test (reverse slots)
      → ((place : ℕ) (slot : Slot T) → slice_get slots place ≡ Some slot → p place ≡ q slot.item)
      → live_items slots (filter p stack) ≡ both (reverse (live (reverse slots)))
  live-turned slots stack is agree =
      ap (λ places. live_items slots (filter p places)) (sym (reverse-reverse stack)) ∙ ap (live_items slots) (filter-reverse p (reverse stack))
      ∙ filter_map-reversed (live_item slots) (filter p (reverse stack)) ∙ ap reverse (live-stack slots stack is agree)
      ∙ sym (filter-reverse test (filter q (live (reverse slots)))) ∙ ap (filter test) (sym (filter-reverse q (live (reverse slots))))

-- ---- the first of them

module _ {T : Type 0} where
  abbrev any : T → Bool
  any x = true

  abbrev item_found : List (Slot T) → Option ℕ → Option T
  item_found all found = option_map (λ (slot : Slot T). slot.item) (option_and_then (slice_get all) found)

  live_found : (all : List (Slot T)) (place : ℕ) (found : Option (Slot T)) → slice_get all place ≡ found → is_live_at all place ≡ option_map_or (λ slot. slot.is_live) found false
  live_found all place found is = ap (λ found. option_map_or (λ (slot : Slot T). slot.is_live) found false) is

  abbrev IsFirstLive : List (Slot T) → List ℕ → Type 0
  IsFirstLive all places = newest_live all places ≡ find any (live_items all places)

  one-more : (all : List (Slot T)) (place : ℕ) (places : List ℕ) (found : Option (Slot T)) → slice_get all place ≡ found → IsFirstLive all places → IsFirstLive all (place ∷ places)
  one-more all place places None is rest =
      ap (item_found all) (find_on (is_live_at all) place places (live_found all place None is)) ∙ rest
      ∙ ap (λ found. find any (cons_option (option_and_then (λ (slot : Slot T). cond slot.is_live (Some slot.item) None) found) (live_items all places))) (sym is)
  one-more all place places (Some slot) is rest =
      let item = item-here any any (λ place. true) all place slot is in
      elim (cases_Bool slot.is_live) [
        | inl lives ↦
            ap (item_found all) (find_here (is_live_at all) place places (live_found all place (Some slot) is ∙ lives)) ∙ ap (option_map (λ (slot : Slot T). slot.item)) is
            ∙ ap (λ found. find any (cons_option found (live_items all places))) (sym (item ∙ ap (λ b. cond b (Some slot.item) None) lives))
        | inr off ↦
            ap (item_found all) (find_on (is_live_at all) place places (live_found all place (Some slot) is ∙ off)) ∙ rest
            ∙ ap (λ found. find any (cons_option found (live_items all places))) (sym (item ∙ ap (λ b. cond b (Some slot.item) None) off))
      ]

  first-live : (all : List (Slot T)) (places : List ℕ) → IsFirstLive all places
  first-live all [] = refl
  first-live all (place ∷ places) = one-more all place places (slice_get all place) refl (first-live all places)

find-any : {T : Type 0} (p : T → Bool) (xs : List T) → find any (filter p xs) ≡ find p xs
find-any p xs = find-kept any p xs ∙ ap (λ test. find test xs) (λ i x. and-true (p x) i)

-- ---- above a number, and below it

down-up_to : (n a b : ℕ) → a < b → nat_le b n ≡ true → nat_le a n ≡ true
down-up_to n a b less up_to = let le : b ≤ n = leb-true _ _ up_to in le-leb a n (omega arith)

down-below : (n a b : ℕ) → a < b → nat_lt b n ≡ true → nat_lt a n ≡ true
down-below n a b less below = let under : b < n = ltb-true _ _ below in lt-ltb a n (omega arith)

not-up_to : (a n : ℕ) → not (nat_le a n) ≡ nat_lt n a
not-up_to a n = elim (cases_Bool (nat_lt n a)) [
  | inl more ↦
      let less : n < a = ltb-true _ _ more in
      elim (cases_Bool (nat_le a n)) [
        | inl le ↦ let under : a ≤ n = leb-true _ _ le in absurd (omega (arith, less, under))
        | inr other ↦ ap not other ∙ sym more
      ]
  | inr up_to ↦ let le : a ≤ n = ltb-false _ _ up_to in ap not (le-leb a n le) ∙ sym up_to
]

module _ {T : Type 0} (number_of : T → ℕ) (n : ℕ) (test : T → Bool) (slots : List (Slot T)) (stack : List ℕ) (is : reverse stack ≡ places_by test (reverse slots)) where
  -- the places can be parted
  pub parted-above : numbers_fall number_of (items (reverse slots)) ≡ true → IsPartitionedBy (is_up_to number_of n slots) stack
  parted-above fall = parted-stack number_of test (λ a. nat_le a n) (down-up_to n) slots stack fall is

  pub parted-below : numbers_fall number_of (items (reverse slots)) ≡ true → IsPartitionedBy (is_below number_of n slots) stack
  parted-below fall = parted-stack number_of test (λ a. nat_lt a n) (down-below n) slots stack fall is

  abbrev past : ℕ → Bool
  past place = not (is_up_to number_of n slots place)

  abbrev is_above_n : T → Bool
  is_above_n x = nat_lt n (number_of x)

  agree-above : (place : ℕ) (slot : Slot T) → slice_get slots place ≡ Some slot → past place ≡ is_above_n slot.item
  agree-above place slot found =
      ap (λ found. not (option_map_or (λ (slot : Slot T). nat_le (number_of slot.item) n) found false)) found ∙ not-up_to (number_of slot.item) n

  -- the first live item above the number that passes the test, and one more
  pub find-above :
      (more : T → Bool) → find more (live_items slots (filter past stack)) ≡ find (λ x. is_above_n x && (test x && more x)) (reverse (live (reverse slots)))
  find-above more =
      let all = reverse (live (reverse slots)) in
      ap (find more) (live-turned test is_above_n past slots stack is agree-above) ∙ find-kept more test (filter is_above_n all) ∙ find-kept (λ x. test x && more x) is_above_n all

  pub oldest-above : newest_live slots (filter past stack) ≡ find (λ x. is_above_n x && test x) (reverse (live (reverse slots)))
  oldest-above =
      first-live slots (filter past stack) ∙ find-above any
      ∙ ap (λ passes. find passes (reverse (live (reverse slots)))) (λ i x. is_above_n x && and-true (test x) i)

  -- the newest live item below it
  pub newest-below : newest_live slots (reverse (filter (is_below number_of n slots) stack)) ≡ find test (filter (λ x. nat_lt (number_of x) n) (live (reverse slots)))
  newest-below =
      let under = is_below number_of n slots in
      let is_under : T → Bool = λ x. nat_lt (number_of x) n in
      ap (newest_live slots) (sym (filter-reverse under stack)) ∙ first-live slots (filter under (reverse stack))
      ∙ ap (find any) (live-stack test is_under under slots stack is (λ place slot found. ap (λ found. option_map_or (λ (slot : Slot T). nat_lt (number_of slot.item) n) found false) found))
      ∙ find-any test (filter is_under (live (reverse slots)))
