-- The texts of a list, and lists of peers that differ, taken from the front.
use Rattle.std.proofs.Common.{◌≡◌, ℕ, ◌+◌, ◌<◌, Bool, true, false, List, [], ◌∷◌, ◌++◌, length, get_or, map, take, drop, inl, inr, refl, ap, sym, subst, ◌∙◌, append_assoc, take-append-drop}
use Rattle.std.specs.List.{AllByRecursion, IsDistinct, list_all, list_any}
use Rattle.std.proofs.lemmas.Bool.{and_from, both_ways, cases_Bool, or_from, or_parts}
use Rattle.std.proofs.lemmas.List.{map-append}
use Rattle.std.proofs.lemmas.List.Folds.{list_all-append, list_all-map, list_all_at}
use Rattle.std.proofs.lemmas.Grind.{take_at_read}
use Rattle.std.proofs.lemmas.Map.Keys.{IsDistinct-cons, IsDistinct-head, IsDistinct-tail}
use Rattle.blot_types.specs.Keys.{same_text}
use Rattle.blot_types.specs.Text.{is_text}

-- each word of a list of texts is one
pub text_at :
    {X : Type 0} (bytes : X → List ℕ) (words : List X) (index : ℕ) (other : X) → index < length words
    → list_all is_text (map bytes words) ≡ true → is_text (bytes (get_or words index other)) ≡ true
text_at bytes words index other within texts =
    elim (cases_Bool (is_text (bytes (get_or words index other)))) [
      | inl text ↦ text
      | inr no_text ↦
          let stops : list_all (λ word. is_text (bytes word)) words ≡ false = list_all_at (λ word. is_text (bytes word)) words index other within no_text in
          absurd (both_ways _ (list_all-map is_text bytes words ∙ stops) texts)
    ]

all_push : {X : Type 0} (P : X → Type 0) → (xs : List X) (y : X) → AllByRecursion P xs → P y → AllByRecursion P (xs ++ y ∷ [])
all_push P [] y all holds = (holds, tt)
all_push P (x ∷ xs) y all holds = (all.0, all_push P xs y all.1 holds)

all_amid : {X : Type 0} (P : X → Type 0) → (xs : List X) (y : X) (ys : List X) → AllByRecursion P (xs ++ y ∷ ys) → P y
all_amid P [] y ys all = all.0
all_amid P (x ∷ xs) y ys all = all_amid P xs y ys all.1

-- one more that none before it is the same as
distinct_push : {X : Type 0} (same : X → X → Bool) → (xs : List X) (y : X) → IsDistinct same xs → list_any (λ x. same x y) xs ≡ false → IsDistinct same (xs ++ y ∷ [])
distinct_push same [] y all alone = IsDistinct-cons same y [] tt all
distinct_push same (x ∷ xs) y all alone =
    let parts = or_parts (same x y) _ alone in
    IsDistinct-cons same x (xs ++ y ∷ []) (all_push _ xs y (IsDistinct-head same x xs all) parts.0)
    (distinct_push same xs y (IsDistinct-tail same x xs all) parts.1)

-- none before one of them is the same as it
distinct_before : {X : Type 0} (same : X → X → Bool) → (xs : List X) (y : X) (ys : List X) → IsDistinct same (xs ++ y ∷ ys) → list_any (λ x. same x y) xs ≡ false
distinct_before same [] y ys all = refl
distinct_before same (x ∷ xs) y ys all =
    or_from (same x y) _ (all_amid _ xs y ys (IsDistinct-head same x (xs ++ y ∷ ys) all)) (distinct_before same xs y ys (IsDistinct-tail same x (xs ++ y ∷ ys) all))

-- the words so far, and the next one
pub next_of :
    {X : Type 0} (bytes : X → List ℕ) (words : List X) (index : ℕ) (other : X) (peer : List ℕ) → index < length words → peer ≡ bytes (get_or words index other)
    → map bytes (take (index + 1) words) ≡ map bytes (take index words) ++ peer ∷ []
next_of bytes words index other peer within is =
    ap (map bytes) (take_at_read words index other within).1 ∙ map-append bytes (take index words) (get_or words index other ∷ [])
    ∙ ap (λ next. map bytes (take index words) ++ next ∷ []) (sym is)

pub next_text :
    {X : Type 0} (bytes : X → List ℕ) (words : List X) (index : ℕ) (other : X) (peer : List ℕ) → index < length words → peer ≡ bytes (get_or words index other)
    → list_all is_text (map bytes (take index words)) ≡ true → is_text peer ≡ true
    → list_all is_text (map bytes (take (index + 1) words)) ≡ true
next_text bytes words index other peer within is all text =
    ap (list_all is_text) (next_of bytes words index other peer within is) ∙ list_all-append is_text (map bytes (take index words)) (peer ∷ [])
    ∙ and_from _ _ all (and_from _ true text refl)

-- the words so far differ, and the next one is none of theirs
pub next_differs :
    {X : Type 0} (bytes : X → List ℕ) (words : List X) (index : ℕ) (other : X) (peer : List ℕ) (peers : List (List ℕ))
    → index < length words → peer ≡ bytes (get_or words index other) → peers ≡ map bytes (take index words)
    → IsDistinct same_text (map bytes (take index words)) → list_any (λ earlier. same_text earlier peer) peers ≡ false
    → IsDistinct same_text (map bytes (take (index + 1) words))
next_differs bytes words index other peer peers within is so_far all alone =
    subst (IsDistinct same_text) (sym (next_of bytes words index other peer within is))
    (distinct_push same_text _ peer all (ap (list_any _) (sym so_far) ∙ alone))

-- where a word is met again, the words aren't all different
pub met_before :
    {X : Type 0} (bytes : X → List ℕ) (words : List X) (index : ℕ) (other : X) (peer : List ℕ) (peers : List (List ℕ))
    → index < length words → peer ≡ bytes (get_or words index other) → peers ≡ map bytes (take index words)
    → list_any (λ earlier. same_text earlier peer) peers ≡ true
    → IsDistinct same_text (map bytes words) → ⊥
met_before bytes words index other peer peers within is so_far met all =
    let rest = drop (index + 1) words in
    let parts : take (index + 1) words ++ rest ≡ words = take-append-drop (index + 1) words in
    let named : map bytes words ≡ map bytes (take index words) ++ peer ∷ map bytes rest =
    ap (map bytes) (sym parts) ∙ map-append bytes (take (index + 1) words) rest
    ∙ ap (λ front. front ++ map bytes rest) (next_of bytes words index other peer within is) ∙ append_assoc _ (peer ∷ []) (map bytes rest) in
    both_ways _ (distinct_before same_text _ peer _ (subst (IsDistinct same_text) named all)) (ap (list_any _) (sym so_far) ∙ met)
