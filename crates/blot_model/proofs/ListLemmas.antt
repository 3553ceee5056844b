-- What loops have gathered, with one item more.
use Rattle.std.proofs.Common.{◌≡◌, ℕ, ◌+◌, ◌<◌, ◌≤◌, pos, ◌+ℤ◌, arith, Bool, true, false, List, [], ◌∷◌, ◌++◌, take, get_or, length, Option, Some, None, refl, sym, ap, ◌∙◌, filter, filter_map, flat_map, append-nil, length-append}
use Rattle.std.specs.List.{cons_option}
use Rattle.std.proofs.lemmas.List.{take_more}
use Rattle.std.proofs.lemmas.List.Elements.{filter_map-append, filter-append}
use Rattle.std.proofs.lemmas.Grind.{flat_map-append}
use Rattle.blot_types.specs.declared.fill.Fill.{Fill}
use Rattle.blot_types.specs.Order.{cum_of}
use Rattle.blot_types.proofs.SumLemmas.{total-append}

-- what is found of one item more
pub found-more :
    {A B : Type 0} (f : A → Option B) (items : List A) (index : ℕ) (item : A) → index < length items → item ≡ get_or items index item
    → filter_map f (take (index + 1) items) ≡ filter_map f (take index items) ++ cons_option (f item) []
found-more f items index item within is =
    let more : take (index + 1) items ≡ take index items ++ item ∷ [] = rw is (take_more items index item within) in
    ap (filter_map f) more ∙ filter_map-append f (take index items) (item ∷ [])

-- the items found are those of the items before, and there are no more than those
pub record Found {A B : Type 0} (f : A → Option B) (items : List A) (index : ℕ) (found : List B) : Type 0 where
  pub are : found ≡ filter_map f (take index items)
  pub few : length found ≤ index

pub found-some :
    {A B : Type 0} (f : A → Option B) (items : List A) (index : ℕ) (item : A) (before after : List B) (b : B) → index < length items → item ≡ get_or items index item
    → Found f items index before → f item ≡ Some b → after ≡ before ++ b ∷ [] → Found f items (index + 1) after
found-some f items index item before after b within is found brought pushed = record {
  are = pushed ∙ ap (λ front. front ++ b ∷ []) found.are ∙ ap (λ o. filter_map f (take index items) ++ cons_option o []) (sym brought) ∙ sym (found-more f items index item within is);
  few = omega (arith, ap length pushed, length-append before (b ∷ []), found.few);
}

pub found-none :
    {A B : Type 0} (f : A → Option B) (items : List A) (index : ℕ) (item : A) (before after : List B) → index < length items → item ≡ get_or items index item
    → Found f items index before → f item ≡ None → after ≡ before → Found f items (index + 1) after
found-none f items index item before after within is found none kept = record {
  are = kept ∙ found.are ∙ sym (append-nil (filter_map f (take index items))) ∙ ap (λ o. filter_map f (take index items) ++ cons_option o []) (sym none)
      ∙ sym (found-more f items index item within is);
  few = omega (arith, ap length kept, found.few);
}

-- the quantity of fills with one more
pub cum_of-more :
    {A : Type 0} (f : A → Option Fill) (items : List A) (index : ℕ) (item : A) → index < length items → item ≡ get_or items index item
    → cum_of (filter_map f (take (index + 1) items)) ≡ (cum_of (filter_map f (take index items)) +ℤ cum_of (cons_option (f item) []))
cum_of-more f items index item within is =
    ap cum_of (found-more f items index item within is) ∙ total-append (λ fill. pos fill.qty) (filter_map f (take index items)) (cons_option (f item) [])

-- what the items that pass a test hold, with one item more
kept-more :
    {A B : Type 0} (f : A → List B) (p : A → Bool) (items : List A) (index : ℕ) (item : A) (front : List B) → index < length items → item ≡ get_or items index item
    → front ≡ flat_map f (filter p (take index items)) → flat_map f (filter p (take (index + 1) items)) ≡ front ++ flat_map f (filter p (item ∷ []))
kept-more f p items index item front within is so_far =
    let more : take (index + 1) items ≡ take index items ++ item ∷ [] = rw is (take_more items index item within) in
    ap (λ xs. flat_map f (filter p xs)) more ∙ ap (flat_map f) (filter-append p (take index items) (item ∷ []))
    ∙ flat_map-append f (filter p (take index items)) (filter p (item ∷ [])) ∙ ap (λ xs. xs ++ flat_map f (filter p (item ∷ []))) (sym so_far)

pub kept-passed :
    {A B : Type 0} (f : A → List B) (p : A → Bool) (items : List A) (index : ℕ) (item : A) (before after : List B) → index < length items → item ≡ get_or items index item
    → before ≡ flat_map f (filter p (take index items)) → p item ≡ true → after ≡ before ++ f item → after ≡ flat_map f (filter p (take (index + 1) items))
kept-passed f p items index item before after within is so_far passes pushed =
    let own : flat_map f (filter p (item ∷ [])) ≡ f item = rw passes (append-nil (f item)) in
    pushed ∙ ap (λ back. before ++ back) (sym own) ∙ sym (kept-more f p items index item before within is so_far)

pub kept-failed :
    {A B : Type 0} (f : A → List B) (p : A → Bool) (items : List A) (index : ℕ) (item : A) (before after : List B) → index < length items → item ≡ get_or items index item
    → before ≡ flat_map f (filter p (take index items)) → p item ≡ false → after ≡ before → after ≡ flat_map f (filter p (take (index + 1) items))
kept-failed f p items index item before after within is so_far fails kept =
    let own : flat_map f (filter p (item ∷ [])) ≡ [] = rw fails refl in
    kept ∙ sym (append-nil before) ∙ ap (λ back. before ++ back) (sym own) ∙ sym (kept-more f p items index item before within is so_far)
