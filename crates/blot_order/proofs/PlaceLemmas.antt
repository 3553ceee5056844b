-- The cells of the orders at their places, and room for slots.
use Rattle.std.proofs.Common.{◌≡◌, ℕ, zero, suc, ◌+◌, ◌-◌, ◌≤◌, true, ◌&&◌, List, [], ◌∷◌, ◌++◌, length, get_or, replicate, take, Option, Some, None, refl, sym, ap, ◌∙◌, arith, inl, inr, if◌then◌else◌, HashMap, position, slice_get, option_map, unwrap_or, length-append, take_all}
use Rattle.std.specs.Cmp.{IsEquivalence}
use Rattle.std.specs.Cmp.Lexicographic.{nat_list_eq_equiv}
use Rattle.std.specs.HashMap.{IsUnique, values}
use Rattle.std.specs.List.{FoldsTo}
use Rattle.std.specs.Map.{keys_of, lookup}
use Rattle.std.proofs.lemmas.Bool.{cases_Bool, and_from}
use Rattle.std.proofs.lemmas.List.Quantifiers.{position-Some}
use Rattle.std.proofs.lemmas.Map.Entries.{hash_map_get_place}
use Rattle.std.proofs.lemmas.Option.{same_Some, slice_get-get_or, slice_get-map}
use Rattle.indexmap.proofs.CallerLemmas.{updates-with_value_at}
use Rattle.indexmap.specs.IndexMap.{set_value_at}
use Rattle.blot_types.specs.declared.keys.OrderKey.{OrderKey}
use Rattle.blot_types.specs.Keys.{same_order}
use Rattle.blot_types.proofs.KeyLemmas.{same_order-true}
use Rattle.blot_order.specs.Cells.{Tally, no_tally, order_at, tally_at, Changes, KeepsPlaces}
use Rattle.blot_order.specs.Slots.{reaching}

-- ---- room for slots

-- a list of none has as many as it has
all-none : {A P : Type 0} (R : P → Option A → P → Type 0) → ((p q : P) (x : Option A) → R p x q → x ≡ None)
    → (p q : P) (xs : List (Option A)) → FoldsTo R p xs q → xs ≡ replicate (length xs) None
all-none R none p q [] steps = refl
all-none R none p q (x ∷ xs) steps =
    let first : x ≡ None = none p steps.0 x steps.1 in
    let rest = all-none R none steps.0 q xs steps.2 in
    λ i. first i ∷ rest i

-- slots that are filled up with what answers none
pub reaching-with :
    {A P : Type 0} (R : P → Option A → P → Type 0) (n : ℕ) (old new more : List (Option A)) (p q : P) → ((p q : P) (x : Option A) → R p x q → x ≡ None)
    → length old ≤ n → length new ≡ n + 1 → new ≡ take (n + 1) old ++ more → FoldsTo R p more q → new ≡ reaching n old
reaching-with R n old new more p q none short long is steps =
    let all : take (n + 1) old ≡ old = take_all (n + 1) old (omega (arith, short)) in
    let whole : new ≡ old ++ more = is ∙ ap (λ front. front ++ more) all in
    let count : length more ≡ n + 1 - length old = (let sum = ap length whole in omega (arith, sum, long, short, length-append old more)) in
    whole ∙ ap (λ rest. old ++ rest) (all-none R none p q more steps ∙ ap (λ m. replicate m None) count)

-- ---- keys

-- an order is itself, and no other
pub same_order-refl : (order : OrderKey) → same_order order order ≡ true
same_order-refl order = and_from _ _ (nat_list_eq_equiv.refl order.peer) (nat_list_eq_equiv.refl order.id)

same_order-laws : IsEquivalence same_order
same_order-laws = record {
  refl = same_order-refl;
  symm = λ a b i. nat_list_eq_equiv.symm a.peer b.peer i && nat_list_eq_equiv.symm a.id b.id i;
  congr = λ a b c same. ap (λ key. same_order key c) (same_order-true a b same);
}

-- ---- the cell at a place

entry-there : (cells : List (OrderKey × Tally)) (place : ℕ) (order : OrderKey) → order_at cells place ≡ Some order → (tally : Tally) × (slice_get cells place ≡ Some (order, tally))
entry-there [] place order is = absurd (cc is)
entry-there (cell ∷ cells) zero order is = let same = same_Some cell.0 order is in (cell.1, λ i. Some (same i, cell.1))
entry-there (cell ∷ cells) (suc place) order is = entry-there cells place order is

-- a look-up finds the cell of an order at its place
pub found-there : (cells : List (OrderKey × Tally)) (order : OrderKey) (place : ℕ) → position (same_order order) (keys_of cells) ≡ Some place → order_at cells place ≡ Some order
found-there cells order place is =
    let found = position-Some (same_order order) (keys_of cells) place order is in
    slice_get-get_or (keys_of cells) place order found.0 ∙ ap Some (sym (same_order-true order (get_or (keys_of cells) place order) found.1))

-- a tally that is written leaves the orders at their places
pub places-written : (cells : List (OrderKey × Tally)) (at : ℕ) (tally : Tally) → KeepsPlaces cells (set_value_at cells at tally)
places-written [] at tally place order is = is
places-written (cell ∷ cells) zero tally zero order is = is
places-written (cell ∷ cells) zero tally (suc place) order is = is
places-written (cell ∷ cells) (suc at) tally zero order is = is
places-written (cell ∷ cells) (suc at) tally (suc place) order is = places-written cells at tally place order is

-- and so does a cell that comes last, whose place is the next
pub places-last : (cells : List (OrderKey × Tally)) (cell : OrderKey × Tally) → KeepsPlaces cells (cells ++ cell ∷ [])
places-last [] cell place order is = absurd (cc is)
places-last (first ∷ cells) cell zero order is = is
places-last (first ∷ cells) cell (suc place) order is = places-last cells cell place order is

pub last-place : (cells : List (OrderKey × Tally)) (cell : OrderKey × Tally) → order_at (cells ++ cell ∷ []) (length cells) ≡ Some cell.0
last-place [] cell = refl
last-place (first ∷ cells) cell = last-place cells cell

-- what is where is still there later
pub KeepsPlaces-then : (old now new : List (OrderKey × Tally)) → KeepsPlaces old now → KeepsPlaces now new → KeepsPlaces old new
KeepsPlaces-then old now new first second place order is = second place order (first place order is)

module _ {S : Type 0} (cells : HashMap OrderKey Tally S) (unique : IsUnique same_order cells) (order : OrderKey) (place : ℕ) (is : order_at cells.entries place ≡ Some order) where
  -- the tally at the place of an order is its tally
  pub tally-there : (tally : Tally) → Some tally ≡ slice_get (values cells) place → tally ≡ tally_at cells.entries order
  tally-there tally read =
      let there = entry-there cells.entries place order is in
      let same : tally ≡ there.0 = same_Some tally there.0 (read ∙ slice_get-map (λ cell. cell.1) cells.entries place ∙ ap (option_map (λ cell. cell.1)) there.1) in
      same ∙ sym (ap (λ found. unwrap_or found no_tally) (hash_map_get_place same_order-laws cells place order there.0 unique there.1))

  -- so there is one
  pub none-there : None ≡ slice_get (values cells) place → ⊥
  none-there none =
      let there = entry-there cells.entries place order is in
      let clash : None ≡ Some there.0 = none ∙ slice_get-map (λ cell. cell.1) cells.entries place ∙ ap (option_map (λ cell. cell.1)) there.1 in
      cc clash

  -- and one that is written there changes it
  pub changed-there :
      (change : Tally → Tally) (old new : Tally) → Some old ≡ slice_get (values cells) place → new ≡ change old
      → Changes order change cells.entries (set_value_at cells.entries place new)
  changed-there change old new read written key =
      let there = entry-there cells.entries place order is in
      let updates = updates-with_value_at cells place new same_order-laws unique order there.0 there.1 in
      let after = ap (λ found. unwrap_or found no_tally) (updates.0 key) in
      elim (cases_Bool (same_order order key)) [
        | inl own ↦
            let here = same_order-true order key own in
            rw own (after ∙ ap (λ test. unwrap_or (if test then Some new else lookup (same_order key) cells.entries) no_tally) own
            ∙ written ∙ ap change (tally-there old read ∙ ap (tally_at cells.entries) here))
        | inr other ↦ rw other (after ∙ ap (λ test. unwrap_or (if test then Some new else lookup (same_order key) cells.entries) no_tally) other)
      ]
