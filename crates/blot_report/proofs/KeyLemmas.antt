-- The keys of orders and positions: their orders are total and tie no two keys, and a tie is what the tests call one.
use Rattle.std.proofs.Common.{◌≡◌, ℕ, Bool, true, false, ◌&&◌, ◌||◌, List, [], ◌∷◌, ◌++◌, map, Option, Some, None, refl, sym, ap, subst, ◌∙◌, inl, inr, filter, is_some, IsPermutation, IsSorted, is_eq, nat_cmp, Ordering, Less, Equal, Greater}
use Rattle.std.specs.Cmp.{IsTotalOrder, on_total, then_total}
use Rattle.std.specs.FinMap as finite
use Rattle.std.specs.Cmp.Lexicographic.{slice_cmp, nat_list_cmp_total, nat_list_eq_equiv, texts_ties}
use Rattle.std.specs.List.{list_any, last_or, IsDistinct}
use Rattle.std.specs.Map.{keys_of}
use Rattle.std.specs.Ordering.{eq_by_cmp, ordering_then}
use Rattle.std.proofs.lemmas.Bool.{cases_Bool}
use Rattle.std.proofs.lemmas.List.Folds.{list_any-append}
use Rattle.std.proofs.lemmas.Map.Lookups.{CmpEqualImpliesEq, exact_bytes, exact_pairs}
use Rattle.std.proofs.lemmas.Map.Made.{is_some-lookup}
use Rattle.std.proofs.lemmas.List.{map_push}
use Rattle.blot_types.specs.declared.{fill.Fill.Fill, keys.OrderKey.OrderKey, keys.PositionKey.PositionKey, lines.OrderLine.OrderLine, part.Part.Part}
use Rattle.blot_types.specs.Keys.{same_order, same_text, position_cmp}
use Rattle.blot_types.specs.Order.{line_by, fills_of}
use Rattle.blot_types.proofs.KeyLemmas.{position_cmp-exact, position_cmp-total}
use Rattle.blot_types.proofs.GeneralLemmas.{some-mapped}
use Rattle.blot_position.specs.Positions.{Cells, same_key, has_cell, with_part, AreKeysOf}
use Rattle.blot_position.proofs.PositionLemmas.{has_cell-empty, has_cell-with_part}
use Rattle.blot_report.specs.Lines.{order_cmp, orders_among, position_key, positions_among}
use Rattle.blot_report.specs.Orders.{AreLinesOf}
use Rattle.blot_report.specs.Sums.{HasCells}
use Rattle.blot_report.proofs.ListLemmas.{any-mapped}
use Rattle.blot_report.proofs.SortedLemmas.{sorted-once}

-- ---- the orders of keys

pub order_cmp-total : IsTotalOrder order_cmp
order_cmp-total = then_total (on_total (λ (key : OrderKey). key.peer) nat_list_cmp_total) (on_total (λ (key : OrderKey). key.id) nat_list_cmp_total)

pub order_cmp-exact : CmpEqualImpliesEq order_cmp
order_cmp-exact a b tied =
    let both : (a.peer, a.id) ≡ (b.peer, b.id) = exact_pairs (slice_cmp nat_cmp) (slice_cmp nat_cmp) exact_bytes exact_bytes (a.peer, a.id) (b.peer, b.id) tied in
    λ i. record { peer = (both i).0; id = (both i).1 }

then-tied : (first second : Ordering) → (is_eq first && is_eq second) ≡ is_eq (ordering_then first second)
then-tied Less second = refl
then-tied Equal second = refl
then-tied Greater second = refl

texts-tied : (a b c d : List ℕ) → (same_text a b && same_text c d) ≡ is_eq (ordering_then (slice_cmp nat_cmp a b) (slice_cmp nat_cmp c d))
texts-tied a b c d = (λ i. texts_ties a b i && texts_ties c d i) ∙ then-tied (slice_cmp nat_cmp a b) (slice_cmp nat_cmp c d)

orders-tied : same_order ≡ eq_by_cmp order_cmp
orders-tied = λ i a b. texts-tied a.peer b.peer a.id b.id i

positions-tied : same_key ≡ eq_by_cmp position_cmp
positions-tied = λ i a b. texts-tied a.account b.account a.symbol b.symbol i

same_order-sym : (a b : OrderKey) → same_order a b ≡ same_order b a
same_order-sym a b = rw (nat_list_eq_equiv.symm a.peer b.peer, nat_list_eq_equiv.symm a.id b.id)

same_key-sym : (a b : PositionKey) → same_key a b ≡ same_key b a
same_key-sym a b = rw (nat_list_eq_equiv.symm a.account b.account, nat_list_eq_equiv.symm a.symbol b.symbol)

-- ---- keys sorted once

last-some : {A : Type 0} (found : Option A) (xs : List A) → is_some found ≡ true → is_some (last_or found xs) ≡ true
last-some found [] some = some
last-some found (x ∷ xs) some = last-some (Some x) xs refl

some-kept : {A : Type 0} (p : A → Bool) (xs : List A) → is_some (last_or None (filter p xs)) ≡ list_any p xs
some-kept p [] = refl
some-kept p (x ∷ xs) =
    elim (cases_Bool (p x)) [
      | inl here ↦ rw here (last-some (Some x) (filter p xs) refl)
      | inr other ↦ rw other (some-kept p xs)
    ]

-- the keys of lines are the orders of their fills
lines-keyed :
    (lines : List (OrderKey × OrderLine)) (fills : List Fill) (order : OrderKey) → AreLinesOf lines fills
    → list_any (same_order order) (keys_of lines) ≡ list_any (same_order order) (map (λ fill. fill.order) fills)
lines-keyed lines fills order are =
    sym (is_some-lookup (same_order order) lines) ∙ ap is_some (are order) ∙ some-mapped (line_by (fills_of fills order)) (last_or None (fills_of fills order))
    ∙ some-kept (λ (fill : Fill). same_order fill.order order) fills ∙ (λ i. list_any (λ (fill : Fill). same_order-sym fill.order order i) fills)
    ∙ sym (any-mapped (same_order order) (λ (fill : Fill). fill.order) fills)

-- the orders that have a line, sorted
pub orders-sorted :
    (lines : List (OrderKey × OrderLine)) (keys : List OrderKey) (fills : List Fill) → IsDistinct same_order (keys_of lines) → IsPermutation (keys_of lines) keys
    → IsSorted order_cmp keys → AreLinesOf lines fills → keys ≡ orders_among fills
orders-sorted lines keys fills distinct moved rises are =
    let own = keys_of lines in
    let came = map (λ (fill : Fill). fill.order) fills in
    sorted-once order_cmp came own keys order_cmp-total order_cmp-exact (subst (λ same. IsDistinct same own) orders-tied distinct)
    (λ key. subst (λ same. list_any (same key) own ≡ list_any (same key) came) orders-tied (lines-keyed lines fills key are)) moved rises

-- the positions for which a cell was made, sorted
pub positions-sorted :
    (cells : Cells) (found keys : List PositionKey) (parts : List Part) → AreKeysOf cells found → HasCells parts cells → IsPermutation found keys → IsSorted position_cmp keys
    → keys ≡ positions_among parts
positions-sorted cells found keys parts own made moved rises =
    let came = map position_key parts in
    sorted-once position_cmp came found keys position_cmp-total position_cmp-exact (subst (λ same. IsDistinct same found) positions-tied own.once)
    (λ key. subst (λ same. list_any (same key) found ≡ list_any (same key) came) positions-tied (own.all key ∙ made key)) moved rises

-- the cells of some parts, with one part more
pub cells-more :
    (cells : Cells) (done : List Part) (part : Part) → HasCells done cells → HasCells (done ++ part ∷ []) (with_part part.account part.symbol part.qty part.value cells)
cells-more cells done part made key =
    has_cell-with_part part.account part.symbol key.account key.symbol part.qty part.value cells
    ∙ joined (same_key (position_key part) key) (has_cell cells key.account key.symbol) (same_key-sym (position_key part) key) (made key)
    ∙ sym (ap (list_any (same_key key)) (map_push position_key done part) ∙ list_any-append (same_key key) (map position_key done) (position_key part ∷ []))
  where
    joined : (test has : Bool) {turned among : Bool} → test ≡ turned → has ≡ among → (test || has) ≡ (among || (turned || false))
    joined true true one two = rw (← one, ← two) refl
    joined true false one two = rw (← one, ← two) refl
    joined false true one two = rw (← one, ← two) refl
    joined false false one two = rw (← one, ← two) refl

-- no cells are made for no parts
pub cells-none : (cells : Cells) → cells ≡ finite.empty → HasCells [] cells
cells-none cells empty key = ap (λ c. has_cell c key.account key.symbol) empty ∙ has_cell-empty key.account key.symbol
