-- The lines of all days show the orders and the positions of the book.
use Rattle.std.proofs.Common.{◌≡◌, ℕ, Bool, true, false, ◌&&◌, List, [], ◌∷◌, ◌++◌, map, Option, Some, None, refl, sym, ap, subst, ◌∙◌, filter, find, if◌then◌else◌, flat_map, option_map}
use Rattle.std.specs.Cmp.Lexicographic.{same_text as text_told}
use Rattle.std.proofs.lemmas.Bool.{and_parts}
use Rattle.blot_types.specs.declared.{command.Entry.Entry, keys.OrderKey.OrderKey, lines.Version.Version}
use Rattle.blot_types.specs.Allocations.{Allocation, live_allocations}
use Rattle.blot_types.specs.Keys.{same_order, same_text}
use Rattle.blot_types.specs.Order.{fills_of, line_of, order_of}
use Rattle.blot_types.specs.Position.{is_at, moves_of, part_of, position_by, position_of}
use Rattle.blot_types.specs.Survivors.{survivors}
use Rattle.blot_types.proofs.ChainLemmas.{differing}
use Rattle.blot_types.proofs.GeneralLemmas.{filter-all}
use Rattle.blot_report.specs.declared.{lines.OrderRow.OrderRow, lines.PositionRow.PositionRow}
use Rattle.blot_report.specs.Day.{allocations_on, day_parts_of, fills_on, is_allocated_on, is_on}
use Rattle.blot_report.specs.Laws.{ShowsOrders, ShowsPositions, order_line_in, position_line_in}
use Rattle.blot_report.specs.Lines.{is_of, order_lines_of, order_rows, position_lines_of, position_rows}
use Rattle.blot_report.proofs.ShowLemmas.{orders-found, positions-found}

-- what is found among the items that pass a test, where what is looked for passes it, or doesn't
find-kept : {X : Type 0} (p q : X → Bool) (b : Bool) (xs : List X) → ((x : X) → p x ≡ true → q x ≡ b) → find p (filter q xs) ≡ (if b then find p xs else None)
find-kept p q true [] same = refl
find-kept p q false [] same = refl
find-kept p q b (x ∷ xs) same = by_pass (p x) refl (q x) refl b refl (find-kept p q b xs same)
  where
    by_pass : (is : Bool) → p x ≡ is → (kept : Bool) → q x ≡ kept → (c : Bool) → b ≡ c → find p (filter q xs) ≡ (if b then find p xs else None)
        → find p (if kept then x ∷ filter q xs else filter q xs) ≡ (if c then (if is then Some x else find p xs) else None)
    by_pass true is true kept true whole rest = rw is refl
    by_pass true is true kept false whole rest = absurd (differing kept (same x is ∙ whole))
    by_pass true is false kept true whole rest = absurd (differing (same x is ∙ whole) kept)
    by_pass true is false kept false whole rest = rest ∙ ap (λ c. if c then find p xs else None) whole
    by_pass false is true kept true whole rest = rw is (rest ∙ ap (λ c. if c then find p xs else None) whole)
    by_pass false is true kept false whole rest = rw is (rest ∙ ap (λ c. if c then find p xs else None) whole)
    by_pass false is false kept true whole rest = rest ∙ ap (λ c. if c then find p xs else None) whole
    by_pass false is false kept false whole rest = rest ∙ ap (λ c. if c then find p xs else None) whole

none-mapped : {X Y : Type 0} (f : X → Y) (b : Bool) (found : Option X) → option_map f (if b then found else None) ≡ (if b then option_map f found else None)
none-mapped f true found = refl
none-mapped f false found = refl

pub shows-orders : (list : List Entry) (peer : Option (List ℕ)) (rows : List OrderRow) → rows ≡ order_lines_of list peer → ShowsOrders list peer rows
shows-orders list peer rows is = subst (ShowsOrders list peer) (sym is) (record {
  orders = λ order own. kept order ∙ ap (λ b. if b then order_line_in whole order else None) own ∙ line order;
  others = λ order other. kept order ∙ ap (λ b. if b then order_line_in whole order else None) other;
})
  where
    whole : List OrderRow
    whole = order_rows (fills_on list None)

    kept : (order : OrderKey) → order_line_in (order_lines_of list peer) order ≡ (if is_of order.peer peer then order_line_in whole order else None)
    kept order =
        ap (option_map (λ (row : OrderRow). row.line))
        (find-kept (λ (row : OrderRow). same_order row.order order) (λ row. is_of row.order.peer peer) (is_of order.peer peer) whole
        (λ row own. ap (λ (text : List ℕ). is_of text peer) (text_told row.order.peer order.peer (sym (and_parts _ _ own).0))))
        ∙ none-mapped (λ (row : OrderRow). row.line) (is_of order.peer peer) (find (λ row. same_order row.order order) whole)

    line : (order : OrderKey) → order_line_in whole order ≡ order_of list order
    line order =
        orders-found (fills_on list None) order
        ∙ ap (λ versions. line_of (fills_of (map (λ (v : Version). v.fill) versions) order)) (filter-all (is_on None) (survivors list) (λ version. refl))

pub shows-positions : (list : List Entry) (account : Option (List ℕ)) (rows : List PositionRow) → rows ≡ position_lines_of list account → ShowsPositions list account rows
shows-positions list account rows is = subst (ShowsPositions list account) (sym is) (record {
  positions = λ own symbol same. kept own symbol ∙ ap (λ b. if b then position_line_in whole own symbol else None) same ∙ line own symbol;
  others = λ own symbol other. kept own symbol ∙ ap (λ b. if b then position_line_in whole own symbol else None) other;
})
  where
    whole : List PositionRow
    whole = position_rows (day_parts_of list None)

    kept : (own symbol : List ℕ) → position_line_in (position_lines_of list account) own symbol ≡ (if is_of own account then position_line_in whole own symbol else None)
    kept own symbol =
        ap (option_map (λ (row : PositionRow). row.line))
        (find-kept (λ (row : PositionRow). same_text row.position.account own && same_text row.position.symbol symbol) (λ row. is_of row.position.account account) (is_of own account) whole
        (λ row both. ap (λ (text : List ℕ). is_of text account) (text_told row.position.account own (sym (and_parts _ _ both).0))))
        ∙ none-mapped (λ (row : PositionRow). row.line) (is_of own account) (find (λ row. same_text row.position.account own && same_text row.position.symbol symbol) whole)

    line : (own symbol : List ℕ) → position_line_in whole own symbol ≡ position_of list own symbol
    line own symbol =
        positions-found (day_parts_of list None) own symbol
        ∙ ap (λ versions. position_by (filter (is_at own symbol) (map (part_of list) versions ++ flat_map (λ (a : Allocation). moves_of a.terms) (allocations_on list None))))
        (filter-all (is_on None) (survivors list) (λ version. refl))
        ∙ ap (λ allocations. position_by (filter (is_at own symbol) (map (part_of list) (survivors list) ++ flat_map (λ (a : Allocation). moves_of a.terms) allocations)))
        (filter-all (is_allocated_on None) (live_allocations list) (λ allocation. refl))
