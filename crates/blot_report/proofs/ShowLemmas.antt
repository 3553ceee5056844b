-- The lines of a day show each order and each position of it.
use Rattle.std.proofs.Common.{◌≡◌, ℕ, ℤ, Bool, true, false, ◌&&◌, ◌||◌, List, [], ◌∷◌, map, Option, Some, None, refl, sym, ap, subst, ◌∙◌, inl, inr, filter, find, if◌then◌else◌, filter_map, option_map}
use Rattle.std.specs.List.{cons_option, list_any}
use Rattle.std.proofs.lemmas.Bool.{cases_Bool, or_parts}
use Rattle.blot_types.specs.declared.{command.Entry.Entry, fill.Fill.Fill, keys.OrderKey.OrderKey, lines.OrderLine.OrderLine, part.Part.Part, lines.PositionLine.PositionLine, keys.PositionKey.PositionKey}
use Rattle.blot_types.specs.Keys.{same_order, same_text, position_cmp}
use Rattle.blot_types.proofs.KeyLemmas.{position_cmp-exact, same_order-true}
use Rattle.blot_types.specs.Order.{line_of, fills_of}
use Rattle.blot_types.specs.Position.{is_at, position_by}
use Rattle.blot_position.proofs.PositionLemmas.{same_position-true}
use Rattle.blot_report.specs.declared.{lines.DayLines.DayLines, lines.OrderRow.OrderRow, lines.PositionRow.PositionRow}
use Rattle.blot_report.specs.Day.{fills_on, day_parts_of}
use Rattle.blot_report.proofs.KeyLemmas.{order_cmp-exact}
use Rattle.blot_report.proofs.ListLemmas.{any-mapped}
use Rattle.blot_report.proofs.SortedLemmas.{any-sorted}
use Rattle.blot_report.specs.Laws.{ShowsDay, order_line_in, position_line_in}
use Rattle.blot_report.specs.Lines.{order_cmp, orders_among, order_rows, position_key, positions_among, position_rows, day_lines_of}

-- ---- what is among keys

filter-none : {A : Type 0} (p : A → Bool) (xs : List A) → list_any p xs ≡ false → filter p xs ≡ []
filter-none p [] none = refl
filter-none p (x ∷ xs) none = (let parts = or_parts (p x) (list_any p xs) none in rw parts.0 (filter-none p xs parts.1))

-- ---- what is found among rows

-- what a key shows, where it is among some
abbrev shown_if : {V : Type 0} → Bool → Option V → Option V
shown_if test shown = if test then shown else None

nothing-shown : {V : Type 0} (test : Bool) (shown : Option V) → shown ≡ None → shown_if test shown ≡ None
nothing-shown true shown none = none
nothing-shown false shown none = refl

all-shown : {V : Type 0} (test : Bool) (shown : Option V) → (test ≡ false → shown ≡ None) → shown_if test shown ≡ shown
all-shown true shown none = refl
all-shown false shown none = sym (none refl)

-- how rows are made of keys and lines, and looked up by one key
record Looks {K V R : Type 0} (line : K → Option V) (row : K → V → R) (same : R → Bool) (value : R → V) (test : K → Bool) (key : K) : Type 0 where
  same_is : (k : K) (v : V) → same (row k v) ≡ test k
  value_is : (k : K) (v : V) → value (row k v) ≡ v
  only : (k : K) → test k ≡ true → k ≡ key

found-none :
    {K V R : Type 0} (line : K → Option V) (row : K → V → R) (same : R → Bool) (value : R → V) (test : K → Bool) (key : K) (k : K) (rows : List R) (any : Bool)
    → Looks line row same value test key → line k ≡ None → option_map value (find same rows) ≡ shown_if any (line key)
    → option_map value (find same rows) ≡ shown_if (test k || any) (line key)
found-none line row same value test key k rows any looks none rest =
    elim (cases_Bool (test k)) [
      | inl here ↦
          let empty : line key ≡ None = ap line (sym (looks.only k here)) ∙ none in
          rw here (rest ∙ nothing-shown any (line key) empty ∙ sym empty)
      | inr other ↦ rw other rest
    ]

found-some :
    {K V R : Type 0} (line : K → Option V) (row : K → V → R) (same : R → Bool) (value : R → V) (test : K → Bool) (key : K) (k : K) (v : V) (rows : List R) (any : Bool)
    → Looks line row same value test key → line k ≡ Some v → option_map value (find same rows) ≡ shown_if any (line key)
    → option_map value (find same (row k v ∷ rows)) ≡ shown_if (test k || any) (line key)
found-some line row same value test key k v rows any looks some rest =
    elim (cases_Bool (test k)) [
      | inl here ↦
          let first : same (row k v) ≡ true = looks.same_is k v ∙ here in
          rw (first, here) (ap Some (looks.value_is k v) ∙ sym some ∙ ap line (looks.only k here))
      | inr other ↦
          let later : same (row k v) ≡ false = looks.same_is k v ∙ other in
          rw (later, other) rest
    ]

-- a key is found among the rows of some keys exactly where it is one of them and has a line
found :
    {K V R : Type 0} (line : K → Option V) (row : K → V → R) (same : R → Bool) (value : R → V) (test : K → Bool) (key : K) (keys : List K)
    → Looks line row same value test key
    → option_map value (find same (filter_map (λ k. option_map (row k) (line k)) keys)) ≡ shown_if (list_any test keys) (line key)
found line row same value test key [] looks = refl
found {K} {V} {R} line row same value test key (k ∷ keys) looks = by (line k) refl (found line row same value test key keys looks)
  where
    rows : List R
    rows = filter_map (λ k. option_map (row k) (line k)) keys

    by : (shown : Option V) → line k ≡ shown → option_map value (find same rows) ≡ shown_if (list_any test keys) (line key)
        → option_map value (find same (cons_option (option_map (row k) shown) rows)) ≡ shown_if (test k || list_any test keys) (line key)
    by None is rest = found-none line row same value test key k rows (list_any test keys) looks is rest
    by (Some v) is rest = found-some line row same value test key k v rows (list_any test keys) looks is rest

-- ---- orders

no-line : (fills : List Fill) (order : OrderKey) → list_any (λ k. same_order k order) (orders_among fills) ≡ false → line_of (fills_of fills order) ≡ None
no-line fills order none =
    let keys = map (λ (f : Fill). f.order) fills in
    let among : list_any (λ k. same_order k order) (orders_among fills) ≡ list_any (λ (f : Fill). same_order f.order order) fills =
    any-sorted order_cmp (λ k. same_order k order) keys order_cmp-exact
    ∙ any-mapped (λ k. same_order k order) (λ (f : Fill). f.order) fills in
    ap line_of (filter-none (λ (f : Fill). same_order f.order order) fills (sym among ∙ none))

pub orders-found : (fills : List Fill) (order : OrderKey) → order_line_in (order_rows fills) order ≡ line_of (fills_of fills order)
orders-found fills order =
    let line : OrderKey → Option OrderLine = λ k. line_of (fills_of fills k) in
    let row : OrderKey → OrderLine → OrderRow = λ k l. record { order = k; line = l } in
    let test : OrderKey → Bool = λ k. same_order k order in
    found line row (λ r. same_order r.order order) (λ r. r.line) test order (orders_among fills)
    (record { same_is = λ k v. refl; value_is = λ k v. refl; only = λ k same. same_order-true k order same })
    ∙ all-shown (list_any test (orders_among fills)) (line order) (no-line fills order)

-- ---- positions

-- whether a position is that of an account in a symbol
abbrev is_position : List ℕ → List ℕ → PositionKey → Bool
is_position account symbol position = same_text position.account account && same_text position.symbol symbol

is_position-true : (account symbol : List ℕ) (position : PositionKey) → is_position account symbol position ≡ true → position ≡ record { account = account; symbol = symbol }
is_position-true account symbol position same =
    (let parts = same_position-true position.account position.symbol account symbol same in λ i. record { account = parts.0 i; symbol = parts.1 i })

no-parts : (parts : List Part) (account symbol : List ℕ) → list_any (is_position account symbol) (positions_among parts) ≡ false → position_by (filter (is_at account symbol) parts) ≡ None
no-parts parts account symbol none =
    let keys = map position_key parts in
    let among : list_any (is_position account symbol) (positions_among parts) ≡ list_any (is_at account symbol) parts =
    any-sorted position_cmp (is_position account symbol) keys position_cmp-exact
    ∙ any-mapped (is_position account symbol) position_key parts in
    ap position_by (filter-none (is_at account symbol) parts (sym among ∙ none))

pub positions-found : (parts : List Part) (account symbol : List ℕ) → position_line_in (position_rows parts) account symbol ≡ position_by (filter (is_at account symbol) parts)
positions-found parts account symbol =
    let line : PositionKey → Option PositionLine = λ k. position_by (filter (is_at k.account k.symbol) parts) in
    let row : PositionKey → PositionLine → PositionRow = λ k l. record { position = k; line = l } in
    let key : PositionKey = record { account = account; symbol = symbol } in
    found line row (λ r. is_position account symbol r.position) (λ r. r.line) (is_position account symbol) key (positions_among parts)
    (record { same_is = λ k v. refl; value_is = λ k v. refl; only = λ k same. is_position-true account symbol k same })
    ∙ all-shown (list_any (is_position account symbol) (positions_among parts)) (line key) (no-parts parts account symbol)

-- ---- the lines of a day

shows : (list : List Entry) (day : ℤ) → ShowsDay list day (day_lines_of list day)
shows list day = record {
  orders = λ order. orders-found (fills_on list (Some day)) order;
  positions = λ account symbol. positions-found (day_parts_of list (Some day)) account symbol;
}

pub shows-day : (list : List Entry) (day : ℤ) (lines : DayLines) → lines ≡ day_lines_of list day → ShowsDay list day lines
shows-day list day lines is = subst (ShowsDay list day) (sym is) (shows list day)

-- the rows of a day's fills and of its parts are the lines of the day
pub lines-found :
    (list : List Entry) (day : ℤ) (orders : List OrderRow) (positions : List PositionRow) → orders ≡ order_rows (fills_on list (Some day))
    → positions ≡ position_rows (day_parts_of list (Some day)) → record { day = day; orders = orders; positions = positions } ≡ day_lines_of list day
lines-found list day orders positions ordered placed = λ i. record { day = day; orders = ordered i; positions = placed i }
