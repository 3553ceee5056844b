-- No total of an order or a position of a book reaches 10^38.
use Rattle.std.proofs.Common.{◌≡◌, ◌+◌, ◌*◌, ◌^◌, ◌≤◌, pos, ◌*ℤ◌, arith, List, [], ◌∷◌, length, map, Option, Some, None, sym, subst, true, ℤ, unsigned_abs, filter, All, IfSome, option_map}
use Rattle.std.specs.List.{last_or}
use Rattle.std.proofs.lemmas.Int.{ints}
use Rattle.std.proofs.lemmas.List.{length-map}
use Rattle.std.proofs.lemmas.List.Elements.{All-nil, All-cons, All-head, All-tail, All-filter}
use Rattle.blot_types.specs.declared.{fill.Fill.Fill, lines.OrderLine.OrderLine, part.Part.Part, lines.Version.Version, TheConstants.EVENTS_MAX}
use Rattle.blot_types.specs.Bounds.{BOOK_QTY}
use Rattle.blot_types.specs.Keys.{same_order}
use Rattle.blot_types.specs.Laws.{IsBounded, HasBoundedTotals}
use Rattle.blot_types.specs.Legal.{is_book}
use Rattle.blot_types.specs.Order.{total, cum_of, value_of, line_by, line_of, fills_of}
use Rattle.blot_types.specs.Position.{is_at, position_by, parts_of, FillFits}
use Rattle.blot_types.specs.Survivors.{links_of, versions_of, stands_in, survivors}
use Rattle.blot_types.proofs.PartLemmas.{signed-size}
use Rattle.blot_types.proofs.SumLemmas.{total-cons, total-where}
use Rattle.blot_types.proofs.GeneralLemmas.{length-filtered}
use Rattle.blot_position.specs.Positions.{Cells}
use Rattle.blot_position.proofs.CarryLemmas.{qty_at, value_at}
use Rattle.blot_command.specs.Book.{Shown}
use Rattle.blot_command.specs.Carried.{ShowsPositions}
use Rattle.blot_command.proofs.ReadyLemmas.{few-survivors, light-list}

bounded : (amount : ℤ) → unsigned_abs amount ≤ BOOK_QTY * 10 ^ 16 → IsBounded amount
bounded amount small = record { low = omega (arith, ints, small); high = omega (arith, ints, small) }

-- ---- the sums of fills

-- a fill is at most 10^16 units of quantity, and 10^32 of value
fill-small : (fill : Fill) → FillFits fill → (fill.qty ≤ 10 ^ 16) × (unsigned_abs (pos fill.qty *ℤ fill.price) ≤ 10 ^ 32)
fill-small fill fits =
    let part = fits true in
    let qty = part.qty in
    let value = part.value in
    let qty_size = signed-size fill.sign (pos fill.qty) in
    let value_size = signed-size fill.sign (pos fill.qty *ℤ fill.price) in
    let plain : unsigned_abs (pos fill.qty) ≡ fill.qty = omega (arith, ints) in
    (omega (arith, qty, qty_size, plain), omega (arith, qty, value, qty_size, value_size))

-- the sums of so many fills
record AreSmall (fills : List Fill) : Type 0 where
  cum : unsigned_abs (cum_of fills) ≤ length fills * 10 ^ 16
  value : unsigned_abs (value_of fills) ≤ length fills * 10 ^ 32

small-sums : (fills : List Fill) → All FillFits fills → AreSmall fills
small-sums [] fits = record { cum = omega (arith, ints); value = omega (arith, ints) }
small-sums (fill ∷ fills) fits =
    let rest = small-sums fills (All-tail FillFits fill fills fits) in
    let one = fill-small fill (All-head FillFits fill fills fits) in
    let cum = total-cons (λ (f : Fill). pos f.qty) fill fills in
    let value = total-cons (λ (f : Fill). pos f.qty *ℤ f.price) fill fills in
    record {
      cum = omega (arith, ints, cum, rest.cum, one.0);
      value = omega (arith, ints, value, rest.value, one.1);
    }

fits-of : (versions : List Version) → All (λ version. FillFits version.fill) versions → All FillFits (map (λ version. version.fill) versions)
fits-of [] all = All-nil FillFits
fits-of (version ∷ versions) all =
    All-cons FillFits version.fill (map (λ v. v.fill) versions) (All-head (λ (v : Version). FillFits v.fill) version versions all)
    (fits-of versions (All-tail (λ (v : Version). FillFits v.fill) version versions all))

mapped : {A B : Type 0} (P : B → Type 0) (f : A → B) (found : Option A) → ((a : A) → P (f a)) → IfSome (option_map f found) P
mapped P f None each = tt
mapped P f (Some a) each = each a

order-bounded : (fills : List Fill) → All FillFits fills → length fills ≤ EVENTS_MAX + 1 → IfSome (line_of fills) (λ line. IsBounded line.cum × IsBounded line.value)
order-bounded fills fits few =
    let sums = small-sums fills fits in
    let cum = sums.cum in
    let value = sums.value in
    mapped (λ (line : OrderLine). IsBounded line.cum × IsBounded line.value) (line_by fills) (last_or None fills)
    (λ last. (bounded (cum_of fills) (omega (arith, cum, few)), bounded (value_of fills) (omega (arith, value, few))))

-- ---- the sums of a position

position-bounded : (parts : List Part) → IsBounded (total (λ p. p.qty) parts) → IsBounded (total (λ p. p.value) parts) → IfSome (position_by parts) (λ line. IsBounded line.qty × IsBounded line.value)
position-bounded [] qty value = tt
position-bounded (part ∷ parts) qty value = (qty, value)

pub has-bounded-totals : (shown : Shown) (cells : Cells) → is_book shown.list ≡ true → ShowsPositions shown cells → HasBoundedTotals shown.list
has-bounded-totals shown cells book shows =
    let list = shown.list in
    let light = light-list list cells book shows.ready in
    let fits : All (λ version. FillFits version.fill) (survivors list) = All-filter (stands_in (links_of list)) (λ (version : Version). FillFits version.fill) (versions_of list) shows.ready.fills_fit in
    let fills = map (λ (version : Version). version.fill) (survivors list) in
    let few = few-survivors list book in
    record {
      orders = λ order.
          (let short = length-filtered (λ (fill : Fill). same_order fill.order order) fills in
          let long = length-map (survivors list) (λ (version : Version). version.fill) in
          order-bounded (fills_of fills order) (All-filter (λ (fill : Fill). same_order fill.order order) FillFits fills (fits-of (survivors list) fits)) (omega (arith, short, long, few)));
      positions = λ a s.
          (let here = filter (is_at a s) (parts_of list) in
          let qtys = light.qtys a s in
          let values = light.values a s in
          let qty : total (λ (p : Part). p.qty) here ≡ total (qty_at a s) (parts_of list) = total-where (λ (p : Part). p.qty) (is_at a s) (parts_of list) in
          let value : total (λ (p : Part). p.value) here ≡ total (value_at a s) (parts_of list) = total-where (λ (p : Part). p.value) (is_at a s) (parts_of list) in
          position-bounded here (bounded (total (λ (p : Part). p.qty) here) (subst (λ sum. unsigned_abs sum ≤ BOOK_QTY * 10 ^ 16) (sym qty) (omega (arith, qtys))))
          (bounded (total (λ (p : Part). p.value) here) (subst (λ sum. unsigned_abs sum ≤ BOOK_QTY * 10 ^ 16) (sym value) (omega (arith, values)))));
    }
