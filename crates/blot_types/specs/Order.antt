-- The order line: what the surviving executions have filled of an order. Amounts are sums over lists,
-- signed and with no bound.
use Rattle.std.specs.Prelude.{ℕ, ◌*◌, ◌^◌, ◌≤ℤ◌, ℤ, neg_ℤ, pos, ◌+ℤ◌, ◌-ℤ◌, ◌*ℤ◌, List, map, filter, fold, Option, None, option_map}
use Rattle.std.specs.List.{last_or}
use Rattle.std.specs.Option.{option_map_or}
use Rattle.std.specs.Int.{int_max}
use Rattle.blot_types.specs.declared.{command.Entry.Entry, fill.Fill.Fill, keys.OrderKey.OrderKey, lines.OrderLine.OrderLine}
use Rattle.blot_types.specs.Keys.{same_order}
use Rattle.blot_types.specs.Survivors.{survivors}

-- the sum of an amount over a list
abbrev pub total : {A : Type 0} → (A → ℤ) → List A → ℤ
total amount items = fold (λ sum item. sum +ℤ amount item) (pos 0) items

-- the quantity filled, in units of 10^-6
abbrev pub cum_of : List Fill → ℤ
cum_of fills = total (λ fill. pos fill.qty) fills

-- quantity times price, in units of 10^-14
abbrev pub value_of : List Fill → ℤ
value_of fills = total (λ fill. pos fill.qty *ℤ fill.price) fills

-- what an order's fills come to: symbol, sign and size are those of the last
abbrev pub line_by : List Fill → Fill → OrderLine
line_by fills last = record {
  cum = cum_of fills;
  leaves = int_max (pos 0) (last.size -ℤ cum_of fills);
  value = value_of fills;
  symbol = last.symbol;
  sign = last.sign;
}

-- the line of an order's fills; none without a fill
abbrev pub line_of : List Fill → Option OrderLine
line_of fills = option_map (line_by fills) (last_or None fills)

-- the fills of an order, in their order
abbrev pub fills_of : List Fill → OrderKey → List Fill
fills_of fills order = filter (λ fill. same_order fill.order order) fills

-- the line of an order (FIX 4.4 volume 4, CumQty and LeavesQty; computed from the survivors alone)
abbrev pub order_of : List Entry → OrderKey → Option OrderLine
order_of list order = line_of (fills_of (map (λ version. version.fill) (survivors list)) order)

-- the sums of a line; 0 without one
abbrev pub cum_before : Option OrderLine → ℤ
cum_before line = option_map_or (λ shown. shown.cum) line (pos 0)

abbrev pub value_before : Option OrderLine → ℤ
value_before line = option_map_or (λ shown. shown.value) line (pos 0)

-- a line with one more fill: the sums grow by it, and symbol, sign and size are the fill's
abbrev pub with_fill : Option OrderLine → Fill → OrderLine
with_fill line fill = record {
  cum = cum_before line +ℤ pos fill.qty;
  leaves = int_max (pos 0) (fill.size -ℤ (cum_before line +ℤ pos fill.qty));
  value = value_before line +ℤ (pos fill.qty *ℤ fill.price);
  symbol = fill.symbol;
  sign = fill.sign;
}

-- the sums of a line are those of at most n fills, each below 10^16 units of quantity and 10^32 of value
pub record IsWithin (n : ℕ) (line : Option OrderLine) : Type 0 where
  pub cum_low : pos 0 ≤ℤ cum_before line
  pub cum_high : cum_before line ≤ℤ pos (n * 10 ^ 16)
  pub value_low : neg_ℤ (pos (n * 10 ^ 32)) ≤ℤ value_before line
  pub value_high : value_before line ≤ℤ pos (n * 10 ^ 32)
