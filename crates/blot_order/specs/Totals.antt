-- What the fills of an order that are put come to, as they come and go.
use Rattle.std.specs.Prelude.{◌≤◌, ◌^◌, ℤ, pos, neg_ℤ, ◌+ℤ◌, ◌-ℤ◌, ◌*ℤ◌, ◌≤ℤ◌}
use Rattle.std.specs.Int.{int_max}
use Rattle.blot_types.specs.declared.{fill.Fill.Fill, lines.OrderLine.OrderLine}
use Rattle.blot_order.specs.declared.totals.Totals.{Totals}

-- the totals of no fills
abbrev pub no_fills : Totals
no_fills = record { cum = pos 0; value = pos 0 }

-- the totals with one more fill
abbrev pub with_one : Fill → Totals → Totals
with_one fill totals = record { cum = totals.cum +ℤ pos fill.qty; value = totals.value +ℤ (pos fill.qty *ℤ fill.price) }

-- the totals with one fill less
abbrev pub without_one : Fill → Totals → Totals
without_one fill totals = record { cum = totals.cum -ℤ pos fill.qty; value = totals.value -ℤ (pos fill.qty *ℤ fill.price) }

-- the line of an order with these totals: symbol, sign and size are those of its last fill
abbrev pub line_with : Totals → Fill → OrderLine
line_with totals last = record {
  cum = totals.cum;
  leaves = int_max (pos 0) (last.size -ℤ totals.cum);
  value = totals.value;
  symbol = last.symbol;
  sign = last.sign;
}

-- a fill is at most 10^16 units of quantity and 10^32 of value
pub record Fits (fill : Fill) : Type 0 where
  pub qty : fill.qty ≤ 10 ^ 16
  pub value_low : neg_ℤ (pos (10 ^ 32)) ≤ℤ (pos fill.qty *ℤ fill.price)
  pub value_high : (pos fill.qty *ℤ fill.price) ≤ℤ pos (10 ^ 32)

-- the sums are small enough that one more fill, or one less, stays within an `i128`
pub record AreSmall (totals : Totals) : Type 0 where
  pub cum_low : pos 0 ≤ℤ totals.cum
  pub cum_high : totals.cum ≤ℤ pos (10 ^ 38)
  pub value_low : neg_ℤ (pos (10 ^ 38)) ≤ℤ totals.value
  pub value_high : totals.value ≤ℤ pos (10 ^ 38)
