use Rattle.std.proofs.Common.{◌≡◌, ◌*◌, ◌^◌, pos, ◌≤ℤ◌, take, reverse, filter_map}
use Rattle.blot_types.specs.Order.{cum_of}
use Rattle.blot_types.specs.Refusals.{current_fill}
use Rattle.blot_model.proofs.amounts.wanted.Given as goal

abbrev pub invariant-loop-key : goal.invariant-loop-key
invariant-loop-key l = record { sum : l.sum ≡ cum_of (filter_map (current_fill (reverse l.list)) (take l.key-index l.execs)); low : pos 0 ≤ℤ l.sum; high : l.sum ≤ℤ pos (10 ^ 16 * l.key-index) }
