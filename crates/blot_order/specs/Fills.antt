-- The fills of an order book by their number: a finite map from number to what is held there.
use Rattle.std.specs.Prelude.{ℕ, List, Option, Some, None, filter_map, option_map, option_and_then}
use Rattle.std.specs.Coded.{Coded, coded_ℕ}
use Rattle.std.specs.FinMap as map
use Rattle.std.specs.Ordering.{nat_cmp}
use Rattle.blot_types.specs.declared.fill.Fill.{Fill}
use Rattle.blot_order.specs.contracts.stored_fill.FillState as held_rust
use Rattle.blot_order.specs.declared.stored_fill.FillState.{FillState}
use Rattle.blot_order.specs.declared.stored_fill.FillState.TheVariants.{Kept, Put}

-- the fills by number
abbrev pub Fills : Type 0
Fills = map.FinMap nat_cmp FillState

-- how such a map is stored as a value
abbrev pub fills_code : Coded Fills
fills_code = map.code coded_ℕ held_rust.the_row.coded

-- the fill that is put, if it is
abbrev pub fill_put : FillState → Option Fill
fill_put (Kept fill) = None
fill_put (Put fill) = Some fill

-- the fill that is kept after it was taken, if it is
abbrev pub fill_kept : FillState → Option Fill
fill_kept (Kept fill) = Some fill
fill_kept (Put fill) = None

-- the fill that is held, put or kept
abbrev pub fill_held : FillState → Fill
fill_held (Kept fill) = fill
fill_held (Put fill) = fill

-- the fill that is put under a number
abbrev pub put_at : Fills → ℕ → Option Fill
put_at fills number = option_and_then fill_put (map.get fills number)

-- the fill that is kept under a number
abbrev pub kept_at : Fills → ℕ → Option Fill
kept_at fills number = option_and_then fill_kept (map.get fills number)

-- the fill under a number, put or kept
abbrev pub held_at : Fills → ℕ → Option Fill
held_at fills number = option_map fill_held (map.get fills number)

-- the fills with one put under a number
abbrev pub with_put : ℕ → Fill → Fills → Fills
with_put number fill fills = map.insert fills number (Put fill)

-- the fills with one kept under a number
abbrev pub with_kept : ℕ → Fill → Fills → Fills
with_kept number fill fills = map.insert fills number (Kept fill)

-- the fills that are put, in rising order of number
abbrev pub fills_put : Fills → List Fill
fills_put fills = filter_map fill_put (map.values fills)
