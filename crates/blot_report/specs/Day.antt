-- What stands on a day, or where none is given on all days: a survivor counts on the day of its own fill, a live allocation on its own
-- day. In which account a survivor sits is decided by the whole list, as in the book.
use Rattle.std.specs.Prelude.{ℕ, ℤ, Bool, true, List, ◌++◌, map, filter, Option, Some, None, flat_map}
use Rattle.std.specs.Ordering.{int_eq}
use Rattle.blot_types.specs.declared.{command.Entry.Entry, fill.Fill.Fill, keys.OrderKey.OrderKey, lines.OrderLine.OrderLine, part.Part.Part, lines.PositionLine.PositionLine, lines.Version.Version}
use Rattle.blot_types.specs.Allocations.{Allocation, live_allocations}
use Rattle.blot_types.specs.Order.{line_of, fills_of}
use Rattle.blot_types.specs.Position.{is_at, moves_of, part_of, position_by}
use Rattle.blot_types.specs.Survivors.{survivors}

-- whether a day is the one that is asked for, where one is
abbrev pub is_day : Option ℤ → ℤ → Bool
is_day None own = true
is_day (Some day) own = int_eq own day

-- whether a version is of a day: TradeDate(75), or else the date of its report
abbrev pub is_on : Option ℤ → Version → Bool
is_on day version = is_day day version.fill.day

-- the survivors of a day, in list order
abbrev pub survivors_on : List Entry → Option ℤ → List Version
survivors_on list day = filter (is_on day) (survivors list)

-- whether an allocation is of a day: its own TradeDate(75), whatever the days of its executions
abbrev pub is_allocated_on : Option ℤ → Allocation → Bool
is_allocated_on day allocation = is_day day allocation.terms.day

-- the live allocations of a day, in list order
abbrev pub allocations_on : List Entry → Option ℤ → List Allocation
allocations_on list day = filter (is_allocated_on day) (live_allocations list)

-- their fills
abbrev pub fills_on : List Entry → Option ℤ → List Fill
fills_on list day = map (λ version. version.fill) (survivors_on list day)

-- what they add to the positions, each in the house account where any live allocation of the list names its chain
abbrev pub survivor_parts_on : List Entry → Option ℤ → List Part
survivor_parts_on list day = map (part_of list) (survivors_on list day)

-- the line of an order on a day: that of the fills of the day's survivors; none without one
abbrev pub day_order_of : List Entry → Option ℤ → OrderKey → Option OrderLine
day_order_of list day order = line_of (fills_of (fills_on list day) order)

-- the parts of a day: those of its survivors, and those of the lines of its live allocations
abbrev pub day_parts_of : List Entry → Option ℤ → List Part
day_parts_of list day =
    survivor_parts_on list day ++ flat_map (λ allocation. moves_of allocation.terms) (allocations_on list day)

-- the position of an account in a symbol on a day; none without a part
abbrev pub day_position_of : List Entry → Option ℤ → List ℕ → List ℕ → Option PositionLine
day_position_of list day account symbol = position_by (filter (is_at account symbol) (day_parts_of list day))
