-- How much the parts of a book's positions come to at most. Each bound follows from the most events of a day.
use Rattle.std.specs.Prelude.{ℕ, ◌+◌, ◌*◌, ◌^◌}
use Rattle.blot_types.specs.declared.{TheConstants.EVENTS_MAX, TheConstants.ITEMS_MAX}

-- the most parts: one of each fill, and two of each line of an allocation
abbrev pub BOOK_PARTS : ℕ
BOOK_PARTS = (EVENTS_MAX + 1) * (2 * ITEMS_MAX + 1)

-- the most units of quantity that the fills come to
abbrev pub BOOK_FILLED : ℕ
BOOK_FILLED = (EVENTS_MAX + 1) * 10 ^ 16

-- and the moves of the allocations' lines, whatever their sign: each unit leaves the house account and comes to another
abbrev pub BOOK_MOVED : ℕ
BOOK_MOVED = (EVENTS_MAX + 1) * (2 * 10 ^ 16)

-- and all parts
abbrev pub BOOK_QTY : ℕ
BOOK_QTY = BOOK_FILLED + BOOK_MOVED
