-- The sums of the parts of a position, joined piece by piece, and how large they are.
use Rattle.std.specs.Prelude.{◌≡◌, ℕ, ◌*◌, ◌^◌, ◌≤◌, ℤ, pos, ◌+ℤ◌, List, [], ◌∷◌, filter, map, Option, Some, None, unsigned_abs, is_none, filter_map, flat_map, sum_by}
use Rattle.std.specs.Option.{option_map_or}
use Rattle.blot_types.specs.declared.{allocation.Instruction.Instruction, allocation.Line.Line, allocation.Terms.Terms, command.Entry.Entry, keys.AllocKey.AllocKey, part.Part.Part, lines.PositionLine.PositionLine}
use Rattle.blot_types.specs.Allocations.{Allocation, allocation_of}
use Rattle.blot_types.specs.Instructions.{ended_in}
use Rattle.blot_types.specs.Position.{is_at, moves_of, part_of, position_by}
use Rattle.blot_types.specs.Refusals.{booked}
use Rattle.blot_types.specs.Survivors.{survivors}

-- the sums of those parts that are of the position of an account in a symbol
abbrev pub sums_at : List ℕ → List ℕ → List Part → Option PositionLine
sums_at account symbol parts = position_by (filter (is_at account symbol) parts)

-- the sums of two lists of parts, where each has its own
abbrev pub joined : Option PositionLine → Option PositionLine → Option PositionLine
joined None second = second
joined (Some first) None = Some first
joined (Some first) (Some second) = Some (record { qty = first.qty +ℤ second.qty; value = first.value +ℤ second.value })

-- what the survivors of a list add to the positions
abbrev pub survivor_parts : List Entry → List Part
survivor_parts list = map (part_of list) (survivors list)

-- the moves of the lines of those allocations that no instruction ended
abbrev pub live_moves : List Instruction → List Allocation → List Part
live_moves instructions allocations =
    flat_map (λ allocation. moves_of allocation.terms) (filter (λ allocation. is_none (ended_in instructions allocation.key)) allocations)

-- those of the allocations that entries bring; and those of one allocation
abbrev pub moves_by : List Instruction → List Entry → List Part
moves_by instructions entries = live_moves instructions (filter_map (λ entry. allocation_of entry.command) entries)

abbrev pub moves_if_live : List Instruction → AllocKey → Terms → List Part
moves_if_live instructions key terms = live_moves instructions (record { key = key; terms = terms } ∷ [])

-- what lines book, in units
abbrev pub units_of : List Line → ℕ
units_of lines = sum_by (λ line. line.qty) lines

-- the lines of terms book what their block is
abbrev pub IsBalanced : Terms → Type 0
IsBalanced terms = booked terms.lines ≡ pos terms.block

-- amounts are those of at most some units of quantity, each at a price of at most 10^16 units
pub record IsUpTo (units : ℕ) (quantity amount : ℤ) : Type 0 where
  pub qty : unsigned_abs quantity ≤ units
  pub value : unsigned_abs amount ≤ units * 10 ^ 16

-- so are the sums of parts, 0 where there are none
abbrev pub AreUpTo : ℕ → Option PositionLine → Type 0
AreUpTo units sums = IsUpTo units (option_map_or (λ line. line.qty) sums (pos 0)) (option_map_or (λ line. line.value) sums (pos 0))
