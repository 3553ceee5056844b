-- The lines of an allocation in the making, with the sum of their quantities.
use Rattle.std.specs.Prelude.{◌≡◌, ℕ, ◌-◌, ◌^◌, min, List, Result, Ok, Err, IsOkAnd}
use Rattle.blot_types.specs.declared.allocation.Line.{Line}
use Rattle.blot_types.specs.ItemsBuilder.{HoldsItems}
use Rattle.blot_console.specs.declared.{allocate.Block.Block, fault.Wrong.Wrong}
use Rattle.blot_console.specs.Allocate.{block_of}

-- a sum as a machine keeps it: the largest number of 64 bits where the sum is larger
abbrev pub kept_sum : ℕ → ℕ
kept_sum sum = min sum (2 ^ 64 - 1)

-- the lines that are meant were made, as far as memory went, and their sum; or the fault that is meant came
abbrev pub MakesBlock : Result Block Wrong → Result (List Line) Wrong → Type 0
MakesBlock (Ok block) meant = IsOkAnd meant (λ lines. HoldsItems block.lines lines × (block.sum ≡ kept_sum (block_of lines)))
MakesBlock (Err wrong) meant = meant ≡ Err wrong
