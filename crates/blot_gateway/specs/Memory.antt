-- The kinds that serve tests: a wire in memory, a clock that tells a list of moments, a sink that answers by a list.
use Rattle.std.specs.Prelude.{◌≡◌, ◌⊎◌, ℕ, ℤ, pos, List, [], ◌∷◌, ◌++◌, length, slice_get, unwrap_or, Result, Err}
use Rattle.blot_types.specs.declared.command.Command.{Command}
use Rattle.blot_desk.specs.declared.{event.Reply.Reply, fault.DeskFault.DeskFault}
use Rattle.blot_desk.specs.declared.fault.DeskFault.TheVariants.{Full, NoMemory}
use Rattle.blot_gateway.specs.Wires.{Did, Answered}
use Rattle.blot_gateway.specs.Wires.Did.{Gave, Took, Refused}
use Rattle.blot_gateway.specs.Wires.Read.{Piece, AtEnd}

-- the bytes that a wire has left to give, those that were written to it, and how many of its reads and writes failed
pub record InMemory : Type 0 where
  pub left : List ℕ
  pub written : List ℕ
  pub faults : ℕ

-- no bytes are given, and none are written
abbrev pub PassesNothing : InMemory → InMemory → Type 0
PassesNothing before after = (after.left ≡ before.left) × (after.written ≡ before.written)

-- it gives the bytes that are left, in their order, is at its end where none is, and keeps what it takes
abbrev pub MemoryDoes : InMemory → Did → InMemory → Type 0
MemoryDoes before (Gave (Piece bytes)) after = (before.left ≡ bytes ++ after.left) × (after.written ≡ before.written)
MemoryDoes before (Gave AtEnd) after = (before.left ≡ []) × PassesNothing before after
MemoryDoes before (Gave read) after = PassesNothing before after
MemoryDoes before (Took bytes) after = (after.left ≡ before.left) × (after.written ≡ before.written ++ bytes)
MemoryDoes before Refused after = PassesNothing before after

-- the first of the moments that are left is told, and the last stays; where there is none, the first moment of 1970 is told
abbrev pub ListTicks : List ℤ → ℤ → List ℤ → Type 0
ListTicks [] now after = (now ≡ pos 0) × (after ≡ [])
ListTicks (moment ∷ []) now after = (now ≡ moment) × (after ≡ moment ∷ [])
ListTicks (moment ∷ moments) now after = (now ≡ moment) × (after ≡ moments)

-- the commands that a sink was handed, and its answers from the first on
pub record Handed : Type 0 where
  pub taken : List Command
  pub answers : List (Result Reply DeskFault)

-- the answer to the next command
abbrev pub next_answer : Handed → Result Reply DeskFault
next_answer sink = unwrap_or (slice_get sink.answers (length sink.taken)) (Err Full)

-- a command is kept and gets the next answer, or there is no memory for it
abbrev pub ListTakes : Handed → Answered → Handed → Type 0
ListTakes before answered after =
    ((answered.answer ≡ next_answer before) × (after ≡ record before { taken = before.taken ++ (answered.command ∷ []) }))
    ⊎ ((answered.answer ≡ Err NoMemory) × (after ≡ before))
