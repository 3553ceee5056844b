-- Asks, and those that take memory.
use Rattle.std.specs.Prelude.{◌≡◌, Result, Ok, Err, IsOkAnd}
use Rattle.blot_types.specs.declared.{command.Command.Command, command.Command.TheVariants.AllocNew}
use Rattle.blot_desk.specs.declared.{event.Event.Event, event.Event.TheVariants.Submit}
use Rattle.blot_console.specs.declared.{ask.Ask.Ask, ask.Ask.TheVariants.Step, fault.Refusal.Refusal, fault.Wrong.Wrong}
use Rattle.blot_console.specs.declared.fault.Refusal.TheVariants as refusals

-- a command that brings an allocation
abbrev pub IsAllocNew : Command → Type 0
IsAllocNew (AllocNew new) = Unit {0}
IsAllocNew _ = ⊥

-- an event that submits one
abbrev pub SubmitsAllocNew : Event → Type 0
SubmitsAllocNew (Submit command) = IsAllocNew command
SubmitsAllocNew _ = ⊥

-- an ask for an allocation: its lists take memory
abbrev pub IsAllocate : Ask → Type 0
IsAllocate (Step event) = SubmitsAllocNew event
IsAllocate _ = ⊥

-- a result is what is meant, unless memory ran out for the lists of an allocation
abbrev pub Gives : Result Ask Refusal → Result Ask Wrong → Type 0
Gives (Ok ask) meant = meant ≡ Ok ask
Gives (Err (refusals.Wrong wrong)) meant = meant ≡ Err wrong
Gives (Err refusals.NoMemory) meant = IsOkAnd meant IsAllocate
