-- A command on the heap.
use Rattle.std.specs.Prelude.{◌≡◌, None}
use Rattle.blot_types.specs.declared.{command.Command.Command, command.Command.TheVariants.Withdraw}
use Rattle.blot_types.specs.Refusals.{withdrawn_by}
use Rattle.blot_command.specs.declared.boxed_command.Effect.{Effect}
use Rattle.blot_command.specs.declared.boxed_command.Effect.TheVariants.{Enters, Withdraws}

-- the command that has this effect
abbrev pub command_in : Effect → Command
command_in (Enters entry) = entry.command
command_in (Withdraws number) = Withdraw number

-- what enters is no Withdraw
abbrev pub IsEffect : Effect → Type 0
IsEffect (Enters entry) = withdrawn_by entry.command ≡ None
IsEffect (Withdraws number) = Unit {0}
