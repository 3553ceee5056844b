-- The command that a frame brings by itself: its own sender's.
use Rattle.std.specs.Prelude.{ℕ, List, Option, None, Result, Ok, Err}
use Rattle.blot_tag.specs.Fields.{fields_of}
use Rattle.blot_types.specs.declared.command.Command.{Command}
use Rattle.blot_fields.specs.declared.{fault.FieldFault.FieldFault, message.Message.Message}
use Rattle.blot_fields.specs.Commands.{command_of}
use Rattle.blot_fields.specs.Decoding.{decoded}

-- the command that a message gives, where its sender is the peer; a message at fault gives none
abbrev pub brought_by : Result Message FieldFault → Option Command
brought_by (Ok message) = command_of message message.head.sender
brought_by (Err fault) = None

-- the command that a frame with this text brings
abbrev pub brought : List ℕ → Option Command
brought text = brought_by (decoded (fields_of text))
