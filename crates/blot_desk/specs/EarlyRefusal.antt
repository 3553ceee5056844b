-- Which commands are asked before they are copied.
use Rattle.std.specs.Prelude.{Bool, true, false}
use Rattle.blot_types.specs.declared.command.Command.{Command}
use Rattle.blot_types.specs.declared.command.Command.TheVariants.{Correct, Bust}

-- whether a command corrects or busts an execution
abbrev pub corrects_or_busts : Command → Bool
corrects_or_busts (Correct correct) = true
corrects_or_busts (Bust bust) = true
corrects_or_busts _ = false
