-- Why a command isn't taken as a step.
use Rattle.std.specs.Prelude.{◌≡◌, ◌⊎◌, Some, None}
use Rattle.blot_command.specs.Undoable.{Meaning}
use Rattle.blot_undo.specs.declared.fault.StepFault.{StepFault}
use Rattle.blot_undo.specs.declared.fault.StepFault.TheVariants.{Refused, NoMemory}

-- the command comes back, with the list's own reason; or the list accepts it, and memory ran out, for the command
-- itself or for its step
abbrev pub IsFault : {S L C I R : Type 0} → Meaning S L C I R → L → C → StepFault C S I R → Type 0
IsFault m list command (Refused returned reason) =
    (returned ≡ command) × (m.refused list command ≡ Some reason ⊎ ((m.refused list command ≡ None) × (reason ≡ m.no_memory)))
IsFault m list command (NoMemory returned) = (returned ≡ command) × (m.refused list command ≡ None)
