-- A `&` to it says only where it lies.
use denote.Param.Send.{IsSync, part_keyless}
use Rattle.blot_journal.specs.contracts.ghost_calls.GhostCalls.{the_row}
use Rattle.blot_journal.proofs.ghost_calls.GhostCalls.TheSendSync.Send.{send}

pub sync : IsSync the_row
sync = record { shared = λ d b o κ q. part_keyless the_row send q d b o }
