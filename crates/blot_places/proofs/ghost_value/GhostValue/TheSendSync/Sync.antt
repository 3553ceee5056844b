-- A `&` to it says only where it lies.
use denote.RattleType.{RattleType}
use denote.Param.Send.{IsSend, IsSync, part_keyless}
use Rattle.blot_places.specs.contracts.ghost_value.GhostValue.{the_row}
use Rattle.blot_places.proofs.ghost_value.GhostValue.TheSendSync.Send.{send}

pub sync : (T : RattleType) → IsSend T → IsSync T → IsSync (the_row T)
sync T t y = record { shared = λ d b o κ q. part_keyless (the_row T) (send T t) q d b o }
