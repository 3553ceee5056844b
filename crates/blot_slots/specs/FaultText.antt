-- What a fault prints.
use Rattle.std.specs.Prelude.{List, ℕ, codes}
use Rattle.blot_slots.specs.declared.slot_fault.SlotFault.{SlotFault}
use Rattle.blot_slots.specs.declared.slot_fault.SlotFault.TheVariants.{UnknownPeer, AlreadyOn, RepeatedPeer, NoMemory}

-- the words for a fault
abbrev pub slot_fault_text : SlotFault → List ℕ
slot_fault_text UnknownPeer = codes "the peer isn't listed"
slot_fault_text AlreadyOn = codes "the peer is already on"
slot_fault_text RepeatedPeer = codes "a peer is listed twice"
slot_fault_text NoMemory = codes "out of memory"
