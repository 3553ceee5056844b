-- The values that name a message (FIX 4.4 volume 1, MsgType; volume 4, ExecType).
use Rattle.std.specs.Prelude.{ℕ, List, [], ◌∷◌, codes, unwrap_or, Result, ok_or}
use Rattle.std.specs.Map.{lookup}
use Rattle.blot_types.specs.Keys.{same_text}
use Rattle.blot_fields.specs.declared.{fault.Flaw.Flaw, fault.Flaw.TheVariants.ValueIncorrect, kinds.AllocType.AllocType, kinds.Kind.Kind, kinds.ExecType.ExecType}
use Rattle.blot_fields.specs.declared.kinds.AllocType.TheVariants as allocs
use Rattle.blot_fields.specs.declared.kinds.Kind.TheVariants as kinds
use Rattle.blot_fields.specs.declared.kinds.ExecType.TheVariants as types

-- the message types that have a table
abbrev pub message_types : List (List ℕ × Kind)
message_types =
    (codes "A", kinds.Logon) ∷ (codes "0", kinds.Heartbeat) ∷ (codes "1", kinds.TestRequest)
    ∷ (codes "2", kinds.ResendRequest) ∷ (codes "3", kinds.Reject) ∷ (codes "4", kinds.SequenceReset)
    ∷ (codes "5", kinds.Logout) ∷ (codes "8", kinds.Report) ∷ (codes "J", kinds.Allocation) ∷ []

-- the message type that a value names
unfoldable pub kind_of : List ℕ → Kind
kind_of value = unwrap_or (lookup (same_text value) message_types) kinds.Other

-- the types of an Execution Report that have a table
abbrev pub exec_types : List (List ℕ × ExecType)
exec_types = (codes "F", types.Trade) ∷ (codes "G", types.Correct) ∷ (codes "H", types.Bust) ∷ []

-- the type that a value names
unfoldable pub exec_type_of : List ℕ → ExecType
exec_type_of value = unwrap_or (lookup (same_text value) exec_types) types.Other

-- the types of an Allocation Instruction (FIX 4.4 volume 5, AllocTransType; the first three)
abbrev pub alloc_types : List (List ℕ × AllocType)
alloc_types = (codes "0", allocs.New) ∷ (codes "1", allocs.Replace) ∷ (codes "2", allocs.Cancel) ∷ []

-- the type that a value names; there is no other
unfoldable pub alloc_type_form : List ℕ → Result AllocType Flaw
alloc_type_form value = ok_or (lookup (same_text value) alloc_types) ValueIncorrect
