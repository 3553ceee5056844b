-- What a store at a desk does, and a wire over one.
use Rattle.std.specs.Prelude.{◌+◌, ◌-◌, ◌^◌, ⊤, ℕ, List, min}
use Rattle.blot_desk.specs.declared.event.Event.{Event}
use Rattle.blot_desk.specs.Keeping.{IsSynced}
use Rattle.blot_gateway.specs.Storing.{Stored, Storing, StoringDoes}
use Rattle.blot_gateway.specs.Storing.Stored.{Put, Synced}
use Rattle.blot_gateway.specs.Wires.{Did}

-- where events are kept, a message that is put counts itself, and a sync leaves nothing that isn't durable
abbrev pub StoresAt : {K : Type 0} → Type 0 → (List ℕ → Type 0) → (K → List Event) → (K → ℕ) → Stored → Type 0
StoresAt IsKept counts events durable (Put text) = IsKept → counts text
StoresAt IsKept counts events durable Synced = IsKept → IsSynced events durable

-- what a wire over a store at a desk does: each read and each write comes directly after a sync, and a message is put before it is written
abbrev pub KeepsAt :
    {W K : Type 0} → (W → Did → W → Type 0) → Type 0 → (List ℕ → Type 0) → (K → List Event) → (K → ℕ)
    → Storing W ⊤ → Did → Storing W ⊤ → Type 0
KeepsAt does IsKept counts events durable = StoringDoes does (λ before stored after. StoresAt IsKept counts events durable stored)

-- how many of its reads and writes failed, by those of its wire
abbrev pub kept_failures : {W : Type 0} → (W → ℕ) → Storing W ⊤ → ℕ
kept_failures failures stored = min (failures stored.wire + stored.faults) (2 ^ 64 - 1)

-- a wire over a store, as a connection begins with it
abbrev pub over_store : {W : Type 0} → W → Storing W ⊤
over_store wire = record { wire = wire; store = tt; left = 0; faults = 0 }
