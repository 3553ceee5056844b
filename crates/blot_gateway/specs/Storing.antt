-- A wire before each of whose reads and writes a store is synced, and the messages that are put there before they are written.
use Rattle.std.specs.Prelude.{◌≡◌, ◌⊎◌, ℕ, ◌-◌, ◌==◌, Bool, true, false, List, length, take}
use Rattle.blot_gateway.specs.Wires.{Did, Read}
use Rattle.blot_gateway.specs.Wires.Did.{Gave, Took, Refused}
use Rattle.blot_gateway.specs.Wires.Read.{Failed}

-- what a store does: it keeps a message that is sent, or makes all durable that was taken
pub data Stored : Type 0 where
  Put : List ℕ → Stored
  Synced : Stored

-- a wire over a store: how many bytes are left of the message that it writes
pub record Storing (W S : Type 0) : Type 0 where
  pub wire : W
  pub store : S
  pub left : ℕ
  pub faults : ℕ

-- the store is made ready for a write: a text that isn't what is left of a message is a message of its own, which is put first; then all is synced
abbrev pub Readies : {S : Type 0} → (S → Stored → S → Type 0) → Bool → List ℕ → S → S → Type 0
Readies keeps true text before after = keeps before Synced after
Readies {S = S} keeps false text before after = (put : S) × keeps before (Put text) put × keeps put Synced after

-- the store is synced, and the wire is read
pub record ReadsSynced {W S : Type 0} (does : W → Did → W → Type 0) (keeps : S → Stored → S → Type 0) (before : Storing W S) (read : Read) (after : Storing W S) : Type 0 where
  pub synced : keeps before.store Synced after.store
  pub did : does before.wire (Gave read) after.wire
  pub left : after.left ≡ before.left

-- the store is ready, and the wire takes a front of this text
pub record WritesSynced {W S : Type 0} (does : W → Did → W → Type 0) (keeps : S → Stored → S → Type 0) (before : Storing W S) (taken : List ℕ) (after : Storing W S) : Type 0 where
  pub text : List ℕ
  pub count : ℕ
  pub front : taken ≡ take count text
  pub ready : Readies keeps (before.left == length text) text before.store after.store
  pub did : does before.wire (Took taken) after.wire
  pub left : after.left ≡ length text - count

-- a read or a write fails, and as much is left as before; of a wire that isn't asked, since the store fails, nothing changes
pub record Fails {W S : Type 0} (does : W → Did → W → Type 0) (did : Did) (before after : Storing W S) : Type 0 where
  pub wire : does before.wire did after.wire ⊎ (after.wire ≡ before.wire)
  pub left : after.left ≡ before.left

-- what such a wire does
abbrev pub StoringDoes : {W S : Type 0} → (W → Did → W → Type 0) → (S → Stored → S → Type 0) → Storing W S → Did → Storing W S → Type 0
StoringDoes does keeps before (Gave Failed) after = Fails does (Gave Failed) before after
StoringDoes does keeps before (Gave read) after = ReadsSynced does keeps before read after
StoringDoes does keeps before (Took taken) after = WritesSynced does keeps before taken after
StoringDoes does keeps before Refused after = Fails does Refused before after
