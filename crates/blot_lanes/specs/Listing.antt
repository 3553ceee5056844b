-- The listed peers as a day begins with them.
use Rattle.std.specs.Prelude.{ℕ, List, map, Option, Some}
use Rattle.blot_session.specs.declared.state.State.{State}
use Rattle.blot_session.specs.States.{resumed}
use Rattle.blot_slots.specs.Slots.{Slots}
use Rattle.blot_desk.specs.declared.receipt.Receipt.{Receipt}

-- a peer, the receipts of its seat, and the two numbers of its session
pub record Listed : Type 0 where
  pub peer : List ℕ
  pub receipts : List Receipt
  pub expected : ℕ
  pub next : ℕ

-- who they are
abbrev pub peers_of : List Listed → List (List ℕ)
peers_of listed = map (λ it. it.peer) listed

-- the session of each waits for its Logon, with these numbers
abbrev pub resumed_slots : List ℕ → List Listed → List (List ℕ × Option State)
resumed_slots own listed = map (λ it. (it.peer, Some (resumed own it.peer it.expected it.next))) listed

abbrev pub all_resumed : List ℕ → List Listed → Slots
all_resumed own listed = record { own = own; slots = resumed_slots own listed }
