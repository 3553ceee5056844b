-- What bears on a session's two numbers over the calls of a connection, and what it says of them. Source: this project's rule.
use Rattle.std.specs.Prelude.{◌≡◌, ◌<◌, ◌≤◌, ◌⊎◌, All, ℕ, ◌+◌, true, List, [], ◌∷◌, ◌++◌, map, Result, Ok, Err, if◌then◌else◌, Contains, flat_map, fold}
use Rattle.std.specs.List.{list_all}
use Rattle.std.proofs.Common.{inl, inr}
use Rattle.blot_session.specs.declared.{replies.NotTaken.NotTaken, replies.SeenReply.SeenReply, state.State.State}
use Rattle.blot_session.specs.Runs.{AreMet, Call, HasNoReset, Numbered, behind_calls, delivered_of, outcome}
use Rattle.blot_session.specs.Sending.{is_of_connection, numbers_sent}
use Rattle.blot_session.specs.States.{IsIdle}
use Rattle.blot_gateway.specs.declared.wire.Heard.{Heard}
use Rattle.blot_gateway.specs.Serving.{noticed_in}

-- what is kept: under this number the message of a command that was taken, both numbers, or under this number a message that is sent
pub data KeptNumber : Type 0 where
  Taken : ℕ → KeptNumber
  Numbers : ℕ → ℕ → KeptNumber
  Sent : ℕ → KeptNumber

-- ---- what it says of the two numbers

-- the number that is expected after it
abbrev pub expected_after : ℕ → KeptNumber → ℕ
expected_after expected (Taken number) = number + 1
expected_after expected (Numbers other next) = other
expected_after expected (Sent number) = expected

-- the next number to send after it
abbrev pub next_after : ℕ → KeptNumber → ℕ
next_after next (Taken number) = next
next_after next (Numbers expected other) = other
next_after next (Sent number) = number + 1

-- the same after several
abbrev pub expected_by : ℕ → List KeptNumber → ℕ
expected_by expected entries = fold expected_after expected entries

abbrev pub next_by : ℕ → List KeptNumber → ℕ
next_by next entries = fold next_after next entries

-- the number under which a message is sent
abbrev pub sent_number : KeptNumber → List ℕ
sent_number (Sent number) = number ∷ []
sent_number entry = []

-- the numbers under which messages are sent
abbrev pub sent_numbers : List KeptNumber → List ℕ
sent_numbers entries = flat_map sent_number entries

-- ---- what is kept over calls

-- of a command that was taken, and of a frame that made the numbers other than they were
abbrev pub kept_by : State → Result SeenReply NotTaken ⊎ (List ℕ × Heard) → List KeptNumber
kept_by state (inl (Ok reply)) = Taken state.expected ∷ []
kept_by state (inl (Err fault)) = []
kept_by state (inr (text, heard)) = if heard.is_renumbered then Numbers heard.expected heard.next ∷ [] else []

-- of a call: first of what passes between the session and the sink in it, and then of what it sends
abbrev pub kept_numbers_in : State → Call → List KeptNumber
kept_numbers_in state call = flat_map (kept_by state) (noticed_in state call) ++ map Sent (numbers_sent state call)

-- of some calls
abbrev pub kept_numbers_of : State → List Call → List KeptNumber
kept_numbers_of state [] = []
kept_numbers_of state (call ∷ calls) = kept_numbers_in state call ++ kept_numbers_of (outcome state call).state calls

-- ---- the law

-- each of these commands that was delivered under a number below this one is kept as taken
abbrev pub AreKept : List KeptNumber → ℕ → List Numbered → Type 0
AreKept entries expected delivered = All (λ it. it.number < expected → Contains entries (Taken it.number)) delivered

-- what is kept agrees with the session. In each beginning of it a command that was delivered under a number below the one that is expected by it is
-- kept as taken, and the next number is above each that was sent, and no lower than it was at first; and all of it gives the session's numbers
pub record KeepsNumbers (state : State) (calls : List Call) : Type 0 where
  pub taken : (front back : List KeptNumber) → kept_numbers_of state calls ≡ front ++ back
      → AreKept front (expected_by state.expected front) (delivered_of state calls)
  pub above : (front back : List KeptNumber) → kept_numbers_of state calls ≡ front ++ back → All (λ number. number < next_by state.next front) (sent_numbers front)
  pub low : (front back : List KeptNumber) → kept_numbers_of state calls ≡ front ++ back → state.next ≤ next_by state.next front
  pub expected : expected_by state.expected (kept_numbers_of state calls) ≡ (behind_calls state calls).expected
  pub next : next_by state.next (kept_numbers_of state calls) ≡ (behind_calls state calls).next

-- so it is over all calls of a connection, if none resets the numbers
abbrev pub KeepsAllNumbers : State → Type 0
KeepsAllNumbers state = (calls : List Call) → IsIdle state → AreMet state calls → HasNoReset calls → list_all is_of_connection calls ≡ true
    → KeepsNumbers state calls
