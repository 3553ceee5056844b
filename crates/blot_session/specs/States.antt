-- What a session remembers, and how that changes (FIX 4.4 volume 2, "Session protocol").
use Rattle.std.specs.Prelude.{◌≡◌, ℕ, ◌+◌, ◌≤◌, ◌==◌, Bool, true, false, ℤ, List, Option, Some, None, is_some, if◌then◌else◌}
use Rattle.blot_fields.specs.declared.TheConstants.{SEQUENCE_MAX}
use Rattle.blot_session.specs.declared.{state.State.State, state.LinkState.LinkState, state.Live.Live, state.Awaited.Awaited, state.Phase.Phase}
use Rattle.blot_session.specs.declared.state.LinkState.TheVariants as links
use Rattle.blot_session.specs.declared.state.Phase.TheVariants as phases

-- the phase
abbrev pub phase_by : LinkState → Phase
phase_by links.Waiting = phases.Waiting
phase_by (links.On live) = phases.On
phase_by links.Closed = phases.Closed

abbrev pub phase_of : State → Phase
phase_of state = phase_by state.link

-- a session with a peer that was heard of before: it waits for a Logon, and these are its numbers
abbrev pub resumed : List ℕ → List ℕ → ℕ → ℕ → State
resumed own peer expected next = record { own = own; peer = peer; expected = expected; next = next; link = links.Waiting }

-- a session with a peer that was never heard of
abbrev pub fresh : List ℕ → List ℕ → State
fresh own peer = resumed own peer 1 1

-- the session waits for a Logon again; both numbers stay
abbrev pub waiting_again : State → State
waiting_again state = record state { link = links.Waiting }

-- both numbers are 1 again
abbrev pub restarted : State → State
restarted state = record state { expected = 1; next = 1 }

-- another number is expected
abbrev pub expecting : ℕ → State → State
expecting number state = record state { expected = number }

-- the expected message came: the next one is expected
abbrev pub counted : State → State
counted state = expecting (state.expected + 1) state

-- a message with this number came: the next one is expected where it is the expected one
abbrev pub counted_under : ℕ → State → State
counted_under number state = if state.expected == number then counted state else state

-- a connection that is on
abbrev pub with_live : State → Live → State
with_live state live = record state { link = links.On live }

-- whether the session said goodbye on this connection
abbrev pub is_leaving_by : LinkState → Bool
is_leaving_by (links.On live) = live.leaving
is_leaving_by link = false

abbrev pub is_leaving : State → Bool
is_leaving state = is_leaving_by state.link

-- logged on: a frame just came, and a message is just sent. A session that was on and leaving stays so
abbrev pub opened : ℕ → ℤ → State → State
opened heartbeat now state =
    with_live state (record { heartbeat = heartbeat; received = now; sent = now; asked = None; awaited = None; leaving = is_leaving state })

-- a change of a connection that is on
abbrev pub changed : (Live → Live) → LinkState → LinkState
changed change (links.On live) = links.On (change live)
changed change link = link

-- a frame came, which ends the wait for a TestRequest's answer
abbrev pub heard : ℤ → State → State
heard now state = record state { link = changed (λ live. record live { received = now; asked = None }) state.link }

-- a TestRequest is sent
abbrev pub asking : ℤ → State → State
asking now state = record state { link = changed (λ live. record live { asked = Some now }) state.link }

-- a command is delivered, and awaits its reply
abbrev pub awaiting : Awaited → State → State
awaiting awaited state = record state { link = changed (λ live. record live { awaited = Some awaited }) state.link }

-- no command awaits its reply any more
abbrev pub answered : State → State
answered state = record state { link = changed (λ live. record live { awaited = None }) state.link }

-- a message is sent
abbrev pub spoken : ℤ → State → State
spoken now state = record state { link = changed (λ live. record live { sent = now }) state.link }

-- the session says goodbye, and waits for the peer's
abbrev pub leaving : State → State
leaving state = record state { link = changed (λ live. record live { leaving = true }) state.link }

-- the connection is closed; both numbers stay
abbrev pub closed : State → State
closed state = record state { link = links.Closed }

-- what was delivered and awaits its reply
abbrev pub awaited_by : LinkState → Option Awaited
awaited_by (links.On live) = live.awaited
awaited_by link = None

abbrev pub awaited_of : State → Option Awaited
awaited_of state = awaited_by state.link

-- no delivered command awaits its reply
abbrev pub IsIdle : State → Type 0
IsIdle state = awaited_of state ≡ None

-- a delivered command awaits its reply
abbrev pub IsAwaiting : State → Type 0
IsAwaiting state = is_some (awaited_of state) ≡ true

-- the numbers of a session: no number past the last of all is expected, and after the number that a delivered command
-- bore there is still one to expect
pub record IsState (state : State) : Type 0 where
  pub first : 1 ≤ state.expected
  pub expected : state.expected ≤ SEQUENCE_MAX + 1
  pub awaited : IsAwaiting state → state.expected ≤ SEQUENCE_MAX
  pub low : 1 ≤ state.next
  pub next : state.next ≤ SEQUENCE_MAX + 1
