-- What a round of connections does to the seats, and what rounds do.
use Rattle.std.specs.Prelude.{◌≡◌, ◌<◌, ℕ, zero, suc, List, map, Option, Some, None}
use Rattle.std.specs.declared.io.ErrorKind.{ErrorKind}
use Rattle.std.specs.declared.io.ErrorKind.TheVariants.{ConnectionAborted, Interrupted, OutOfMemory}
use Rattle.blot_desk.specs.declared.receipt.Receipt.{Receipt}
use Rattle.blot_gateway.specs.AtOnce.{EachServed}
use Rattle.blot_gateway.specs.declared.ended.Ended.{Ended}
use Rattle.blot_stream.specs.declared.outcome.ServeFault.{ServeFault}
use Rattle.blot_stream.specs.declared.outcome.ServeFault.TheVariants.{Connection, NoMemory}
use Rattle.blot_sockets.specs.Sockets.{ClockTicks, SocketDoes}
use Rattle.blot_sockets.specs.declared.{socket.Socket.Socket, system_clock.SystemClock.SystemClock}

-- a round is served: for each seat there is a connection and a clock, each connection was served at its clock until it ended, with its
-- seat as the sink, and those are the seats after the round
pub record ServesRound (R : Type 0) {S : Type 0} (remaining contents : S → Option (List ℕ)) (own : List ℕ) (before after : List (List Receipt)) : Type 0 where
  pub wires : List (Socket R S)
  pub clocks : List (SystemClock R)
  pub endings : List (Ended × List Receipt)
  pub served : EachServed (SocketDoes remaining contents) ClockTicks (λ socket. socket.faults) own wires clocks before endings
  pub seats : after ≡ map (λ ending. ending.1) endings

-- so many rounds, one after the other, lead from some seats to others
abbrev pub RoundsLead : (List (List Receipt) → List (List Receipt) → Type 0) → ℕ → List (List Receipt) → List (List Receipt) → Type 0
RoundsLead round zero before after = after ≡ before
RoundsLead round (suc count) before after = (between : List (List Receipt)) × RoundsLead round count before between × round between after

-- fewer rounds did
abbrev pub FewerLead : (List (List Receipt) → List (List Receipt) → Type 0) → ℕ → List (List Receipt) → List (List Receipt) → Type 0
FewerLead round rounds before after = (count : ℕ) × (count < rounds) × RoundsLead round count before after

-- the fault by which an error of `accept` ends the rounds: none where the connection is gone, or the call was interrupted
abbrev pub accept_fault : ErrorKind → Option ServeFault
accept_fault Interrupted = None
accept_fault ConnectionAborted = None
accept_fault OutOfMemory = Some NoMemory
accept_fault _ = Some Connection

-- the fault by which an error of setting up an accepted connection does: none but where memory ran out
abbrev pub setting_fault : ErrorKind → Option ServeFault
setting_fault OutOfMemory = Some NoMemory
setting_fault _ = None
