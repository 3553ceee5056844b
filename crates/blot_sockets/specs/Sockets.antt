-- What a connection tells of its stream, and a clock of its moments.
use Rattle.std.specs.Prelude.{◌≡◌, ◌/◌, ℕ, ℤ, List, Option, pos}
use Rattle.std.specs.Duration.{as_nanos}
use Rattle.std.specs.Io.KnownBytes.{Appends, Consumes, IsAtEnd, Keeps}
use Rattle.std.specs.declared.time.Duration.{Duration}
use Rattle.blot_gateway.specs.Wires.{Did}
use Rattle.blot_gateway.specs.Wires.Did.{Gave, Took, Refused}
use Rattle.blot_gateway.specs.Wires.Read.{Piece, Silence, AtEnd, Failed}
use Rattle.blot_sockets.specs.declared.{socket.Socket.Socket, system_clock.SystemClock.SystemClock}

-- as far as a stream's bytes are known: what it gave are the next ones, at its end there are none, and what it took is written; a
-- read that gave nothing, its end too, and a write that took nothing leave them
abbrev pub Conveys : {S : Type 0} → (S → Option (List ℕ)) → (S → Option (List ℕ)) → S → Did → S → Type 0
Conveys remaining contents before (Gave (Piece bytes)) after = Consumes (remaining before) (remaining after) bytes
Conveys remaining contents before (Gave Silence) after = Keeps (remaining before) (remaining after)
Conveys remaining contents before (Gave AtEnd) after = Keeps (remaining before) (remaining after) × IsAtEnd (remaining after)
Conveys remaining contents before (Gave Failed) after = Keeps (remaining before) (remaining after)
Conveys remaining contents before (Took bytes) after = Appends (contents before) (contents after) bytes
Conveys remaining contents before Refused after = Keeps (contents before) (contents after)

-- a connection does what its stream conveys
abbrev pub SocketDoes : {R S : Type 0} → (S → Option (List ℕ)) → (S → Option (List ℕ)) → Socket R S → Did → Socket R S → Type 0
SocketDoes remaining contents before did after = Conveys remaining contents before.stream did after.stream

-- a clock tells what is then its last moment
abbrev pub ClockTicks : {R : Type 0} → SystemClock R → ℤ → SystemClock R → Type 0
ClockTicks before moment after = after.last ≡ moment

-- how many whole milliseconds a time has
abbrev pub millis_in : Duration → ℤ
millis_in time = pos (as_nanos time / 1_000_000)
