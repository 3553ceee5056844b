-- A session that is served until it ends, or the day does.
use Rattle.std.specs.Prelude.{◌≡◌, ◌≤◌, ◌⊎◌, ◌++◌, ℕ, ℤ, List, None, length}
use Rattle.blot_session.specs.declared.action.CloseReason.TheVariants as reasons
use Rattle.blot_session.specs.declared.state.State.{State}
use Rattle.blot_session.specs.Runs.Call.{Stop as StopCall}
use Rattle.blot_gateway.specs.declared.{ended.Ended.Ended, ended.Stop.Stop, ended.TheConstants.READS_MAX, parties.Parties.Parties, stopping.TheConstants.LAST_READS}
use Rattle.blot_gateway.specs.declared.ended.Ended.TheVariants as ended
use Rattle.blot_gateway.specs.Endings.{ended_by}
use Rattle.blot_gateway.specs.Sending.{Called, Halted}
use Rattle.blot_gateway.specs.Serving.{Due, EndsWithin, Runs, Served, due_behind, due_of, left_by}
use Rattle.blot_gateway.specs.Wires.{Did, Notice, Read}

-- the wire gave some reads, no more than this many, which led to calls that go on; of all that further reads would make due, nothing is done
pub record GoesOnFor {W C S : Type 0} (does : W → Did → W → Type 0) (ticks : C → ℤ → C → Type 0) (takes : S → Notice → S → Type 0)
    (most : ℕ) (before : Parties W C S) (due : List Read → List Due) (after : Parties W C S) (unread : List ℕ) : Type 0 where
  pub reads : List Read
  pub few : length reads ≤ most
  pub runs : (more : List Read) → Runs does ticks takes before (due (reads ++ more)) reads (due_behind unread more) after

-- the session is told that the day ends, and that stops it
pub record StopsTold {W C S : Type 0} (does : W → Did → W → Type 0) (ticks : C → ℤ → C → Type 0) (end : Ended) (before after : Parties W C S) : Type 0 where
  pub stop : Stop
  pub halted : Halted does ticks StopCall before.wire before.clock before.session after.wire after.clock after.session stop
  pub ends : end ≡ ended_by stop
  pub sink : after.sink ≡ before.sink

-- or it goes on, for two reads at most
pub record StopsLater {W C S : Type 0} (does : W → Did → W → Type 0) (ticks : C → ℤ → C → Type 0) (takes : S → Notice → S → Type 0) (end : Ended)
    (before : Parties W C S) (unread : List ℕ) (after : Parties W C S) : Type 0 where
  pub between : Parties W C S
  pub called : Called does ticks None StopCall before.wire before.clock before.session between.wire between.clock between.session
  pub sink : between.sink ≡ before.sink
  pub within : EndsWithin does ticks takes LAST_READS end between (due_behind unread) after

-- one of the two
abbrev pub ToldStop : {W C S : Type 0} → (W → Did → W → Type 0) → (C → ℤ → C → Type 0) → (S → Notice → S → Type 0)
    → Ended → Parties W C S → List ℕ → Parties W C S → Type 0
ToldStop does ticks takes end before unread after = StopsTold does ticks end before after ⊎ StopsLater does ticks takes end before unread after

-- what is still there after its last reads is logged out
abbrev pub goodbye : Ended → Ended
goodbye ended.TooLong = ended.Closed reasons.LoggedOut
goodbye end = end

-- the session is told that the day ends, and is closed in the end
pub record SaysGoodbye {W C S : Type 0} (does : W → Did → W → Type 0) (ticks : C → ℤ → C → Type 0) (takes : S → Notice → S → Type 0)
    (end : Ended) (before : Parties W C S) (unread : List ℕ) (after : Parties W C S) : Type 0 where
  pub last : State
  pub cause : Ended
  pub told : ToldStop does ticks takes cause before unread (record after { session = last })
  pub closed : after.session ≡ left_by cause last
  pub ends : end ≡ goodbye cause

-- a session is served up to the end of the day, and then says goodbye, of what the reader holds by then
pub record ServedToTheEnd {W C S : Type 0} (does : W → Did → W → Type 0) (ticks : C → ℤ → C → Type 0) (takes : S → Notice → S → Type 0)
    (end : Ended) (before : Parties W C S) (unread : List ℕ) (after : Parties W C S) : Type 0 where
  pub between : Parties W C S
  pub left : List ℕ
  pub goes_on : GoesOnFor does ticks takes READS_MAX before (due_of unread) between left
  pub said : SaysGoodbye does ticks takes end between left after

-- a session is served until it ends, as without an end of the day, or until the day ends, where that may come
abbrev pub ServedUntil : {W C S : Type 0} → (W → Did → W → Type 0) → (C → ℤ → C → Type 0) → (S → Notice → S → Type 0) → Type 0
    → Ended → Parties W C S → List ℕ → Parties W C S → Type 0
ServedUntil does ticks takes may_end end before unread after =
    Served does ticks takes READS_MAX end before unread after ⊎ (may_end × ServedToTheEnd does ticks takes end before unread after)
