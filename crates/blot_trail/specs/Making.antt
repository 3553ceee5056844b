-- How a trail is made: message by message, with what a line needs of those before it.
use Rattle.std.specs.Prelude.{◌≡◌, ℕ, ◌+◌, ◌-◌, ◌<◌, ◌≤◌, Bool, true, false, ◌∷◌, ◌++◌, List, [], codes, fold, length, Option, Some, None}
use Rattle.blot_tag.specs.Places.{placed_of, passed_last}
use Rattle.blot_tag.specs.Reading.{Reading, FindsNone, TakesFirst}
use Rattle.blot_tag.specs.Walking.{rest_of, stops_at, walk_of}
use Rattle.blot_session.specs.declared.{action.Action.Action, met.Met.Met}
use Rattle.blot_desk.specs.Desk.{DeskState}
use Rattle.blot_capture.specs.declared.{became.Became.Became, handled.Handled.Handled}
use Rattle.blot_capture.specs.Handling.{became_by, wanted_of}
use Rattle.blot_capture.specs.Replay.{CameOn, Taking}
use Rattle.blot_capture.specs.Sessions.{Parts, taking_of}
use Rattle.blot_capture.specs.Trace.{Turn, taking_after, trace_over, turn_of}
use Rattle.blot_trail.specs.declared.word.Word.{Word}
use Rattle.blot_trail.specs.TrailText.{bytes_text, last_text, message_text, tail_text, word_of}

-- what is told of a message, except its place and where it begins; how long it is
pub record TrailLine : Type 0 where
  pub tail : List ℕ
  pub word : Word
  pub length_of : ℕ

-- what is told of a frame that became this, and whose session wants these actions done
abbrev pub line_for : List ℕ → Became → List Action → TrailLine
line_for text became actions = record { tail = tail_text text became actions; word = word_of became; length_of = length text }

abbrev pub line_of : Turn → TrailLine
line_of turn = line_for turn.placed.text turn.became turn.actions

-- a trail in the making: its lines, and what became of each message; where the last message ends; how many bytes are passed over
-- since then, and how many were before it
pub record Making : Type 0 where
  pub text : List ℕ
  pub words : List Word
  pub end : ℕ
  pub passed : ℕ
  pub skipped : ℕ

-- what is passed over before the last message is no more than all before its end
abbrev pub IsMaking : Making → Type 0
IsMaking trail = trail.skipped ≤ trail.end

-- no message
abbrev pub none_yet : Making
none_yet = record { text = []; words = []; end = 0; passed = 0; skipped = 0 }

-- where the first byte stands that is neither told nor passed over
abbrev pub offset_of : Making → ℕ
offset_of trail = trail.end + trail.passed

-- so many bytes are passed over
abbrev pub behind_bytes : ℕ → Making → Making
behind_bytes count trail = record trail { passed = trail.passed + count }

-- of the bytes that are passed over by now, so many in all, those that are yet to be told
abbrev pub untold : ℕ → Making → ℕ
untold all trail = all - (trail.skipped + trail.passed)

-- one more message
abbrev pub behind_line : TrailLine → Making → Making
behind_line line trail = record {
  text = trail.text ++ (bytes_text (codes "skipped") trail.end trail.passed
      ++ message_text (length trail.words + 1) (offset_of trail) line.tail);
  words = trail.words ++ line.word ∷ [];
  end = offset_of trail + line.length_of;
  passed = 0;
  skipped = trail.skipped + trail.passed;
}

-- the bytes that are passed over right before a message, and then the message
abbrev pub behind_turn : Making → Turn → Making
behind_turn trail turn = behind_line (line_of turn) (behind_bytes turn.placed.passed trail)

-- the whole text, with so many bytes of an unfinished rest
abbrev pub finished : Making → ℕ → List ℕ
finished trail rest = trail.text ++ last_text trail.words trail.end trail.passed (trail.skipped + trail.passed) rest

-- the whole text, where these bytes are still to come
abbrev pub trail_from : Making → Taking → List ℕ → List ℕ
trail_from trail taking bytes =
    finished (behind_bytes (passed_last bytes) (fold behind_turn trail (trace_over taking (placed_of bytes)))) (length (rest_of bytes))

-- ---- a capture that is partly told

-- this is told of a frame, of which its session made this
abbrev pub IsTurnOf : List ℕ → Option Met → Handled → TrailLine → Type 0
IsTurnOf text met handled line = line ≡ line_for text (became_by met handled) (wanted_of handled)

-- what is told of a frame that is taken next, wherever it stands
abbrev pub line_at : Taking → List ℕ → TrailLine
line_at taking text = line_of (turn_of taking (record { passed = 0; text = text }))

-- a frame is taken, and this is told of it
pub record TakesNoted (old : Reading) (from : Taking) (line : TrailLine) (new : Reading) (now : Taking) : Type 0 where
  pub frame : List ℕ
  pub taken : TakesFirst old frame new
  pub behind : now ≡ taking_after from frame
  pub told : line ≡ line_at from frame

-- there is no frame
pub record FindsNoFrame (old : Reading) (from : Taking) (new : Reading) (now : Taking) : Type 0 where
  pub none : FindsNone old new
  pub same : now ≡ from

-- a call took the frame of which this is told, or found none
abbrev pub Notes : Option TrailLine → Reading → Taking → Reading → Taking → Type 0
Notes None old from new now = FindsNoFrame old from new now
Notes (Some line) old from new now = TakesNoted old from line new now

-- so many bytes are told, and then a message, where there is one
abbrev pub behind_both : ℕ → Option TrailLine → Making → Making
behind_both passed None trail = behind_bytes passed trail
behind_both passed (Some line) trail = behind_line line (behind_bytes passed trail)

abbrev pub size_of : Option TrailLine → ℕ
size_of None = 0
size_of (Some line) = line.length_of

-- a trail has told all that a reader passed over
pub record IsInStep (reading : Reading) (trail : Making) : Type 0 where
  pub skipped : trail.skipped + trail.passed ≡ reading.skipped
  pub low : reading.skipped ≤ offset_of trail

-- a trail, and what it is the trail of so far
pub record Telling : Type 0 where
  pub trail : Making
  pub taking : Taking

-- a trail with the sessions and the desk, as they are
abbrev pub telling_of : Making → Parts → DeskState → Telling
telling_of trail parts desk = record { trail = trail; taking = taking_of parts desk }

-- the whole trail is the same: here with these bytes still to come, there with those
abbrev pub SameTrail : Telling → List ℕ → Telling → List ℕ → Type 0
SameTrail from bytes now left = trail_from from.trail from.taking bytes ≡ trail_from now.trail now.taking left

-- the same for the unread bytes of a reader, whatever comes after them
abbrev pub SameTrailOn : Telling → List ℕ → Telling → List ℕ → Type 0
SameTrailOn from unread now left = (more : List ℕ) → SameTrail from (unread ++ more) now (left ++ more)

-- a reader's next frame is taken and told, or there is none
pub record TellsNext (told : Bool) (old : Reading) (from : Telling) (new : Reading) (now : Telling) : Type 0 where
  pub step : IsInStep new now.trail
  pub read : offset_of now.trail + length new.unread ≡ offset_of from.trail + length old.unread
  pub fewer : told ≡ true → length new.unread < length old.unread
  pub drained : told ≡ false → walk_of new.unread ≡ stops_at new.unread
  pub same : SameTrailOn from old.unread now new.unread
  pub came : CameOn from.taking old.unread now.taking new.unread
