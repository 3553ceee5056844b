-- What a diary keeps, and what a crash leaves of it.
use Rattle.std.specs.Prelude.{◌≡◌, ℕ, ◌≤◌, Bool, List, ◌++◌, map, Option, option_map, if◌then◌else◌}
use Rattle.blot_tag.specs.Joined.{IsWhole}
use Rattle.blot_desk.specs.declared.event.Event.{Event}
use Rattle.blot_journal.specs.File.{Stands, text_of}
use Rattle.blot_journal.specs.Journal.{Open, text_in_journal}
use Rattle.blot_diary.specs.Events.{events_of, noted_in}

-- the events of a text, without who brought them
abbrev pub desk_events : List ℕ → List Event
desk_events text = map (λ noted. noted.event) (events_of text)

-- the event of a text that is one frame, if it brings one
abbrev pub event_in : List ℕ → Option Event
event_in frame = option_map (λ noted. noted.event) (noted_in frame)

-- what a contract sees of a diary: its file; its whole text, what of it is durable, and what it was opened with; when that was; whether it couldn't
-- be written; and for how many bytes it has room
pub record Diarized (D : Type 0) : Type 0 where
  pub device : D
  pub text : List ℕ
  pub durable : List ℕ
  pub found : List ℕ
  pub since : ℕ
  pub is_broken : Bool
  pub room : ℕ

-- a journal as it was opened, as it was before the last sync, and as it is; after a sync that failed nobody can tell its text, and it is what it was before
abbrev pub diary_of : {D : Type 0} → (D → List ℕ) → (D → ℕ) → Open D → Open D → Open D → Diarized D
diary_of seen moment journal opened last = record {
  device = journal.device;
  text = if journal.is_broken then text_in_journal seen last ++ last.waiting else text_in_journal seen journal ++ journal.waiting;
  durable = if journal.is_broken then text_in_journal seen last else text_in_journal seen journal;
  found = text_in_journal seen opened;
  since = moment opened.device;
  is_broken = journal.is_broken;
  room = if journal.is_broken then 0 else journal.room;
}

-- a text is whole frames, and another begins with it
pub record Begins (text more : List ℕ) : Type 0 where
  pub whole : IsWhole text
  pub behind : List ℕ
  pub is : more ≡ text ++ behind

-- a file stands for a beginning of a text, with no less than this
pub record Keeps (least text file : List ℕ) : Type 0 where
  pub part : List ℕ
  pub enough : Begins least part
  pub within : Begins part text
  pub stands : Stands part file

-- what a crash may leave of the events
pub record Leaves (outcomes : List ℕ → Type 0) (events : List Event) : Type 0 where
  pub file : List ℕ
  pub outcome : outcomes file
  pub spelled : events ≡ desk_events (text_of file)

-- what holds of a diary between its calls: its text is whole frames, and a crash leaves a beginning of it; now with all that is durable, and at each
-- moment since it was opened with all that was found
pub record IsDiary {D : Type 0} (may_leave : D → List ℕ → Type 0) (left_since : D → ℕ → List ℕ → Type 0) (moment : D → ℕ) (diary : Diarized D) : Type 0 where
  pub whole : IsWhole diary.text
  pub durable : Begins diary.durable diary.text
  pub found : Begins diary.found diary.durable
  pub began : diary.since ≤ moment diary.device
  pub now : (file : List ℕ) → may_leave diary.device file → Keeps diary.durable diary.text file
  pub ever : (file : List ℕ) → left_since diary.device diary.since file → Keeps diary.found diary.text file
