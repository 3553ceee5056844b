-- A reader as its callers see it.
use Rattle.std.specs.Prelude.{◌≡◌, ℕ, ◌+◌, ◌-◌, ◌^◌, ◌<◌, List, ◌++◌, length, drop, min, Option, None, Some, Result, Ok, Err, option_map}
use Rattle.std.specs.declared.alloc.AllocError.{AllocError}
use Rattle.blot_tag.specs.declared.frame.Frame.{Frame}
use Rattle.blot_tag.specs.Views.{text_of}
use Rattle.blot_tag.specs.Frames.{IsFrame, IsFramePrefix, IsGarbled}
use Rattle.blot_tag.specs.Walking.{walk_of, takes, passes_by, stops_at}

-- the bytes that no call has taken or passed over yet, and how many were passed over, up to 2^64 - 1
pub record Reading : Type 0 where
  pub unread : List ℕ
  pub skipped : ℕ

-- a piece comes at the end of the unread bytes
abbrev pub fed : Reading → List ℕ → Reading
fed reading piece = record reading { unread = reading.unread ++ piece }

-- the count of bytes passed over, with some more of them
abbrev pub counted : ℕ → ℕ → ℕ
counted skipped bytes = min (skipped + bytes) (2 ^ 64 - 1)

-- nothing can be taken or waited for before place n
abbrev pub GarbledBefore : ℕ → List ℕ → Type 0
GarbledBefore n text = (place : ℕ) → place < n → IsGarbled (drop place text)

-- the first frame is taken, from the earliest place where one begins
pub record TakesFirst (old : Reading) (frame : List ℕ) (new : Reading) : Type 0 where
  pub passed : ℕ
  pub early : GarbledBefore passed old.unread
  pub valid : IsFrame frame
  pub bytes : drop passed old.unread ≡ frame ++ new.unread
  pub shorter : length new.unread < length old.unread
  pub walk : walk_of old.unread ≡ passes_by passed (takes frame (walk_of new.unread))
  pub skipped : new.skipped ≡ counted old.skipped passed

-- there is no frame: a proper prefix of one, up to the text's end, stays unread
pub record FindsNone (old new : Reading) : Type 0 where
  pub passed : ℕ
  pub early : GarbledBefore passed old.unread
  pub prefix : IsFramePrefix new.unread
  pub bytes : drop passed old.unread ≡ new.unread
  pub walk : walk_of old.unread ≡ passes_by passed (stops_at new.unread)
  pub skipped : new.skipped ≡ counted old.skipped passed

-- a step that took a frame, or found none
abbrev pub Advances : Reading → Option (List ℕ) → Reading → Type 0
Advances old (Some frame) new = TakesFirst old frame new
Advances old None new = FindsNone old new

-- what a call of `next` leaves
abbrev pub Leaves : Reading → Result (Option Frame) AllocError → Reading → Type 0
Leaves old (Ok frame) new = Advances old (option_map text_of frame) new
Leaves old (Err fault) new = new ≡ old
