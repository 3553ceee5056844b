-- What a buffer holds, as the reader's callers see it.
use Rattle.std.specs.Prelude.{List, ℕ, ◌+◌, ◌≤◌, take, drop, length, unwrap_or, Option, option_map}
use Rattle.blot_tag.specs.Reading.{Reading, counted}
use Rattle.blot_tag.specs.declared.{buffer.Buffer.Buffer, buffer.Span.Span, find.Found.Found}

-- the unread bytes, and how many were passed over
abbrev pub reading_of : Buffer → Reading
reading_of buffer = record { unread = drop buffer.start buffer.bytes.items; skipped = buffer.skipped }

-- the bytes that stand at a place of the buffer
abbrev pub bytes_at : Buffer → Span → List ℕ
bytes_at buffer span = take span.length (drop span.start buffer.bytes.items)

-- the place lies within the buffer
abbrev pub IsWithin : Buffer → Span → Type 0
IsWithin buffer span = span.start + span.length ≤ length buffer.bytes.items

-- where the frame stands that was found among the unread bytes
abbrev pub span_of : Buffer → Found → Option Span
span_of buffer found = option_map (λ length. record { start = buffer.start + found.place; length = length }) found.length

-- what is left after the frame, or after what was passed over
abbrev pub behind_found : Reading → Found → Reading
behind_found reading found = record {
  unread = drop (found.place + unwrap_or found.length 0) reading.unread;
  skipped = counted reading.skipped found.place;
}
