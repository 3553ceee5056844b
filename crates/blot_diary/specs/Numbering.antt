-- The two numbers of a peer, by the frames of a journal: 35=UN sets both, the peer's commands the expected one, and what the blotter
-- sends to it the next one.
use Rattle.std.specs.Prelude.{ℕ, ◌+◌, Bool, ◌&&◌, not, List, fold, if◌then◌else◌}
use Rattle.std.specs.Option.{option_map_or}
use Rattle.blot_tag.specs.Fields.{fields_of}
use Rattle.blot_tag.specs.Walking.{frames_of}
use Rattle.blot_types.specs.Keys.{same_text}
use Rattle.blot_diary.specs.declared.{kept.Content.Content, kept.Kept.Kept, numbers.SequenceNumbers.SequenceNumbers}
use Rattle.blot_diary.specs.declared.kept.Content.TheVariants as contents
use Rattle.blot_diary.specs.Keeping.{kept_in, kept_of}

-- those of a peer that was never heard of
abbrev pub first_numbers : SequenceNumbers
first_numbers = record { expected = 1; next = 1 }

-- the expected number: a UN to the peer sets it, and a command of the peer sets it to the number after its own
abbrev pub expected_by : List ℕ → ℕ → Kept → Content → ℕ
expected_by peer expected kept (contents.Numbers numbers) = if same_text kept.to peer then numbers.expected else expected
expected_by peer expected kept (contents.Command command) = if same_text kept.from peer then kept.number + 1 else expected
expected_by peer expected kept content = expected

abbrev pub expected_after : List ℕ → ℕ → Kept → ℕ
expected_after peer expected kept = expected_by peer expected kept kept.content

-- whether a frame is the blotter's to a peer, sent for the first time
abbrev pub is_sent : List ℕ → List ℕ → Kept → Bool
is_sent own peer kept = same_text kept.from own && same_text kept.to peer && not kept.dup

-- the number after that of a frame, if the blotter sent it to the peer for the first time
abbrev pub sent_after : List ℕ → List ℕ → ℕ → Kept → ℕ
sent_after own peer next kept = if is_sent own peer kept then kept.number + 1 else next

-- the next number: a UN to the peer sets it, and so does what the blotter sends to the peer, unless the frame is the journal's own
abbrev pub next_by : List ℕ → List ℕ → ℕ → Kept → Content → ℕ
next_by own peer next kept (contents.Numbers numbers) = if same_text kept.to peer then numbers.next else next
next_by own peer next kept (contents.Command command) = sent_after own peer next kept
next_by own peer next kept contents.Message = sent_after own peer next kept
next_by own peer next kept content = next

abbrev pub next_after : List ℕ → List ℕ → ℕ → Kept → ℕ
next_after own peer next kept = next_by own peer next kept kept.content

-- both after a frame
abbrev pub numbers_after : List ℕ → List ℕ → SequenceNumbers → Kept → SequenceNumbers
numbers_after own peer numbers kept = record { expected = expected_after peer numbers.expected kept; next = next_after own peer numbers.next kept }

-- both after a text that is one frame
abbrev pub numbers_behind : List ℕ → List ℕ → List ℕ → SequenceNumbers → SequenceNumbers
numbers_behind own peer text numbers = option_map_or (numbers_after own peer numbers) (kept_of (fields_of text)) numbers

-- the same of two numbers in a pair
abbrev pub pair_of : SequenceNumbers → ℕ × ℕ
pair_of numbers = (numbers.expected, numbers.next)

abbrev pub pair_behind : List ℕ → List ℕ → List ℕ → ℕ × ℕ → ℕ × ℕ
pair_behind own peer text pair = pair_of (numbers_behind own peer text (record { expected = pair.0; next = pair.1 }))

-- both after frames
abbrev pub numbers_in : List ℕ → List ℕ → List (List ℕ) → SequenceNumbers
numbers_in own peer frames = fold (numbers_after own peer) first_numbers (kept_in frames)

-- both after a text
abbrev pub numbers_of : List ℕ → List ℕ → List ℕ → SequenceNumbers
numbers_of own peer text = numbers_in own peer (frames_of text)
