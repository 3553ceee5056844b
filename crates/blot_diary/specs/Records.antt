-- The messages that a journal writes of its own, and what is kept of them. Source: this project's rule.
use Rattle.std.specs.Prelude.{ℕ, ℤ, false, List, [], ◌∷◌, codes, length, decimal}
use Rattle.blot_time.specs.Day.{day_text}
use Rattle.blot_time.specs.Moment.{moment_text}
use Rattle.blot_tag.specs.Fields.{field_of}
use Rattle.blot_tag.specs.Writing.{Written}
use Rattle.blot_diary.specs.declared.{kept.Content.Content, kept.Kept.Kept, numbers.SequenceNumbers.SequenceNumbers}
use Rattle.blot_diary.specs.Writing.{written}

-- the beginning of a journal of a day
abbrev pub beginning_message : List ℕ → ℤ → ℤ → Written
beginning_message own day now = written (codes "UD")
    (field_of 49 own ∷ field_of 56 own ∷ field_of 34 (codes "1") ∷ field_of 52 (moment_text now) ∷ field_of 75 (day_text day) ∷ [])

-- the two numbers of a peer's session
abbrev pub numbers_message : List ℕ → List ℕ → ℕ → ℤ → SequenceNumbers → Written
numbers_message own peer number now numbers = written (codes "UN")
    (field_of 49 own ∷ field_of 56 peer ∷ field_of 34 (decimal number) ∷ field_of 52 (moment_text now)
    ∷ field_of 789 (decimal numbers.expected) ∷ field_of 36 (decimal numbers.next) ∷ [])

-- an operator's line
abbrev pub asked_message : List ℕ → List ℕ → ℕ → ℤ → List ℕ → Written
asked_message own operator number now line = written (codes "UL")
    (field_of 49 own ∷ field_of 56 own ∷ field_of 50 operator ∷ field_of 34 (decimal number) ∷ field_of 52 (moment_text now) ∷ field_of 58 line ∷ [])

-- a message that a peer's session didn't take
abbrev pub wrapped_message : List ℕ → List ℕ → ℕ → ℤ → List ℕ → Written
wrapped_message own peer number now frame = written (codes "UR")
    (field_of 49 own ∷ field_of 56 peer ∷ field_of 34 (decimal number) ∷ field_of 52 (moment_text now)
    ∷ field_of 95 (decimal (length frame)) ∷ field_of 96 frame ∷ [])

-- what is kept of a frame that isn't sent again
abbrev pub keeps : List ℕ → List ℕ → ℕ → Content → Kept
keeps from to number content = record { from = from; to = to; number = number; dup = false; content = content }
