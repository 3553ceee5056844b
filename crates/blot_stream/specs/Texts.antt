-- What is read of an input and added to an output.
use Rattle.std.specs.Prelude.{◌≡◌, ◌≢◌, ◌≤◌, ℕ, ◌++◌, List, length, take, Option, Some, None, IfSome, [], ◌∷◌, ◌==◌, if◌then◌else◌}
use Rattle.std.specs.Io.KnownBytes.{Appends, Consumes, IsAtEnd, Keeps}
use Rattle.std.specs.List.{onto_first}
use Rattle.blot_stream.specs.declared.{outcome.ReplayFault.ReplayFault, outcome.ReplayFault.TheVariants.Write}

-- a read gave so many bytes, which stand at the front of the buffer, or none, at the end of the input
abbrev pub Gives : Option (List ℕ) → Option (List ℕ) → List ℕ → Option ℕ → Type 0
Gives before after buffer None = Keeps before after × IsAtEnd after
Gives before after buffer (Some count) = Consumes before after (take count buffer) × (count ≤ length buffer)

-- a front of a text is added
abbrev pub AppendsFront : Option (List ℕ) → Option (List ℕ) → List ℕ → Type 0
AppendsFront before after text = (front back : List ℕ) × (front ++ back ≡ text) × Appends before after front

-- nothing is added, where it isn't a write that failed
abbrev pub KeepsUnlessWrite : Option (List ℕ) → Option (List ℕ) → ReplayFault → Type 0
KeepsUnlessWrite before after fault = fault ≢ Write → Keeps before after

-- the lines of a text, without their LF; a last one without LF counts, an empty one too where an LF ends it
abbrev pub lines_of : List ℕ → List (List ℕ)
lines_of [] = []
lines_of (byte ∷ text) = if byte == 10 then [] ∷ lines_of text else onto_first byte (lines_of text)

-- ---- what comes of an input, where its bytes are known

-- this is its text
abbrev pub IsTextOf : (List ℕ → List ℕ) → Option (List ℕ) → List ℕ → Type 0
IsTextOf text_by known text = IfSome known (λ bytes. text ≡ text_by bytes)

-- its text is added, or a front of it
abbrev pub AppendsOf : (List ℕ → List ℕ) → Option (List ℕ) → Option (List ℕ) → Option (List ℕ) → Type 0
AppendsOf text_by known before after = IfSome known (λ bytes. Appends before after (text_by bytes))

abbrev pub AppendsFrontOf : (List ℕ → List ℕ) → Option (List ℕ) → Option (List ℕ) → Option (List ℕ) → Type 0
AppendsFrontOf text_by known before after = IfSome known (λ bytes. AppendsFront before after (text_by bytes))
