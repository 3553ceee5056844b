-- An input that is read piece by piece.
use Rattle.std.proofs.Common.{◌≡◌, ℕ, ◌≤◌, List, ◌++◌, length, take, Option, Some, None, ◌∙◌, subst, sym, IfSome, take-take}
use Rattle.std.specs.Io.KnownBytes.{Consumes}
use Rattle.std.proofs.lemmas.List.{take-append-le}

-- the bytes that were read stand at the front of the buffer
pub front_of_buffer : (count len : ℕ) (read behind : List ℕ) → count ≤ length read → count ≤ len → take count (take len (read ++ behind)) ≡ take count read
front_of_buffer count len read behind within fits = take-take count len (read ++ behind) fits ∙ take-append-le count read behind within

-- what holds of the bytes that were read, whatever comes after them, holds of the input
pub IfSome-front : (known rest : Option (List ℕ)) (bytes : List ℕ) (P : List ℕ → Type 0)
    → Consumes known rest bytes → ((more : List ℕ) → P (bytes ++ more)) → IfSome known P
IfSome-front None rest bytes P consumes holds = tt
IfSome-front (Some all) None bytes P consumes holds = absurd consumes
IfSome-front (Some all) (Some more) bytes P consumes holds = subst P (sym consumes) (holds more)
