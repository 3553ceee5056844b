-- What stands at the beginning of a text, step by step: a frame of some length, or why there is none.
use Rattle.std.specs.Prelude.{ℕ, ◌+◌, ◌-◌, ◌&&◌, ◌||◌, ◌==◌, nat_lt, nat_le, List, [], ◌∷◌, ◌++◌, length, take, drop, slice_index, codes, Result, Ok, Err, if◌then◌else◌}
use Rattle.std.specs.Char.{is_ascii_digit}
use Rattle.blot_tag.specs.Bytes.{is_soh, with_digit}
use Rattle.blot_tag.specs.Frames.{head, check_sum}
use Rattle.blot_tag.specs.Results.{◌>>=◌}
use Rattle.blot_tag.specs.declared.{look.Miss.Miss, look.TheConstants.SIZE_MIN, look.TheConstants.SIZE_MAX, look.TheConstants.DIGITS_MAX, bytes.TheConstants.CHECK_SUM_LENGTH}
use Rattle.blot_tag.specs.declared.look.Miss.TheVariants.{Partial, Neither}

-- the text after the bytes that are expected at its beginning
unfoldable pub behind : List ℕ → List ℕ → Result (List ℕ) Miss
behind [] text = Ok text
behind (byte ∷ expected) [] = Err Partial
behind (byte ∷ expected) (first ∷ text) = if byte == first then behind expected text else Err Neither

-- a number with one more digit of BodyLength, after `count` others: no more digits than six, and no more than 65,536
unfoldable pub longer_size : ℕ → ℕ → ℕ → Result ℕ Miss
longer_size count value byte =
    if is_ascii_digit byte && nat_lt count DIGITS_MAX && nat_le (with_digit value byte) SIZE_MAX then Ok (with_digit value byte) else Err Neither

-- the number that all digits of BodyLength write, and how many they are
unfoldable pub whole_size : ℕ → ℕ → Result (ℕ × ℕ) Miss
whole_size count value = if nat_le SIZE_MIN value then Ok (value, count) else Err Neither

-- the digits of BodyLength, where the text ends after `count` of them
unfoldable pub open_size : ℕ → ℕ → Miss
open_size count value = if nat_lt count DIGITS_MAX || nat_le SIZE_MIN value then Partial else Neither

-- the number that BodyLength's digits write and how many they are, where `count` digits of that value came before
unfoldable pub size_of : ℕ → ℕ → List ℕ → Result (ℕ × ℕ) Miss
size_of count value [] = Err (open_size count value)
size_of count value (byte ∷ rest) =
    if is_soh byte then whole_size count value
    else (do
      longer ← longer_size count value byte
      size_of (count + 1) longer rest)

-- CheckSum, after what it sums
unfoldable pub trailer_look : List ℕ → List ℕ → Result ℕ Miss
trailer_look front rest = do
  digits ← behind (codes "10=") rest
  more ← behind (check_sum front) digits
  Ok (length front + CHECK_SUM_LENGTH)

-- a body of this size that is all there, and CheckSum
abbrev pub whole_body_look : List ℕ → ℕ → List ℕ → Result ℕ Miss
whole_body_look before size rest =
    if is_soh (slice_index rest (size - 1)) then trailer_look (before ++ take size rest) (drop size rest) else Err Neither

-- a body of this size and CheckSum, after the first two fields
unfoldable pub body_look : List ℕ → ℕ → List ℕ → Result ℕ Miss
body_look before size rest = do
  kind ← behind (codes "35=") rest
  if nat_lt (length rest) size then Err Partial else whole_body_look before size rest

-- BodyLength and what follows
unfoldable pub length_look : List ℕ → Result ℕ Miss
length_look rest = do
  size ← size_of 0 0 rest
  body_look (head ++ take (size.1 + 1) rest) size.0 (drop (size.1 + 1) rest)

-- the frame that begins a text
unfoldable pub look_of : List ℕ → Result ℕ Miss
look_of text = do
  rest ← behind head text
  length_look rest
