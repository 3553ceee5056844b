-- The bytes that FIX 4.4 gives a meaning, and the numbers that digits write (volume 1, "tag=value" syntax).
use Rattle.std.specs.Prelude.{◌≡◌, ℕ, ◌<◌, ◌+◌, ◌*◌, ◌-◌, Bool, ◌&&◌, ◌==◌, not, nat_le, List, length, fold, Option, Some, None, if◌then◌else◌, slice_index, MatchOption}
use Rattle.std.specs.Char.{is_ascii_digit}
use Rattle.std.specs.List.{list_all, position_or_len}
use Rattle.blot_tag.specs.declared.digits.TheConstants.{TAG_DIGITS_MAX}

-- the byte that ends each field
abbrev pub soh : ℕ
soh = 1

-- whether a byte is SOH
abbrev pub is_soh : ℕ → Bool
is_soh byte = byte == soh

-- the text is empty, or its last byte is SOH
abbrev pub EndsWithSoh : List ℕ → Type 0
EndsWithSoh text = 0 < length text → slice_index text (length text - 1) ≡ soh

-- `b'='`, which stands between a tag and its value
abbrev pub equals : ℕ
equals = 61

-- whether a byte is `=`
abbrev pub is_equals : ℕ → Bool
is_equals byte = byte == equals

-- one or more decimal digits
abbrev pub is_number : List ℕ → Bool
is_number digits = nat_le 1 (length digits) && list_all is_ascii_digit digits

-- a number with one more digit after it; the digit is given as a byte
abbrev pub with_digit : ℕ → ℕ → ℕ
with_digit number digit = number * 10 + (digit - 48)

-- the number that the digits write
abbrev pub number_of : List ℕ → ℕ
number_of digits = fold with_digit 0 digits

-- one to nine decimal digits, the first not `0` (this project's rule)
abbrev pub is_tag : List ℕ → Bool
is_tag digits = is_number digits && nat_le (length digits) TAG_DIGITS_MAX && not (slice_index digits 0 == 48)

-- the tag that these bytes write, if they write one
unfoldable pub tag_number : List ℕ → Option ℕ
tag_number digits = if is_tag digits then Some (number_of digits) else None

-- the first place at which the byte stands in the text
abbrev pub IsFirstPlace : ℕ → List ℕ → Option ℕ → Type 0
IsFirstPlace byte text result =
    let place = position_or_len (λ x. x == byte) text in
    MatchOption result (place ≡ length text) (λ i. (place ≡ i) × (i < length text))
