-- The parts of a decimal text: an optional minus sign, the digits before its point and those after it.
-- Source: FIX 4.4 volume 1, data types Qty and Price (float): digits with an optional point and an
-- optional minus sign; leading and trailing zeros change nothing.
use Rattle.std.specs.Prelude.{ℕ, ◌+◌, ◌-◌, ◌*◌, Bool, false, ◌&&◌, ◌==◌, nat_lt, if◌then◌else◌, List, [], ◌∷◌, ◌++◌, length, fold, replicate}
use Rattle.std.specs.List.{before_first, after_first, list_all, list_any}
use Rattle.std.specs.Char.{is_ascii_digit}

-- whether the text begins with a minus sign
abbrev pub is_negative : List ℕ → Bool
is_negative [] = false
is_negative (byte ∷ rest) = byte == 45

-- the text after its minus sign, or all of it where there is none
abbrev pub unsigned_of : List ℕ → List ℕ
unsigned_of [] = []
unsigned_of (byte ∷ rest) = if byte == 45 then rest else byte ∷ rest

-- a point
abbrev pub is_point : ℕ → Bool
is_point byte = byte == 46

-- the part of an unsigned text before its point, or all of it where there is none
abbrev pub whole_of : List ℕ → List ℕ
whole_of size = before_first is_point size

-- the part of an unsigned text after its point, or nothing where there is none
abbrev pub fraction_of : List ℕ → List ℕ
fraction_of size = after_first is_point size

-- nothing but digits
abbrev pub are_digits : List ℕ → Bool
are_digits bytes = list_all is_ascii_digit bytes

-- nothing but zeros
abbrev pub are_zeros : List ℕ → Bool
are_zeros bytes = list_all (λ byte. byte == 48) bytes

-- digits before a point and after it, at least one of them
unfoldable pub are_parts : List ℕ → List ℕ → Bool
are_parts whole fraction =
    are_digits whole && are_digits fraction && nat_lt 0 (length whole + length fraction)

-- digits with at most one point, and at least one digit
abbrev pub is_size : List ℕ → Bool
is_size size = are_parts (whole_of size) (fraction_of size)

-- an optional minus sign, then digits with at most one point, and at least one digit
abbrev pub is_decimal : List ℕ → Bool
is_decimal text = is_size (unsigned_of text)

-- a number with one more digit after it
abbrev pub with_digit : ℕ → ℕ → ℕ
with_digit number byte = number * 10 + (byte - 48)

-- the number that digits write in base ten
abbrev pub number_of : List ℕ → ℕ
number_of digits = fold with_digit 0 digits

-- the text with so many zeros more in front of its digits
abbrev pub with_leading_zeros : ℕ → List ℕ → List ℕ
with_leading_zeros count [] = replicate count 48
with_leading_zeros count (byte ∷ rest) =
    if byte == 45 then 45 ∷ (replicate count 48 ++ rest) else replicate count 48 ++ byte ∷ rest

-- the text with so many zeros more after its last decimal, and a point before them where it has none
abbrev pub with_trailing_zeros : ℕ → List ℕ → List ℕ
with_trailing_zeros count text =
    text ++ (if list_any is_point text then replicate count 48 else 46 ∷ replicate count 48)
