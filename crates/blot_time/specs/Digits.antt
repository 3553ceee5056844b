-- What digits say, and what a text of a fixed shape is.
use Rattle.std.specs.Prelude.{ℕ, zero, suc, ◌+◌, ◌-◌, ◌*◌, ◌/◌, ◌%◌, ◌==◌, ◌&&◌, Bool, if◌then◌else◌, List, [], ◌∷◌, ◌++◌, length, fold, zip}
use Rattle.std.specs.Char.{is_ascii_digit}
use Rattle.std.specs.List.{list_all}

-- in a shape each 0 stands for a digit, and every other byte for itself
abbrev pub stands_for : ℕ → ℕ → Bool
stands_for sign byte = if sign == 48 then is_ascii_digit byte else byte == sign

-- the text is as long as the shape, and has what each of its signs stands for
abbrev pub fits : List ℕ → List ℕ → Bool
fits shape text =
    length text == length shape && list_all (λ pair. stands_for pair.0 pair.1) (zip shape text)

-- a number with one more digit after it
abbrev pub with_digit : ℕ → ℕ → ℕ
with_digit n digit = n * 10 + (digit - 48)

-- the number that digits write
abbrev pub number : List ℕ → ℕ
number digits = fold with_digit 0 digits

-- the last `places` digits of a number
abbrev pub padded : ℕ → ℕ → List ℕ
padded zero n = []
padded (suc places) n = padded places (n / 10) ++ (48 + n % 10) ∷ []
