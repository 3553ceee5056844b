-- What is printed: the shortest text of a number of units of 10^-places. Source: this project's rule.
use Rattle.std.specs.Prelude.{◌≡◌, ◌≢◌, ℕ, zero, suc, ◌+◌, ◌-◌, ◌/◌, ◌%◌, ◌^◌, ◌<◌, ◌≤◌, ℤ, pos, negsuc, unsigned_abs, ◌==◌, if◌then◌else◌, List, [], ◌∷◌, ◌++◌, length, false, get_or, decimal}
use Rattle.std.specs.List.{list_any}
use Rattle.blot_decimal.specs.Text.{unsigned_of, is_point, whole_of, fraction_of}
use Rattle.blot_decimal.specs.Meaning.{IsValue}

-- the digits of a rest of fewer than 10^places units, as far as its last one that isn't 0
unfoldable pub fraction_digits : ℕ → ℕ → List ℕ
fraction_digits zero rest = []
fraction_digits (suc places) rest =
    if rest == 0 then [] else (48 + rest / 10 ^ places) ∷ fraction_digits places (rest % 10 ^ places)

-- a point and the digits after it, or nothing where there are none
abbrev pub behind_point : List ℕ → List ℕ
behind_point [] = []
behind_point (digit ∷ digits) = 46 ∷ digit ∷ digits

-- what is printed for a size in units of 10^-places
abbrev pub size_text : ℕ → ℕ → List ℕ
size_text places size =
    decimal (size / 10 ^ places) ++ behind_point (fraction_digits places (size % 10 ^ places))

-- a minus sign before a number below zero
abbrev pub sign_text : ℤ → List ℕ
sign_text (pos units) = []
sign_text (negsuc units) = 45 ∷ []

-- what is printed for a number of units of 10^-places
unfoldable pub printed : ℕ → ℤ → List ℕ
printed places units = sign_text units ++ size_text places (unsigned_abs units)

-- the last of some digits, which are at least one
abbrev pub last_of : List ℕ → ℕ
last_of digits = get_or digits (length digits - 1) 0

-- the shortest text of a number of units of 10^-places that has a digit before its point
pub record IsShortest (places : ℕ) (units : ℤ) (text : List ℕ) : Type 0 where
  -- it writes that number
  pub value : IsValue places text units
  -- at least one digit stands before the point
  pub whole : 0 < length (whole_of (unsigned_of text))
  -- the last digit after the point isn't 0
  pub last : fraction_of (unsigned_of text) ≢ [] → last_of (fraction_of (unsigned_of text)) ≢ 48
  -- a whole number has no point
  pub no_point : fraction_of (unsigned_of text) ≡ [] → list_any is_point text ≡ false
  -- no other text of that number with a digit before its point is shorter
  pub least : (other : List ℕ) → IsValue places other units → 0 < length (whole_of (unsigned_of other)) → length text ≤ length other
