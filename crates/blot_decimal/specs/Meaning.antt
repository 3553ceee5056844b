-- What a decimal text means: the exact number that it writes, and the same as a function.
use Rattle.std.specs.Prelude.{◌≡◌, ℕ, zero, suc, ◌^◌, ℤ, pos, negsuc, ◌*ℤ◌, neg_ℤ, unsigned_abs, Bool, true, false, not, nat_lt, if◌then◌else◌, IsTrue, List, [], ◌∷◌, ◌++◌, length, drop, Option, Some, None, Result, Ok, Err, ok_or}
use Rattle.blot_decimal.specs.Text.{is_negative, unsigned_of, whole_of, fraction_of, is_size, is_decimal, are_zeros, number_of}
use Rattle.blot_decimal.specs.declared.{fault.DecimalFault.DecimalFault, reading.TheConstants.SIZE_LIMIT}
use Rattle.blot_decimal.specs.declared.fault.DecimalFault.TheVariants.{Format, TooFine, TooLarge}
use Rattle.blot_decimal.specs.declared.price.TheConstants.Price as price
use Rattle.blot_decimal.specs.declared.qty.TheConstants.Qty as qty

-- a size with its sign
abbrev pub signed : Bool → ℕ → ℤ
signed true size = neg_ℤ (pos size)
signed false size = pos size

-- all digits of a text as one whole number with its sign, its point left out: -125 for `-1.25`
abbrev pub digits_of : List ℕ → ℤ
digits_of text =
    signed (is_negative text) (number_of (whole_of (unsigned_of text) ++ fraction_of (unsigned_of text)))

-- the text is a decimal, and so many units of 10^-places are exactly what it writes:
-- units / 10^places is its digits / 10^(number of digits after its point)
pub record IsValue (places : ℕ) (text : List ℕ) (units : ℤ) : Type 0 where
  pub decimal : IsTrue (is_decimal text)
  pub value : units *ℤ pos (10 ^ length (fraction_of (unsigned_of text))) ≡ digits_of text *ℤ pos (10 ^ places)

-- the first `places` digits of a fraction, with zeros where it has fewer
abbrev pub kept_of : ℕ → List ℕ → List ℕ
kept_of zero fraction = []
kept_of (suc places) [] = 48 ∷ kept_of places []
kept_of (suc places) (digit ∷ fraction) = digit ∷ kept_of places fraction

-- how many units of 10^-places an unsigned text writes, or its first fault
unfoldable pub size_of : ℕ → List ℕ → Result ℕ DecimalFault
size_of places size =
    if not (is_size size) then Err Format
    else (if not (are_zeros (drop places (fraction_of size))) then Err TooFine
    else Ok (number_of (whole_of size ++ kept_of places (fraction_of size))))

-- a size below 10^16, or its fault: `TooLarge` from there on
abbrev pub limited : Result ℕ DecimalFault → Result ℕ DecimalFault
limited (Ok units) = if nat_lt units SIZE_LIMIT then Ok units else Err TooLarge
limited (Err fault) = Err fault

-- a size with its sign, or its fault
abbrev pub with_sign : Bool → Result ℕ DecimalFault → Result ℤ DecimalFault
with_sign negative (Ok size) = Ok (signed negative size)
with_sign negative (Err fault) = Err fault

-- how many units of 10^-places a text writes, or its first fault
abbrev pub exact_of : ℕ → List ℕ → Result ℤ DecimalFault
exact_of places text = with_sign (is_negative text) (size_of places (unsigned_of text))

-- the units of a quantity: none below zero, and none from 10^16 on
abbrev pub qty_units : ℤ → Option ℕ
qty_units (pos units) = if nat_lt units SIZE_LIMIT then Some units else None
qty_units (negsuc units) = None

-- the units of a price: none from 10^16 in size on
abbrev pub price_units : ℤ → Option ℤ
price_units units = if nat_lt (unsigned_abs units) SIZE_LIMIT then Some units else None

-- a number that its kind has, or `TooLarge`
abbrev pub within : {A : Type 0} → (ℤ → Option A) → Result ℤ DecimalFault → Result A DecimalFault
within kind (Ok units) = ok_or (kind units) TooLarge
within kind (Err fault) = Err fault

-- the quantity that a text writes, in units of 10^-6, or its first fault
unfoldable pub qty_of : List ℕ → Result ℕ DecimalFault
qty_of text = within qty_units (exact_of qty.PLACES text)

-- the price that a text writes, in units of 10^-8, or its first fault
unfoldable pub price_of : List ℕ → Result ℤ DecimalFault
price_of text = within price_units (exact_of price.PLACES text)
