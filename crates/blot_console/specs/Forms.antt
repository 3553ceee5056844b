-- What a word says, by the form that its place asks for. Source: this project's rule.
use Rattle.std.specs.Prelude.{ℕ, ℤ, Bool, ◌&&◌, nat_le, List, length, codes, Option, Some, None, if◌then◌else◌}
use Rattle.std.specs.Result.{result_ok}
use Rattle.blot_decimal.specs.Meaning.{qty_of, price_of}
use Rattle.blot_decimal.specs.Text.{are_digits, number_of}
use Rattle.blot_time.specs.Day.{day_of}
use Rattle.blot_types.specs.declared.{fill.Sign.Sign, TheConstants.ITEMS_MAX}
use Rattle.blot_types.specs.declared.fill.Sign.TheVariants.{Buy, Sell}
use Rattle.blot_types.specs.Keys.{same_text}
use Rattle.blot_types.specs.Text.{is_text}
use Rattle.blot_console.specs.declared.{digits.TheConstants.DIGITS_MAX, forms.TheConstants.ROWS_MAX}

-- one or more digits
abbrev pub is_number : List ℕ → Bool
is_number word = nat_le 1 (length word) && are_digits word

-- the number of a step: one to nine digits, leading zeros accepted
unfoldable pub number_form : List ℕ → Option ℕ
number_form word = if is_number word && nat_le (length word) DIGITS_MAX then Some (number_of word) else None

-- how many executions follow: digits, leading zeros accepted, of a number from 1 to `ITEMS_MAX`
unfoldable pub count_form : List ℕ → Option ℕ
count_form word =
    if is_number word && nat_le 1 (number_of word) && nat_le (number_of word) ITEMS_MAX then Some (number_of word) else None

-- how many rows are asked for: digits, leading zeros accepted, of a number from 1 to `ROWS_MAX`
unfoldable pub rows_form : List ℕ → Option ℕ
rows_form word = if is_number word && nat_le 1 (number_of word) && nat_le (number_of word) ROWS_MAX then Some (number_of word) else None

-- 1 to 64 printable bytes
unfoldable pub text_form : List ℕ → Option (List ℕ)
text_form word = if is_text word then Some word else None

-- `B` buys, `S` sells
unfoldable pub sign_form : List ℕ → Option Sign
sign_form word =
    if same_text word (codes "B") then Some Buy
    else (if same_text word (codes "S") then Some Sell
    else None)

-- a day, by its number from 1970-01-01
unfoldable pub day_form : List ℕ → Option ℤ
day_form word = result_ok (day_of word)

-- a price, in units of 10^-8
unfoldable pub price_form : List ℕ → Option ℤ
price_form word = result_ok (price_of word)

-- a quantity, in units of 10^-6
unfoldable pub qty_form : List ℕ → Option ℕ
qty_form word = result_ok (qty_of word)
