-- What a value says, by the form that its row asks for, or what is wrong with it (FIX 4.4 volume 1, data types; limits are this project's rule).
use Rattle.std.specs.Prelude.{ℕ, ℤ, Bool, true, false, ◌&&◌, ◌||◌, ◌==◌, nat_le, List, codes, Result, Ok, Err, if◌then◌else◌}
use Rattle.blot_decimal.specs.Meaning.{qty_of, price_of}
use Rattle.blot_decimal.specs.declared.fault.DecimalFault.{DecimalFault}
use Rattle.blot_decimal.specs.declared.fault.DecimalFault.TheVariants as decimals
use Rattle.blot_time.specs.Day.{day_of}
use Rattle.blot_time.specs.Moment.{moment_of}
use Rattle.blot_time.specs.declared.fault.TimeFault.{TimeFault}
use Rattle.blot_time.specs.declared.fault.TimeFault.TheVariants as times
use Rattle.blot_tag.specs.Bytes.{is_number, number_of}
use Rattle.blot_tag.specs.Results.{◌>>=◌}
use Rattle.blot_types.specs.Keys.{same_text}
use Rattle.blot_types.specs.Text.{is_text}
use Rattle.blot_types.specs.declared.fill.Sign.{Sign}
use Rattle.blot_types.specs.declared.fill.Sign.TheVariants.{Buy, Sell}
use Rattle.blot_fields.specs.declared.{fault.Flaw.Flaw, admin.TheConstants.HEARTBEAT_MAX, allocation.TheConstants.ENTRIES_MAX, TheConstants.SEQUENCE_MAX}
use Rattle.blot_fields.specs.declared.fault.Flaw.TheVariants.{ValueIncorrect, IncorrectDataFormat}

-- 1 to 64 printable bytes
unfoldable pub text_form : List ℕ → Result (List ℕ) Flaw
text_form value = if is_text value then Ok value else Err ValueIncorrect

-- a number in its range
abbrev pub within : ℕ → ℕ → ℕ → Result ℕ Flaw
within low high number = if nat_le low number && nat_le number high then Ok number else Err ValueIncorrect

-- digits, leading zeros accepted, of a number in a range
unfoldable pub number_form : ℕ → ℕ → List ℕ → Result ℕ Flaw
number_form low high value =
    if is_number value then within low high (number_of value) else Err IncorrectDataFormat

-- a sequence number
abbrev pub sequence_form : List ℕ → Result ℕ Flaw
sequence_form value = number_form 1 SEQUENCE_MAX value

-- the last number of a range of messages, of which 0 stands for the last of all
abbrev pub end_form : List ℕ → Result ℕ Flaw
end_form value = number_form 0 SEQUENCE_MAX value

-- seconds between heartbeats, up to a day
abbrev pub seconds_form : List ℕ → Result ℕ Flaw
seconds_form value = number_form 0 HEARTBEAT_MAX value

-- how many entries a group has
abbrev pub count_form : List ℕ → Result ℕ Flaw
count_form value = number_form 1 ENTRIES_MAX value

-- `Y` or `N`
unfoldable pub flag_form : List ℕ → Result Bool Flaw
flag_form value =
    if same_text value (codes "Y") then Ok true
    else (if same_text value (codes "N") then Ok false
    else Err ValueIncorrect)

-- `0` alone
unfoldable pub zero_form : List ℕ → Result ℕ Flaw
zero_form value = if same_text value (codes "0") then Ok 0 else Err ValueIncorrect

-- any value
unfoldable pub any_form : List ℕ → Result (List ℕ) Flaw
any_form value = Ok value

-- a decimal's fault as the field's
abbrev pub decimal_reason : DecimalFault → Flaw
decimal_reason decimals.Format = IncorrectDataFormat
decimal_reason decimals.TooFine = ValueIncorrect
decimal_reason decimals.TooLarge = ValueIncorrect

-- a decimal that was read, or its fault as the field's
abbrev pub decimal_read : {A : Type 0} → Result A DecimalFault → Result A Flaw
decimal_read (Ok number) = Ok number
decimal_read (Err fault) = Err (decimal_reason fault)

-- a quantity, in units of 10^-6
unfoldable pub qty_form : List ℕ → Result ℕ Flaw
qty_form value = decimal_read (qty_of value)

-- a quantity above 0
unfoldable pub positive_form : List ℕ → Result ℕ Flaw
positive_form value = do
  qty ← qty_form value
  if qty == 0 then Err ValueIncorrect else Ok qty

-- a price, in units of 10^-8
unfoldable pub price_form : List ℕ → Result ℤ Flaw
price_form value = decimal_read (price_of value)

-- a fault of a time as the field's
abbrev pub time_reason : TimeFault → Flaw
time_reason times.Format = IncorrectDataFormat
time_reason times.NoSuchDate = ValueIncorrect

-- a time that was read, or its fault as the field's
abbrev pub time_read : {A : Type 0} → Result A TimeFault → Result A Flaw
time_read (Ok time) = Ok time
time_read (Err fault) = Err (time_reason fault)

-- a moment in UTC, in milliseconds since 1970
unfoldable pub moment_form : List ℕ → Result ℤ Flaw
moment_form value = time_read (moment_of value)

-- a day, by its number from 1970-01-01
unfoldable pub day_form : List ℕ → Result ℤ Flaw
day_form value = time_read (day_of value)

-- sides 1 and 3 buy, 2, 4, 5 and 6 sell (FIX 4.4 volume 4, Side; the grouping is this project's rule)
unfoldable pub side_form : List ℕ → Result Sign Flaw
side_form value =
    if same_text value (codes "1") || same_text value (codes "3") then Ok Buy
    else (if same_text value (codes "2") || same_text value (codes "4") || same_text value (codes "5") || same_text value (codes "6") then Ok Sell
    else Err ValueIncorrect)
