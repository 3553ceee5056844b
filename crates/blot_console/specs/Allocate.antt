-- What `allocate peer allocid symbol sign day price n`, n ExecIDs and pairs `account qty` ask. Source: this project's rule.
use Rattle.std.specs.Prelude.{ℕ, ℤ, pos, ◌+◌, ◌-◌, ◌*◌, ◌%◌, ◌==◌, ◌&&◌, nat_lt, nat_le, Bool, List, [], ◌∷◌, length, take, drop, Option, Some, None, Result, Ok, Err, if◌then◌else◌}
use Rattle.blot_decimal.specs.Meaning.{qty_units}
use Rattle.blot_time.specs.Results.{◌>>=◌}
use Rattle.blot_types.specs.declared.{TheConstants.ITEMS_MAX, allocation.Line.Line, command.Command.TheVariants.AllocNew, keys.ExecKey.ExecKey}
use Rattle.blot_desk.specs.declared.event.Event.TheVariants.{Submit}
use Rattle.blot_console.specs.declared.{ask.Ask.Ask, ask.Ask.TheVariants.Step, allocate.TheConstants.EXECS_PLACE, fault.Wrong.Wrong, fault.Wrong.TheVariants.WrongCount}
use Rattle.blot_console.specs.Forms.{count_form, text_form, sign_form, day_form, price_form, qty_form}
use Rattle.blot_console.specs.Rows.{at, value_at}
use Rattle.blot_console.specs.Words.{word_at}

-- whether so many words are one to `ITEMS_MAX` pairs
abbrev pub are_pairs : ℕ → Bool
are_pairs count = (count % 2 == 0) && nat_le 2 count && nat_le count (2 * ITEMS_MAX)

-- n, where it says how many executions follow; then pairs stand after them
abbrev pub counted_by : Option ℕ → List (List ℕ) → Result (Option ℕ) Wrong
counted_by None words = Ok None
counted_by (Some count) words =
    if are_pairs (length words - (EXECS_PLACE + count)) then Ok (Some count) else Err WrongCount

-- n, if it can be read, in a line of as many words as it says; else the line has at least n itself
unfoldable pub execs_counted : List (List ℕ) → Result (Option ℕ) Wrong
execs_counted words =
    if nat_lt (length words) EXECS_PLACE then Err WrongCount else counted_by (count_form (word_at 7 words)) words

-- the executions of a peer whose ExecIDs stand from a place on
unfoldable pub execs_of : List ℕ → ℕ → List (List ℕ) → Result (List ExecKey) Wrong
execs_of peer place [] = Ok []
execs_of peer place (word ∷ words) = do
  id ← at place (text_form word)
  execs ← execs_of peer (place + 1) words
  Ok (record { peer = peer; id = id } ∷ execs)

-- a line at a price, of the pair that stands at a place
unfoldable pub line_of : ℤ → ℕ → List ℕ → List ℕ → Result Line Wrong
line_of price place first second = do
  account ← at place (text_form first)
  qty ← at (place + 1) (qty_form second)
  Ok (record { account = account; qty = qty; price = price })

-- the lines at a price, of the pairs that stand from a place on
unfoldable pub lines_of : ℤ → ℕ → List (List ℕ) → Result (List Line) Wrong
lines_of price place [] = Ok []
lines_of price place (first ∷ []) = Ok []
lines_of price place (first ∷ second ∷ words) = do
  line ← line_of price place first second
  lines ← lines_of price (place + 2) words
  Ok (line ∷ lines)

-- the sum of the quantities of lines, in units of 10^-6
abbrev pub block_of : List Line → ℕ
block_of [] = 0
block_of (line ∷ lines) = line.qty + block_of lines

-- `allocate`: an AllocNew whose block is the sum of its lines
unfoldable pub allocate_line : List (List ℕ) → Result Ask Wrong
allocate_line words = do
  counted ← execs_counted words
  peer ← value_at 1 text_form words
  id ← value_at 2 text_form words
  symbol ← value_at 3 text_form words
  sign ← value_at 4 sign_form words
  day ← value_at 5 day_form words
  price ← value_at 6 price_form words
  count ← at 7 counted
  execs ← execs_of peer EXECS_PLACE (take count (drop EXECS_PLACE words))
  lines ← lines_of price (EXECS_PLACE + count) (drop (EXECS_PLACE + count) words)
  block ← at (length words - 1) (qty_units (pos (block_of lines)))
  Ok (Step (Submit (AllocNew (record {
    key = record { peer = peer; id = id };
    terms = record { symbol = symbol; sign = sign; day = day; block = block; execs = execs; lines = lines };
  }))))
