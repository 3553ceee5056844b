-- What each question's line asks, one line a word, in the order of its places; the count of words comes before each of them.
-- Source: this project's rule.
use Rattle.std.specs.Prelude.{ℕ, ◌==◌, List, length, Option, Some, None, Result, Ok, if◌then◌else◌}
use Rattle.blot_time.specs.Results.{◌>>=◌}
use Rattle.blot_desk.specs.declared.question.Question.TheVariants.{Entry, Execution, Allocation, Needs, Steps, Refusals}
use Rattle.blot_console.specs.declared.{ask.Ask.Ask, fault.Wrong.Wrong}
use Rattle.blot_console.specs.declared.ask.Ask.TheVariants.{Look, Orders, Positions}
use Rattle.blot_console.specs.Forms.{number_form, rows_form, text_form}
use Rattle.blot_console.specs.Rows.{counted, value_at}

-- `entry N`
unfoldable pub entry_line : List (List ℕ) → Result Ask Wrong
entry_line words = do
  done ← counted 2 words
  number ← value_at 1 number_form words
  Ok (Look (Entry number))

-- `execution peer execid`
unfoldable pub execution_line : List (List ℕ) → Result Ask Wrong
execution_line words = do
  done ← counted 3 words
  peer ← value_at 1 text_form words
  id ← value_at 2 text_form words
  Ok (Look (Execution (record { peer = peer; id = id })))

-- `allocation peer allocid`
unfoldable pub allocation_line : List (List ℕ) → Result Ask Wrong
allocation_line words = do
  done ← counted 3 words
  peer ← value_at 1 text_form words
  id ← value_at 2 text_form words
  Ok (Look (Allocation (record { peer = peer; id = id })))

-- `needs N`
unfoldable pub needs_line : List (List ℕ) → Result Ask Wrong
needs_line words = do
  done ← counted 2 words
  number ← value_at 1 number_form words
  Ok (Look (Needs number))

-- `steps n`
unfoldable pub steps_line : List (List ℕ) → Result Ask Wrong
steps_line words = do
  done ← counted 2 words
  count ← value_at 1 rows_form words
  Ok (Look (Steps count))

-- `refusals n`
unfoldable pub refusals_line : List (List ℕ) → Result Ask Wrong
refusals_line words = do
  done ← counted 2 words
  count ← value_at 1 rows_form words
  Ok (Look (Refusals count))

-- the word after the first
unfoldable pub second_text : List (List ℕ) → Result (Option (List ℕ)) Wrong
second_text words = do
  done ← counted 2 words
  text ← value_at 1 text_form words
  Ok (Some text)

-- the same, which may be left out
unfoldable pub optional_text : List (List ℕ) → Result (Option (List ℕ)) Wrong
optional_text words = if length words == 1 then Ok None else second_text words

-- `orders`, or `orders peer`
unfoldable pub orders_line : List (List ℕ) → Result Ask Wrong
orders_line words = do
  peer ← optional_text words
  Ok (Orders peer)

-- `positions`, or `positions account`
unfoldable pub positions_line : List (List ℕ) → Result Ask Wrong
positions_line words = do
  account ← optional_text words
  Ok (Positions account)
