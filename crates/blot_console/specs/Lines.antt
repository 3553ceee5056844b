-- What each line asks, one line a word, in the order of its places; the count of words comes before each of them.
-- Source: this project's rule.
use Rattle.std.specs.Prelude.{ℕ, List, Result, Ok}
use Rattle.blot_time.specs.Results.{◌>>=◌}
use Rattle.blot_types.specs.declared.command.Command.TheVariants.{Withdraw}
use Rattle.blot_desk.specs.declared.event.Event.TheVariants.{Submit, Undo, Redo, AskOrder, AskPosition}
use Rattle.blot_console.specs.declared.{ask.Ask.Ask, fault.Wrong.Wrong}
use Rattle.blot_console.specs.declared.ask.Ask.TheVariants.{Step, Report, Mine}
use Rattle.blot_console.specs.Forms.{number_form, text_form, day_form}
use Rattle.blot_console.specs.Rows.{counted, value_at}

-- `undo N`
unfoldable pub undo_line : List (List ℕ) → Result Ask Wrong
undo_line words = do
  done ← counted 2 words
  newest ← value_at 1 number_form words
  Ok (Step (Undo newest))

-- `redo`
unfoldable pub redo_line : List (List ℕ) → Result Ask Wrong
redo_line words = do
  done ← counted 1 words
  Ok (Step Redo)

-- `withdraw N`
unfoldable pub withdraw_line : List (List ℕ) → Result Ask Wrong
withdraw_line words = do
  done ← counted 2 words
  number ← value_at 1 number_form words
  Ok (Step (Submit (Withdraw number)))

-- `mine`
unfoldable pub mine_line : List (List ℕ) → Result Ask Wrong
mine_line words = do
  done ← counted 1 words
  Ok Mine

-- `order peer orderid`
unfoldable pub order_line : List (List ℕ) → Result Ask Wrong
order_line words = do
  done ← counted 3 words
  peer ← value_at 1 text_form words
  id ← value_at 2 text_form words
  Ok (Step (AskOrder (record { peer = peer; id = id })))

-- `position account symbol`
unfoldable pub position_line : List (List ℕ) → Result Ask Wrong
position_line words = do
  done ← counted 3 words
  account ← value_at 1 text_form words
  symbol ← value_at 2 text_form words
  Ok (Step (AskPosition account symbol))

-- `report day`
unfoldable pub report_line : List (List ℕ) → Result Ask Wrong
report_line words = do
  done ← counted 2 words
  day ← value_at 1 day_form words
  Ok (Report day)
