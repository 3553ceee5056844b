-- An operator's lines and their answers, computed. Quantities are in units of 10^-6, prices in units of 10^-8, values in
-- units of 10^-14.
use Rattle.std.proofs.Common.{◌≡◌, ℕ, ◌*◌, ◌^◌, ◌++◌, pos, true, false, List, [], ◌∷◌, codes, Option, Some, None, Result, Ok, Err, refl}
use Rattle.std.specs.Fmt.{digits}
use Rattle.std.specs.List.{join_with_byte}
use Rattle.blot_decimal.specs.Meaning.{size_of, qty_of, price_of}
use Rattle.blot_decimal.specs.Printed.{fraction_digits, printed}
use Rattle.blot_decimal.specs.Text.{are_parts}
use Rattle.blot_time.specs.Calendar.{day_number}
use Rattle.blot_time.specs.Day.{day_of, civil_day}
use Rattle.blot_types.specs.declared.{allocation.Line.Line, fill.Sign.TheVariants.Buy, keys.ExecKey.ExecKey, keys.OrderKey.OrderKey}
use Rattle.blot_types.specs.declared.command.Command.TheVariants.{AllocNew, Withdraw}
use Rattle.blot_types.specs.declared.refused.Refused.TheVariants.{NotLive, NothingToUndo, Moved, UnknownExec, Quantity}
use Rattle.blot_desk.specs.declared.event.Event.TheVariants.{Submit, Undo, Redo, AskOrder, AskPosition}
use Rattle.blot_desk.specs.declared.event.Reply.TheVariants as replies
use Rattle.blot_desk.specs.declared.question.CommandKey.TheVariants as keys
use Rattle.blot_desk.specs.declared.question.Found.TheVariants as found
use Rattle.blot_desk.specs.declared.question.Question.TheVariants.{Entry, Execution}
use Rattle.blot_desk.specs.declared.question.StepRow.TheVariants as rows
use Rattle.blot_console.specs.declared.answer.Answer.TheVariants as answers
use Rattle.blot_console.specs.declared.{open_day.DayAsk.DayAsk, ask.Ask.Ask, fault.LineFault.LineFault}
use Rattle.blot_console.specs.declared.open_day.DayAsk.TheVariants.{Close, Sessions}
use Rattle.blot_console.specs.declared.ask.Ask.TheVariants.{Step, Report, Mine, Look, Orders}
use Rattle.blot_console.specs.declared.fault.LineFault.TheVariants.{UnknownWord, WrongCount, BadValue}
use Rattle.blot_console.specs.Allocate.{execs_counted, execs_of, line_of, lines_of, allocate_line}
use Rattle.blot_console.specs.Answers.{answer_text}
use Rattle.blot_console.specs.Forms.{number_form, count_form, rows_form, text_form, sign_form, day_form, price_form, qty_form}
use Rattle.blot_console.specs.Lines.{undo_line, redo_line, withdraw_line, mine_line, order_line, position_line, report_line}
use Rattle.blot_console.specs.QuestionLines.{entry_line, execution_line, optional_text, orders_line, refusals_line, steps_line}
use Rattle.blot_console.specs.OpenDay.{day_ask_of, day_parsed, day_words}
use Rattle.blot_console.specs.Parsing.{kind_of, question_kind_of, words_line, ask_of, parsed}
use Rattle.blot_console.specs.Rows.{counted, value_at}

-- words with a tab between each two
abbrev tabbed : List (List ℕ) → List ℕ
tabbed words = join_with_byte 9 words

abbrev told_line : List (List ℕ) → List ℕ
told_line words = tabbed words ++ 10 ∷ []

abbrev asks : List (List ℕ) → Result Ask LineFault
asks words = parsed (tabbed words)

abbrev BRKA : List ℕ
BRKA = codes "BRKA"

abbrev O1 : OrderKey
O1 = record { peer = BRKA; id = codes "O1" }

abbrev E1 : ExecKey
E1 = record { peer = BRKA; id = codes "E1" }

-- ---- lines

undoes : asks (codes "undo" ∷ codes "1" ∷ []) ≡ Ok (Step (Undo 1))
unfolding parsed ask_of words_line kind_of undo_line counted value_at number_form
undoes = refl

undoes_nothing : asks (codes "undo" ∷ []) ≡ Err WrongCount
unfolding parsed ask_of words_line kind_of undo_line counted value_at number_form
undoes_nothing = refl

undoes_x : asks (codes "undo" ∷ codes "x" ∷ []) ≡ Err (BadValue 1)
unfolding parsed ask_of words_line kind_of undo_line counted value_at number_form
undoes_x = refl

redoes : asks (codes "redo" ∷ []) ≡ Ok (Step Redo)
unfolding parsed ask_of words_line kind_of redo_line counted
redoes = refl

withdraws : asks (codes "withdraw" ∷ codes "07" ∷ []) ≡ Ok (Step (Submit (Withdraw 7)))
unfolding parsed ask_of words_line kind_of withdraw_line counted value_at number_form
withdraws = refl

withdraws_nothing : asks (codes "withdraw" ∷ []) ≡ Err WrongCount
unfolding parsed ask_of words_line kind_of withdraw_line counted value_at number_form
withdraws_nothing = refl

withdraws_ten_digits : asks (codes "withdraw" ∷ codes "0000000001" ∷ []) ≡ Err (BadValue 1)
unfolding parsed ask_of words_line kind_of withdraw_line counted value_at number_form
withdraws_ten_digits = refl

withdraws_mine : asks (codes "mine" ∷ []) ≡ Ok Mine
unfolding parsed ask_of words_line kind_of mine_line counted
withdraws_mine = refl

withdraws_mine_of_one : asks (codes "mine" ∷ codes "1" ∷ []) ≡ Err WrongCount
unfolding parsed ask_of words_line kind_of mine_line counted
withdraws_mine_of_one = refl

flies : asks (codes "fly" ∷ []) ≡ Err UnknownWord
unfolding parsed ask_of words_line kind_of question_kind_of
flies = refl

empty : parsed [] ≡ Err UnknownWord
unfolding parsed ask_of words_line kind_of question_kind_of
empty = refl

asks_order : asks (codes "order" ∷ BRKA ∷ codes "O1" ∷ []) ≡ Ok (Step (AskOrder O1))
unfolding parsed ask_of words_line kind_of order_line counted value_at text_form
asks_order = refl

least_place : asks (codes "order" ∷ [] ∷ [] ∷ []) ≡ Err (BadValue 1)
unfolding parsed ask_of words_line kind_of order_line counted value_at text_form
least_place = refl

asks_position : asks (codes "position" ∷ codes "*" ∷ codes "XYZ" ∷ []) ≡ Ok (Step (AskPosition (codes "*") (codes "XYZ")))
unfolding parsed ask_of words_line kind_of position_line counted value_at text_form
asks_position = refl

asks_report : asks (codes "report" ∷ codes "20240105" ∷ []) ≡ Ok (Report (day_number 2024 1 5))
unfolding parsed ask_of words_line kind_of report_line counted value_at day_form day_of civil_day
asks_report = refl

abbrev allocates_with : List ℕ → List (List ℕ)
allocates_with n =
    codes "allocate" ∷ BRKA ∷ codes "AL1" ∷ codes "XYZ" ∷ codes "B" ∷ codes "20240105" ∷ codes "10.5" ∷ n
    ∷ codes "E1" ∷ codes "A" ∷ codes "60" ∷ codes "B" ∷ codes "40" ∷ []

abbrev line : List ℕ → ℕ → Line
line account qty = record { account = account; qty = qty * 10 ^ 6; price = pos 1050000000 }

allocates : asks (allocates_with (codes "1"))
    ≡ Ok (Step (Submit (AllocNew (record {
      key = record { peer = BRKA; id = codes "AL1" };
      terms = record {
        symbol = codes "XYZ";
        sign = Buy;
        day = day_number 2024 1 5;
        block = 100 * 10 ^ 6;
        execs = E1 ∷ [];
        lines = line (codes "A") 60 ∷ line (codes "B") 40 ∷ [];
      };
    }))))
unfolding parsed ask_of words_line kind_of allocate_line execs_counted execs_of line_of lines_of counted value_at count_form text_form sign_form day_form day_of civil_day price_form price_of qty_form qty_of size_of are_parts
allocates = refl

allocates_none : asks (allocates_with (codes "0")) ≡ Err (BadValue 7)
unfolding parsed ask_of words_line kind_of allocate_line execs_counted execs_of line_of lines_of counted value_at count_form text_form sign_form day_form day_of civil_day price_form price_of qty_form qty_of size_of are_parts
allocates_none = refl

allocates_two : asks (allocates_with (codes "2")) ≡ Err WrongCount
unfolding parsed ask_of words_line kind_of allocate_line execs_counted count_form
allocates_two = refl

-- ---- answers

accepted : answer_text (answers.Replied (replies.Accepted 2)) ≡ told_line (codes "accepted" ∷ codes "2" ∷ [])
unfolding digits
accepted = refl

undone : answer_text (answers.Replied (replies.Undone 1)) ≡ told_line (codes "undone" ∷ codes "1" ∷ [])
unfolding digits
undone = refl

redone : answer_text (answers.Replied (replies.Redone 1)) ≡ told_line (codes "redone" ∷ codes "1" ∷ [])
unfolding digits
redone = refl

nothing_to_undo : answer_text (answers.Replied (replies.Refused NothingToUndo)) ≡ told_line (codes "refused" ∷ codes "13" ∷ codes "NothingToUndo" ∷ [])
unfolding digits
nothing_to_undo = refl

moved : answer_text (answers.Replied (replies.Refused (Moved 1))) ≡ told_line (codes "refused" ∷ codes "14" ∷ codes "Moved" ∷ codes "1" ∷ [])
unfolding digits
moved = refl

unknown : answer_text (answers.Replied (replies.Refused (UnknownExec E1))) ≡ told_line (codes "refused" ∷ codes "5" ∷ codes "UnknownExec" ∷ BRKA ∷ codes "E1" ∷ [])
unfolding digits
unknown = refl

quantity : answer_text (answers.Replied (replies.Refused (Quantity (pos (50 * 10 ^ 6)) (pos (49500000))))) ≡ told_line (codes "refused" ∷ codes "10" ∷ codes "Quantity" ∷ codes "50" ∷ codes "49.5" ∷ [])
unfolding printed fraction_digits digits
quantity = refl

order_told : answer_text (answers.Order O1 (Some (record { cum = pos (100 * 10 ^ 6); leaves = pos (200 * 10 ^ 6); value = pos (1050 * 10 ^ 14); symbol = codes "XYZ"; sign = Buy })))
    ≡ told_line (codes "order" ∷ BRKA ∷ codes "O1" ∷ codes "XYZ" ∷ codes "B" ∷ codes "100" ∷ codes "200" ∷ codes "1050" ∷ [])
unfolding printed fraction_digits digits
order_told = refl

order_gone : answer_text (answers.Order O1 None) ≡ told_line (codes "none" ∷ [])
order_gone = refl

position_told : answer_text (answers.Position (codes "*") (codes "XYZ") (Some (record { qty = pos 0; value = pos 0 })))
    ≡ told_line (codes "position" ∷ codes "*" ∷ codes "XYZ" ∷ codes "0" ∷ codes "0" ∷ [])
unfolding printed fraction_digits digits
position_told = refl

bad_word : answer_text (answers.Bad UnknownWord) ≡ told_line (codes "bad" ∷ codes "1" ∷ [])
unfolding digits
bad_word = refl

bad_place : answer_text (answers.Bad (BadValue 7)) ≡ told_line (codes "bad" ∷ codes "3" ∷ codes "7" ∷ [])
unfolding digits
bad_place = refl

not_live : answer_text (answers.Replied (replies.Refused (NotLive 1))) ≡ told_line (codes "refused" ∷ codes "11" ∷ codes "NotLive" ∷ codes "1" ∷ [])
unfolding digits
not_live = refl

nothing : answer_text answers.Nothing ≡ told_line (codes "none" ∷ [])
nothing = refl

full : answer_text answers.Full ≡ told_line (codes "full" ∷ [])
full = refl

-- ---- questions

steps_by : answer_text (answers.FoundBy (found.Steps (rows.Withdraw 4 1 ∷ rows.Withdrawn 2 ∷ [])) (codes "ANNA" ∷ BRKA ∷ []))
    ≡ told_line (codes "withdraw" ∷ codes "4" ∷ codes "1" ∷ codes "ANNA" ∷ []) ++ told_line (codes "withdrawn" ∷ codes "2" ∷ BRKA ∷ []) ++ told_line (codes "end" ∷ codes "2" ∷ [])
unfolding digits
steps_by = refl

refusals_by : answer_text (answers.FoundBy (found.Refusals (record { place = 7; command = keys.Withdraw 9; reason = NotLive 9 } ∷ [])) (codes "ANNA" ∷ []))
    ≡ told_line (codes "refusal" ∷ codes "7" ∷ codes "withdraw" ∷ codes "9" ∷ codes "11" ∷ codes "NotLive" ∷ codes "9" ∷ codes "ANNA" ∷ []) ++ told_line (codes "end" ∷ codes "1" ∷ [])
unfolding digits
refusals_by = refl

free_by : answer_text (answers.FoundBy (found.Needs None) []) ≡ told_line (codes "free" ∷ [])
free_by = refl

asks_entry : asks (codes "entry" ∷ codes "08" ∷ []) ≡ Ok (Look (Entry 8))
unfolding parsed ask_of words_line kind_of question_kind_of entry_line counted value_at number_form
asks_entry = refl

asks_execution : asks (codes "execution" ∷ BRKA ∷ codes "E1" ∷ []) ≡ Ok (Look (Execution E1))
unfolding parsed ask_of words_line kind_of question_kind_of execution_line counted value_at text_form
asks_execution = refl

asks_orders : asks (codes "orders" ∷ []) ≡ Ok (Orders None)
unfolding parsed ask_of words_line kind_of question_kind_of orders_line optional_text
asks_orders = refl

asks_steps_none : asks (codes "steps" ∷ codes "0" ∷ []) ≡ Err (BadValue 1)
unfolding parsed ask_of words_line kind_of question_kind_of steps_line counted value_at rows_form
asks_steps_none = refl

asks_many_refusals : asks (codes "refusals" ∷ codes "1001" ∷ []) ≡ Err (BadValue 1)
unfolding parsed ask_of words_line kind_of question_kind_of refusals_line counted value_at rows_form
asks_many_refusals = refl

-- ---- an open day

abbrev asks_day : List (List ℕ) → Option (Result DayAsk LineFault)
asks_day words = day_parsed (tabbed words)

closes : asks_day (codes "close" ∷ []) ≡ Some (Ok Close)
unfolding day_parsed day_words day_ask_of
closes = refl

closes_x : asks_day (codes "close" ∷ codes "x" ∷ []) ≡ Some (Err WrongCount)
unfolding day_parsed day_words day_ask_of
closes_x = refl

asks_sessions : asks_day (codes "sessions" ∷ []) ≡ Some (Ok Sessions)
unfolding day_parsed day_words day_ask_of
asks_sessions = refl

not_of_the_day : asks_day (codes "redo" ∷ []) ≡ None
unfolding day_parsed day_words day_ask_of
not_of_the_day = refl

closes_nothing_else : asks (codes "close" ∷ codes "x" ∷ []) ≡ Err UnknownWord
unfolding parsed ask_of words_line kind_of question_kind_of
closes_nothing_else = refl

closed : answer_text answers.Closed ≡ told_line (codes "closed" ∷ [])
closed = refl

sessions_told : answer_text (answers.Sessions (record { peer = BRKA; is_on = true; expected = 12 } ∷ record { peer = codes "BRKB"; is_on = false; expected = 1 } ∷ []))
    ≡ told_line (codes "session" ∷ BRKA ∷ codes "on" ∷ codes "12" ∷ []) ++ told_line (codes "session" ∷ codes "BRKB" ∷ codes "off" ∷ codes "1" ∷ [])
    ++ told_line (codes "end" ∷ codes "2" ∷ [])
unfolding digits
sessions_told = refl
