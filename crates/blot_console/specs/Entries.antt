-- The line that tells an entry. Words are divided by tabs. Source: this project's rule.
use Rattle.std.specs.Prelude.{ℕ, pos, List, [], ◌∷◌, ◌++◌, length, codes, Option, Some, None, flat_map}
use Rattle.blot_decimal.specs.Printed.{printed}
use Rattle.blot_time.specs.Day.{day_text}
use Rattle.blot_types.specs.declared.{allocation.Line.Line, allocation.Terms.Terms, command.Command.Command, command.Entry.Entry, fill.Fill.Fill, keys.AllocKey.AllocKey}
use Rattle.blot_types.specs.declared.command.Command.TheVariants.{Trade, Correct, Bust, AllocNew, AllocReplace, AllocCancel, Withdraw}
use Rattle.blot_report.specs.Text.{sign_text}
use Rattle.blot_console.specs.Replies.{word_text, number_text, exec_text}

-- an allocation after a tab: its peer and its AllocID
abbrev pub alloc_text : AllocKey → List ℕ
alloc_text key = word_text key.peer ++ word_text key.id

-- the account of a fill, `*` where it has none
abbrev pub account_word : Option (List ℕ) → List ℕ
account_word None = codes "*"
account_word (Some account) = account

-- the quantity, the price, the day and the size of a fill
abbrev pub amounts_text : Fill → List ℕ
amounts_text fill = word_text (printed 6 (pos fill.qty)) ++ word_text (printed 8 fill.price) ++ word_text (day_text fill.day) ++ word_text (printed 6 fill.size)

-- a fill: order, account, symbol and sign, and then those
abbrev pub fill_text : Fill → List ℕ
fill_text fill = word_text fill.order.id ++ word_text (account_word fill.account) ++ word_text fill.symbol ++ word_text (sign_text fill.sign) ++ amounts_text fill

-- the line of an allocation: account, quantity, price
abbrev pub line_text : Line → List ℕ
line_text line = word_text line.account ++ word_text (printed 6 (pos line.qty)) ++ word_text (printed 8 line.price)

-- the executions that terms list, behind their count, and then the lines behind theirs
abbrev pub lists_text : Terms → List ℕ
lists_text terms =
    number_text (length terms.execs) ++ flat_map (λ key. word_text key.id) terms.execs ++ number_text (length terms.lines) ++ flat_map line_text terms.lines

-- what an allocation books: symbol, sign, day, block, executions, lines
abbrev pub terms_text : Terms → List ℕ
terms_text terms = word_text terms.symbol ++ word_text (sign_text terms.sign) ++ word_text (day_text terms.day) ++ word_text (printed 6 (pos terms.block)) ++ lists_text terms

-- a withdrawal: the number of its step, and the number that it took out
abbrev pub withdraw_text : ℕ → ℕ → List ℕ
withdraw_text number withdrawn = codes "withdraw" ++ number_text number ++ number_text withdrawn ++ 10 ∷ []

-- a command under its number
abbrev pub command_text : ℕ → Command → List ℕ
command_text number (Trade trade) = codes "trade" ++ number_text number ++ exec_text trade.key ++ fill_text trade.fill ++ 10 ∷ []
command_text number (Correct correct) =
    codes "correct" ++ number_text number ++ exec_text correct.key ++ word_text correct.reference.id ++ fill_text correct.fill ++ 10 ∷ []
command_text number (Bust bust) = codes "bust" ++ number_text number ++ exec_text bust.key ++ word_text bust.reference.id ++ 10 ∷ []
command_text number (AllocNew new) = codes "allocnew" ++ number_text number ++ alloc_text new.key ++ terms_text new.terms ++ 10 ∷ []
command_text number (AllocReplace replace) =
    codes "allocreplace" ++ number_text number ++ alloc_text replace.key ++ word_text replace.reference.id ++ terms_text replace.terms ++ 10 ∷ []
command_text number (AllocCancel cancel) = codes "alloccancel" ++ number_text number ++ alloc_text cancel.key ++ word_text cancel.reference.id ++ 10 ∷ []
command_text number (Withdraw withdrawn) = withdraw_text number withdrawn

-- an entry
abbrev pub entry_text : Entry → List ℕ
entry_text entry = command_text entry.number entry.command
