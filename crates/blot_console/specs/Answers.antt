-- The text of an answer. Words are divided by tabs, and each line ends with LF. Source: this project's rule.
use Rattle.std.specs.Prelude.{ℕ, List, [], ◌∷◌, ◌++◌, codes, Option, Some, None}
use Rattle.blot_types.specs.declared.{keys.OrderKey.OrderKey, lines.OrderLine.OrderLine, lines.PositionLine.PositionLine}
use Rattle.blot_report.specs.Text.{order_text, position_text, report_text}
use Rattle.blot_console.specs.declared.{answer.Answer.Answer, fault.LineFault.LineFault}
use Rattle.blot_console.specs.declared.answer.Answer.TheVariants as answers
use Rattle.blot_console.specs.declared.fault.LineFault.TheVariants.{UnknownWord, WrongCount, BadValue, TooLong, NoMemory}
use Rattle.blot_console.specs.FaultText.{fault_number}
use Rattle.blot_console.specs.Founds.{found_by_text, found_text, orders_answer, positions_answer}
use Rattle.blot_console.specs.OpenDay.{sessions_answer}
use Rattle.blot_console.specs.Replies.{IsTold, number_text, reply_text, word_line}

-- the line of an order, if it has one
abbrev pub order_answer : OrderKey → Option OrderLine → List ℕ
order_answer order (Some line) = order_text order line
order_answer order None = word_line (codes "none")

-- the line of a position, if it has one
abbrev pub position_answer : List ℕ → List ℕ → Option PositionLine → List ℕ
position_answer account symbol (Some line) = position_text account symbol line
position_answer account symbol None = word_line (codes "none")

-- the place of a bad word
abbrev pub place_text : LineFault → List ℕ
place_text UnknownWord = []
place_text WrongCount = []
place_text (BadValue place) = number_text place
place_text TooLong = []
place_text NoMemory = []

-- a line that asks nothing: the number of its fault, and the place of a bad word
abbrev pub bad_text : LineFault → List ℕ
bad_text fault = codes "bad" ++ number_text (fault_number fault) ++ place_text fault ++ 10 ∷ []

-- an answer
abbrev pub answer_text : Answer → List ℕ
answer_text (answers.Replied reply) = reply_text reply
answer_text (answers.Order order line) = order_answer order line
answer_text (answers.Position account symbol line) = position_answer account symbol line
answer_text (answers.Report lines) = report_text lines
answer_text (answers.Bad fault) = bad_text fault
answer_text answers.Full = word_line (codes "full")
answer_text answers.Nothing = word_line (codes "none")
answer_text (answers.Found found) = found_text found
answer_text (answers.FoundBy found makers) = found_by_text found makers
answer_text (answers.Orders rows) = orders_answer rows
answer_text (answers.Positions rows) = positions_answer rows
answer_text (answers.Sessions lines) = sessions_answer lines
answer_text answers.Closed = word_line (codes "closed")

-- an answer whose reply, if it is one, is told without a key
abbrev pub CanBeTold : Answer → Type 0
CanBeTold (answers.Replied reply) = IsTold reply
CanBeTold _ = Unit {0}
