-- What is told of what was found to a question. Source: this project's rule.
use Rattle.std.specs.Prelude.{ℕ, ◌+◌, ◌-◌, List, [], ◌∷◌, ◌++◌, drop, length, slice_get, take, codes, Option, Some, None, flat_map}
use Rattle.blot_types.specs.declared.{keys.AllocKey.AllocKey, keys.ExecKey.ExecKey, refused.Refused.Refused, refused.Refused.TheVariants.Needed}
use Rattle.blot_types.specs.RefusalNames.{refused_number, refused_name}
use Rattle.blot_command.specs.declared.{questions.AllocationAnswer.AllocationAnswer, questions.ExecutionAnswer.ExecutionAnswer}
use Rattle.blot_desk.specs.declared.{question.CommandKey.CommandKey, question.Found.Found, question.RefusalRow.RefusalRow, question.StepRow.StepRow}
use Rattle.blot_desk.specs.declared.question.CommandKey.TheVariants.{Trade, Correct, Bust, AllocNew, AllocReplace, AllocCancel, Withdraw}
use Rattle.blot_desk.specs.declared.question.Found.TheVariants as found
use Rattle.blot_desk.specs.declared.question.StepRow.TheVariants as steps
use Rattle.blot_report.specs.declared.{lines.OrderRow.OrderRow, lines.PositionRow.PositionRow}
use Rattle.blot_report.specs.Text.{end_text, order_lines_text, position_lines_text}
use Rattle.blot_console.specs.Replies.{word_text, number_text, exec_text, values_text, refused_text, word_line, number_line}
use Rattle.blot_console.specs.Entries.{alloc_text, entry_text, withdraw_text}

-- a line of a word and a number, if there is one; and how many lines that is
abbrev pub optional_line : List ℕ → Option ℕ → List ℕ
optional_line name None = []
optional_line name (Some number) = number_line name number

abbrev pub optional_lines : Option ℕ → ℕ
optional_lines None = 0
optional_lines (Some number) = 1

-- the Bust that ended a chain, or else its last version; and how many lines that is
abbrev pub state_by : Option ℕ → Option ℕ → List ℕ
state_by (Some bust) version = optional_line (codes "busted") (Some bust)
state_by None version = optional_line (codes "survivor") version

abbrev pub state_line : ExecutionAnswer → List ℕ
state_line answer = state_by answer.bust answer.version

abbrev pub state_lines : Option ℕ → Option ℕ → ℕ
state_lines (Some bust) version = 1
state_lines None version = optional_lines version

-- the lines between the first and the last of what is told of an execution
abbrev pub execution_lines : ExecutionAnswer → ℕ
execution_lines answer = length answer.entries + state_lines answer.bust answer.version + optional_lines answer.allocation

-- what is told of an execution
abbrev pub execution_text : ExecKey → ExecutionAnswer → List ℕ
execution_text key answer =
    codes "execution" ++ exec_text key ++ 10 ∷ flat_map entry_text answer.entries ++ state_line answer ++ optional_line (codes "allocated") answer.allocation
    ++ end_text (execution_lines answer)

-- what is told of an allocation
abbrev pub allocation_text : AllocKey → AllocationAnswer → List ℕ
allocation_text key answer =
    codes "allocation" ++ alloc_text key ++ 10 ∷ entry_text answer.entry ++ optional_line (codes "ended") answer.ended ++ end_text (1 + optional_lines answer.ended)

-- what a withdrawal would be refused for
abbrev pub needs_text : Option Refused → List ℕ
needs_text None = word_line (codes "free")
needs_text (Some (Needed number)) = number_line (codes "needed") number
needs_text (Some other) = refused_text other

-- a done step
abbrev pub step_text : StepRow → List ℕ
step_text (steps.Entry entry) = entry_text entry
step_text (steps.Withdraw number withdrawn) = withdraw_text number withdrawn
step_text (steps.Withdrawn number) = number_line (codes "withdrawn") number

abbrev pub steps_text : List StepRow → List ℕ
steps_text rows = flat_map step_text rows ++ end_text (length rows)

-- a command by its kind, the first word of its entry's line, and its own key
abbrev pub key_text : CommandKey → List ℕ
key_text (Trade key) = word_text (codes "trade") ++ exec_text key
key_text (Correct key) = word_text (codes "correct") ++ exec_text key
key_text (Bust key) = word_text (codes "bust") ++ exec_text key
key_text (AllocNew key) = word_text (codes "allocnew") ++ alloc_text key
key_text (AllocReplace key) = word_text (codes "allocreplace") ++ alloc_text key
key_text (AllocCancel key) = word_text (codes "alloccancel") ++ alloc_text key
key_text (Withdraw number) = word_text (codes "withdraw") ++ number_text number

-- a refused command: its place, its key, and the refusal
abbrev pub refusal_text : RefusalRow → List ℕ
refusal_text row =
    codes "refusal" ++ number_text row.place ++ key_text row.command ++ number_text (refused_number row.reason) ++ word_text (refused_name row.reason)
    ++ values_text row.reason ++ 10 ∷ []

abbrev pub refusals_text : List RefusalRow → List ℕ
refusals_text rows = flat_map refusal_text rows ++ end_text (length rows)

-- what was found
abbrev pub found_text : Found → List ℕ
found_text (found.Entry None) = word_line (codes "none")
found_text (found.Entry (Some entry)) = entry_text entry
found_text (found.Execution key None) = word_line (codes "none")
found_text (found.Execution key (Some answer)) = execution_text key answer
found_text (found.Allocation key None) = word_line (codes "none")
found_text (found.Allocation key (Some answer)) = allocation_text key answer
found_text (found.Needs reason) = needs_text reason
found_text (found.Steps rows) = steps_text rows
found_text (found.Refusals rows) = refusals_text rows

-- a line with one word more at its end, its maker; a line without a maker would be told as it is
abbrev pub line_by : List ℕ → Option (List ℕ) → List ℕ
line_by line None = line
line_by line (Some maker) = take (length line - 1) line ++ word_text maker ++ 10 ∷ []

-- the lines of some rows, each with the maker beside it
abbrev pub lines_by : {Row : Type 0} → (Row → List ℕ) → List Row → List (List ℕ) → List ℕ
lines_by text [] makers = []
lines_by text (row ∷ later) makers = line_by (text row) (slice_get makers 0) ++ lines_by text later (drop 1 makers)

-- what was found, and who made each row
abbrev pub found_by_text : Found → List (List ℕ) → List ℕ
found_by_text (found.Steps rows) makers = lines_by step_text rows makers ++ end_text (length rows)
found_by_text (found.Refusals rows) makers = lines_by refusal_text rows makers ++ end_text (length rows)
found_by_text other makers = found_text other

-- lines of orders and of positions, and how many they are
abbrev pub orders_answer : List OrderRow → List ℕ
orders_answer rows = order_lines_text rows ++ end_text (length rows)

abbrev pub positions_answer : List PositionRow → List ℕ
positions_answer rows = position_lines_text rows ++ end_text (length rows)
