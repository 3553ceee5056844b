-- What a line asks, or its first fault: it is too long; its first word is unknown; its words are too few or too many; the
-- word at the least place that is bad. Source: this project's rule.
use Rattle.std.specs.Prelude.{ℕ, Bool, true, false, nat_le, List, codes, length, Result, Ok, Err, if◌then◌else◌}
use Rattle.blot_time.specs.Results.{◌>>=◌}
use Rattle.blot_types.specs.Keys.{same_text}
use Rattle.blot_console.specs.declared.{ask.Ask.Ask, fault.LineFault.LineFault, fault.LineFault.TheVariants.NoMemory, fault.Wrong.Wrong, kinds.Kind.Kind, parsing.TheConstants.LINE_MAX}
use Rattle.blot_console.specs.declared.fault.Wrong.TheVariants.{UnknownWord, TooLong}
use Rattle.blot_console.specs.declared.kinds.Kind.TheVariants as kinds
use Rattle.blot_console.specs.Allocate.{allocate_line}
use Rattle.blot_console.specs.Faults.{fault_of}
use Rattle.blot_console.specs.Lines.{undo_line, redo_line, withdraw_line, mine_line, order_line, position_line, report_line}
use Rattle.blot_console.specs.QuestionLines.{allocation_line, entry_line, execution_line, needs_line, orders_line, positions_line, refusals_line, steps_line}
use Rattle.blot_console.specs.Words.{words_of, word_at}

-- the kind of question that a first word names
unfoldable pub question_kind_of : List ℕ → Result Kind Wrong
question_kind_of word =
    if same_text word (codes "entry") then Ok kinds.Entry
    else (if same_text word (codes "execution") then Ok kinds.Execution
    else (if same_text word (codes "allocation") then Ok kinds.Allocation
    else (if same_text word (codes "needs") then Ok kinds.Needs
    else (if same_text word (codes "orders") then Ok kinds.Orders
    else (if same_text word (codes "positions") then Ok kinds.Positions
    else (if same_text word (codes "steps") then Ok kinds.Steps
    else (if same_text word (codes "refusals") then Ok kinds.Refusals
    else Err UnknownWord)))))))

-- the kind of line that a first word names
unfoldable pub kind_of : List ℕ → Result Kind Wrong
kind_of word =
    if same_text word (codes "undo") then Ok kinds.Undo
    else (if same_text word (codes "redo") then Ok kinds.Redo
    else (if same_text word (codes "withdraw") then Ok kinds.Withdraw
    else (if same_text word (codes "mine") then Ok kinds.Mine
    else (if same_text word (codes "order") then Ok kinds.Order
    else (if same_text word (codes "position") then Ok kinds.Position
    else (if same_text word (codes "report") then Ok kinds.Report
    else (if same_text word (codes "allocate") then Ok kinds.Allocate
    else question_kind_of word)))))))

-- a line of a kind
abbrev pub line_by : Kind → List (List ℕ) → Result Ask Wrong
line_by kinds.Undo words = undo_line words
line_by kinds.Redo words = redo_line words
line_by kinds.Withdraw words = withdraw_line words
line_by kinds.Mine words = mine_line words
line_by kinds.Order words = order_line words
line_by kinds.Position words = position_line words
line_by kinds.Report words = report_line words
line_by kinds.Allocate words = allocate_line words
line_by kinds.Entry words = entry_line words
line_by kinds.Execution words = execution_line words
line_by kinds.Allocation words = allocation_line words
line_by kinds.Needs words = needs_line words
line_by kinds.Orders words = orders_line words
line_by kinds.Positions words = positions_line words
line_by kinds.Steps words = steps_line words
line_by kinds.Refusals words = refusals_line words

-- a line of words
unfoldable pub words_line : List (List ℕ) → Result Ask Wrong
words_line words = do
  kind ← kind_of (word_at 0 words)
  line_by kind words

-- a line that isn't too long
unfoldable pub ask_of : List ℕ → Result Ask Wrong
ask_of line = if nat_le (length line) LINE_MAX then words_line (words_of line) else Err TooLong

-- an ask, or a fault as it is told
abbrev pub ask_or_fault : Result Ask Wrong → Result Ask LineFault
ask_or_fault (Ok ask) = Ok ask
ask_or_fault (Err wrong) = Err (fault_of wrong)

-- what a line asks, or its first fault
unfoldable pub parsed : List ℕ → Result Ask LineFault
parsed line = ask_or_fault (ask_of line)

-- whether a fault is that there was no memory
abbrev pub is_no_memory : LineFault → Bool
is_no_memory NoMemory = true
is_no_memory _ = false

-- whether an answer is that there was no memory
abbrev pub is_out_of_memory : Result Ask LineFault → Bool
is_out_of_memory (Ok ask) = false
is_out_of_memory (Err fault) = is_no_memory fault
