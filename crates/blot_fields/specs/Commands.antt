-- The command that a message gives the book.
use Rattle.std.specs.Prelude.{ℕ, ℤ, pos, ◌+ℤ◌, List, map, Option, Some, None}
use Rattle.blot_time.specs.Moment.{utc_day}
use Rattle.blot_types.specs.declared.{allocation.Line.Line, allocation.Terms.Terms, command.Command.Command, fill.Fill.Fill, keys.AllocKey.AllocKey, keys.ExecKey.ExecKey}
use Rattle.blot_types.specs.declared.command.Command.TheVariants as commands
use Rattle.blot_fields.specs.declared.{allocation.Allocation.Allocation, allocation.AllocationLine.AllocationLine, allocation.AllocationTerms.AllocationTerms, message.Body.Body, message.Message.Message, report.Execution.Execution, report.OrderSize.OrderSize, report.Report.Report}
use Rattle.blot_fields.specs.declared.allocation.Allocation.TheVariants as allocations
use Rattle.blot_fields.specs.declared.message.Body.TheVariants as bodies
use Rattle.blot_fields.specs.declared.report.OrderSize.TheVariants.{Given, Filled}
use Rattle.blot_fields.specs.declared.report.Report.TheVariants as reports

-- the size of an order: OrderQty, or else CumQty and LeavesQty together
abbrev pub size_of : OrderSize → ℤ
size_of (Given qty) = pos qty
size_of (Filled cum leaves) = pos cum +ℤ pos leaves

-- the day of an execution: TradeDate, else the UTC day of TransactTime, else that of SendingTime
abbrev pub day_of_execution : Option ℤ → Option ℤ → ℤ → ℤ
day_of_execution (Some trade_date) transacted sending = trade_date
day_of_execution None (Some moment) sending = utc_day moment
day_of_execution None None sending = utc_day sending

-- what an execution brings to its order
abbrev pub fill_of : List ℕ → ℤ → Execution → Fill
fill_of peer sending execution = record {
  order = record { peer = peer; id = execution.order };
  account = execution.account;
  symbol = execution.symbol;
  sign = execution.sign;
  size = size_of execution.size;
  qty = execution.qty;
  price = execution.price;
  day = day_of_execution execution.trade_date execution.transacted sending;
}

-- the key of a peer's execution
abbrev pub exec_of : List ℕ → List ℕ → ExecKey
exec_of peer id = record { peer = peer; id = id }

-- the command of a peer's Execution Report: a Trade's key is its ExecID; a Correct and a Bust have a key of
-- their own, their ExecID, and refer to the execution that their ExecRefID names
abbrev pub command_of_report : List ℕ → ℤ → Report → Option Command
command_of_report peer sending (reports.Trade execution) =
    Some (commands.Trade (record { key = exec_of peer execution.id; fill = fill_of peer sending execution }))
command_of_report peer sending (reports.Correct reference execution) =
    Some (commands.Correct (record { key = exec_of peer execution.id; reference = exec_of peer reference; fill = fill_of peer sending execution }))
command_of_report peer sending (reports.Bust id reference) =
    Some (commands.Bust (record { key = exec_of peer id; reference = exec_of peer reference }))
command_of_report peer sending reports.Other = None

-- the key of a peer's allocation
abbrev pub alloc_of : List ℕ → List ℕ → AllocKey
alloc_of peer id = record { peer = peer; id = id }

-- what a line books
abbrev pub line_of : AllocationLine → Line
line_of line = record { account = line.account; qty = line.qty; price = line.price }

-- what an allocation books: its executions are the peer's
abbrev pub terms_of : List ℕ → AllocationTerms → Terms
terms_of peer terms = record {
  symbol = terms.symbol;
  sign = terms.sign;
  day = terms.day;
  block = terms.block;
  execs = map (exec_of peer) terms.executions;
  lines = map line_of terms.lines;
}

-- the command of a peer's Allocation Instruction: its key is its AllocID; it replaces or ends the allocation that its
-- RefAllocID names
abbrev pub command_of_allocation : List ℕ → Allocation → Command
command_of_allocation peer (allocations.New id terms) =
    commands.AllocNew (record { key = alloc_of peer id; terms = terms_of peer terms })
command_of_allocation peer (allocations.Replace id reference terms) =
    commands.AllocReplace (record { key = alloc_of peer id; reference = alloc_of peer reference; terms = terms_of peer terms })
command_of_allocation peer (allocations.Cancel id reference) =
    commands.AllocCancel (record { key = alloc_of peer id; reference = alloc_of peer reference })

-- the command of a peer's message
abbrev pub command_of_body : List ℕ → ℤ → Body → Option Command
command_of_body peer sending (bodies.Report report) = command_of_report peer sending report
command_of_body peer sending (bodies.Allocation allocation) = Some (command_of_allocation peer allocation)
command_of_body peer sending _ = None

-- the command that a peer's message gives the book
abbrev pub command_of : Message → List ℕ → Option Command
command_of message peer = command_of_body peer message.head.sending message.body
