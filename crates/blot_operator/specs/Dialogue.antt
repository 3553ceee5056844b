-- What is told at a desk, one's own or one of many: each line is answered by what the desk replies, and its answer is told before
-- the next line is taken. Source: this project's rule.
use Rattle.std.specs.Prelude.{◌≡◌, ◌↔◌, ℕ, ℤ, Bool, true, false, List, [], ◌∷◌, ◌++◌, length, IsTrue, IfOk, IfSome, OnOk, OnErr, Option, Some, None, option_to_list, Result, Ok, Err, ◌⊎◌, flat_map}
use Rattle.std.specs.Io.KnownBytes.{Appends, Keeps}
use Rattle.std.specs.List.{list_any}
use Rattle.blot_types.specs.declared.{command.Command.TheVariants.Withdraw, command.Entry.Entry, TheConstants.EVENTS_MAX}
use Rattle.blot_types.specs.Legal.{is_book}
use Rattle.blot_desk.specs.declared.{event.Event.Event, event.Event.TheVariants.Submit, event.Reply.Reply, fault.DeskFault.DeskFault, receipt.Receipt.Receipt, question.Found.Found, question.Question.Question}
use Rattle.blot_desk.specs.declared.fault.DeskFault.TheVariants.{Broken, Full, NoMemory, Unsettled}
use Rattle.blot_desk.specs.Desk.{DeskState, newest_entry_of, step_of, recorded_of}
use Rattle.blot_desk.specs.Keeping.{is_ask}
use Rattle.blot_desk.specs.Receipts.{IsOneMore, newest_of}
use Rattle.blot_desk.specs.Makers.{IsFoundBy}
use Rattle.blot_desk.specs.Questions.{IsFound, found_of}
use Rattle.blot_report.specs.Lines.{day_lines_of, order_lines_of, position_lines_of}
use Rattle.blot_console.specs.declared.{answer.Answer.Answer, ask.Ask.Ask, fault.LineFault.LineFault, fault.LineFault.TheVariants.TooLong, open_day.DayAsk.DayAsk, open_day.SessionLine.SessionLine}
use Rattle.blot_console.specs.declared.answer.Answer.TheVariants as answers
use Rattle.blot_console.specs.declared.ask.Ask.TheVariants as asks
use Rattle.blot_console.specs.declared.open_day.DayAsk.TheVariants as day
use Rattle.blot_console.specs.Answers.{answer_text}
use Rattle.blot_console.specs.Parsing.{parsed}
use Rattle.blot_stream.specs.declared.outcome.ReplayFault.{ReplayFault}
use Rattle.blot_stream.specs.declared.outcome.ReplayFault.TheVariants as stopped
use Rattle.blot_stream.specs.Texts.{lines_of}
use Rattle.blot_operator.specs.declared.operated.Declined.{Declined}
use Rattle.blot_operator.specs.declared.operated.Declined.TheVariants.{Desk, Unkept}
use Rattle.blot_operator.specs.Lines.{split_of, kept}
use Rattle.blot_operator.specs.OpenDay.{closes_by, day_ask_by, heard_by}
use Rattle.blot_operator.specs.Operating.{asked_by, with_key}
use Rattle.blot_operator.specs.Seats.{Named}

-- the ways of a desk, as far as an operator sees them
pub record Ways (S : Type 0) : Type 1 where
  -- what is there before an event, the reply to it, and what is there after it
  pub steps : S → Event → Result Reply DeskFault → S → Type 0
  -- the number of the newest entry, if there is one
  pub newest : S → Option ℕ
  -- a list that it may show
  pub shows : S → List Entry → Type 0
  -- what it may find to a question, and who made its rows, where that is told
  pub finds : S → Question → Found → Option (List (List ℕ)) → Type 0
  -- whether the day is open
  pub is_open : Bool
  -- that it keeps the events, each by its line
  pub IsKept : Type 0

-- ---- one line

-- what comes of an event: the desk has a reply to it or a fault, or its line can't be kept, and nothing changes; so it is only where events are
-- kept, and never with one that only asks
abbrev pub Comes : {S : Type 0} → Ways S → S → Event → Result Reply Declined → S → Type 0
Comes ways before event (Ok reply) after = ways.steps before event (Ok reply) after
Comes ways before event (Err (Desk fault)) after = ways.steps before event (Err fault) after
Comes ways before event (Err Unkept) after = ways.IsKept × (is_ask event ≡ false) × (after ≡ before)

-- the answer to an event, by what comes of it: `full` where the desk had no room, a line too long where it can't be kept, and else none
abbrev pub answer_by : Event → Result Reply Declined → Option Answer
answer_by event (Ok reply) = Some (with_key (asked_by event) reply)
answer_by event (Err (Desk Full)) = Some answers.Full
answer_by event (Err (Desk NoMemory)) = None
answer_by event (Err (Desk Broken)) = None
answer_by event (Err (Desk Unsettled)) = None
answer_by event (Err Unkept) = Some (answers.Bad TooLong)

-- why the lines stop at an event, by what comes of it: memory ran out, or the journal can't be written. No event is answered Unsettled
abbrev pub stop_by : Result Reply Declined → Option ReplayFault
stop_by (Ok reply) = None
stop_by (Err (Desk Full)) = None
stop_by (Err (Desk NoMemory)) = Some stopped.NoMemory
stop_by (Err (Desk Broken)) = Some stopped.Journal
stop_by (Err (Desk Unsettled)) = Some stopped.NoMemory
stop_by (Err Unkept) = None

-- an event is submitted, once, and what comes of it is the answer
pub record AnswersEvent {S : Type 0} (ways : Ways S) (before : S) (event : Event) (answer : Answer) (after : S) : Type 0 where
  pub given : Result Reply Declined
  pub comes : Comes ways before event given after
  pub answer_is : answer_by event given ≡ Some answer

-- an event is submitted, and what comes of it stops the lines
pub record Declines {S : Type 0} (ways : Ways S) (before : S) (event : Event) (fault : ReplayFault) (after : S) : Type 0 where
  pub given : Result Reply Declined
  pub comes : Comes ways before event given after
  pub stop_is : stop_by given ≡ Some fault

-- the newest entry is withdrawn; where there is none, nothing is submitted, and that is told
abbrev pub AnswersMine : {S : Type 0} → Ways S → S → Option ℕ → Answer → S → Type 0
AnswersMine ways before (Some newest) answer after = AnswersEvent ways before (Submit (Withdraw newest)) answer after
AnswersMine ways before None answer after = (after ≡ before) × (answer ≡ answers.Nothing)

-- the report of a day is made of a list that may be shown
pub record AnswersReport {S : Type 0} (ways : Ways S) (before : S) (day : ℤ) (answer : Answer) : Type 0 where
  pub list : List Entry
  pub shown : ways.shows before list
  pub answer_is : answer ≡ answers.Report (day_lines_of list day)

-- what was found, with who made its rows where that is told
abbrev pub found_answer : Found → Option (List (List ℕ)) → Answer
found_answer found None = answers.Found found
found_answer found (Some makers) = answers.FoundBy found makers

-- a question is answered by what is found
pub record AnswersQuestion {S : Type 0} (ways : Ways S) (before : S) (question : Question) (answer : Answer) : Type 0 where
  pub found : Found
  pub makers : Option (List (List ℕ))
  pub finds : ways.finds before question found makers
  pub answer_is : answer ≡ found_answer found makers

-- the lines of all orders, or of all positions, are made of a list that may be shown
pub record AnswersOrders {S : Type 0} (ways : Ways S) (before : S) (peer : Option (List ℕ)) (answer : Answer) : Type 0 where
  pub list : List Entry
  pub shown : ways.shows before list
  pub answer_is : answer ≡ answers.Orders (order_lines_of list peer)

pub record AnswersPositions {S : Type 0} (ways : Ways S) (before : S) (account : Option (List ℕ)) (answer : Answer) : Type 0 where
  pub list : List Entry
  pub shown : ways.shows before list
  pub answer_is : answer ≡ answers.Positions (position_lines_of list account)

-- what a line asks, or its fault, is answered: only an event is submitted, and `mine` submits one
abbrev pub AnswersAsk : {S : Type 0} → Ways S → S → Result Ask LineFault → Answer → S → Type 0
AnswersAsk ways before (Ok (asks.Step event)) answer after = AnswersEvent ways before event answer after
AnswersAsk ways before (Ok (asks.Report day)) answer after = (after ≡ before) × AnswersReport ways before day answer
AnswersAsk ways before (Ok asks.Mine) answer after = AnswersMine ways before (ways.newest before) answer after
AnswersAsk ways before (Ok (asks.Look question)) answer after = (after ≡ before) × AnswersQuestion ways before question answer
AnswersAsk ways before (Ok (asks.Orders peer)) answer after = (after ≡ before) × AnswersOrders ways before peer answer
AnswersAsk ways before (Ok (asks.Positions account)) answer after = (after ≡ before) × AnswersPositions ways before account answer
AnswersAsk ways before (Err fault) answer after = (after ≡ before) × (answer ≡ answers.Bad fault)

-- what a line asks of an open day, or its fault, is answered; which sessions are told isn't said
abbrev pub AnswersDay : Result DayAsk LineFault → Answer → Type 0
AnswersDay (Ok day.Close) answer = answer ≡ answers.Closed
AnswersDay (Ok day.Sessions) answer = (sessions : List SessionLine) × (answer ≡ answers.Sessions sessions)
AnswersDay (Err fault) answer = answer ≡ answers.Bad fault

-- a day answers the lines that only an open day knows, and no other
abbrev pub IsByDay : Option (Result DayAsk LineFault) → Option Answer → Type 0
IsByDay (Some asked) (Some answer) = AnswersDay asked answer
IsByDay None None = Unit {0}
IsByDay _ _ = ⊥

-- a line that only an open day knows is answered by the day, and submits nothing; every other line asks the desk
abbrev pub AnswersBy : {S : Type 0} → Ways S → S → Option (Result DayAsk LineFault) → List ℕ → Answer → S → Type 0
AnswersBy ways before (Some asked) line answer after = (after ≡ before) × AnswersDay asked answer
AnswersBy ways before None line answer after = AnswersAsk ways before (parsed line) answer after

-- a line is answered
pub record AnswersLine {S : Type 0} (ways : Ways S) (before : S) (line : List ℕ) (answer : Answer) (after : S) : Type 0 where
  pub ask : AnswersBy ways before (day_ask_by ways.is_open line) line answer after

-- and the answer is written
pub record TellsLine {S : Type 0} (ways : Ways S) (before : S) (line : List ℕ) (after : S) (old new : Option (List ℕ)) : Type 0 where
  pub answer : Answer
  pub answered : AnswersLine ways before line answer after
  pub written : Appends old new (answer_text answer)

-- or a front of it is
pub record TellsFront {S : Type 0} (ways : Ways S) (before : S) (line : List ℕ) (after : S) (old new : Option (List ℕ)) : Type 0 where
  pub answer : Answer
  pub answered : AnswersLine ways before line answer after
  pub front : List ℕ
  pub back : List ℕ
  pub text_is : front ++ back ≡ answer_text answer
  pub written : Appends old new front

-- the lines stop: no more line is taken, or this one is taken
abbrev pub Stops : {S : Type 0} → Ways S → S → Option (List ℕ) → S → Option (List ℕ) → Option (List ℕ) → Type 0
Stops ways before None after old new = (after ≡ before) × Keeps old new
Stops ways before (Some line) after old new = TellsFront ways before line after old new

-- they stop at a line, which is taken or isn't
abbrev pub StopsAtLine : {S : Type 0} → Ways S → S → List ℕ → S → Option (List ℕ) → Option (List ℕ) → Type 0
StopsAtLine ways before line after old new = Stops ways before None after old new ⊎ Stops ways before (Some line) after old new

-- ---- lines in their order

-- each is answered, by one answer
abbrev pub AnswersLines : {S : Type 0} → Ways S → S → List (List ℕ) → List Answer → S → Type 0
AnswersLines {S = S} ways before [] [] after = after ≡ before
AnswersLines {S = S} ways before (line ∷ lines) (answer ∷ later) after = (between : S) × AnswersLine ways before line answer between × AnswersLines ways between lines later after
AnswersLines {S = S} ways before _ _ after = ⊥

-- and the answers are written
pub record TellsLines {S : Type 0} (ways : Ways S) (before : S) (lines : List (List ℕ)) (after : S) (old new : Option (List ℕ)) : Type 0 where
  pub told : List Answer
  pub answered : AnswersLines ways before lines told after
  pub written : Appends old new (flat_map answer_text told)

-- the lines stop among these: so many are told, none of which closes the day, and at most one more is taken
pub record StopsAmong {S : Type 0} (ways : Ways S) (before : S) (lines : List (List ℕ)) (after : S) (old new : Option (List ℕ)) : Type 0 where
  pub front : List (List ℕ)
  pub taken : Option (List ℕ)
  pub left : List (List ℕ)
  pub lines_are : front ++ (option_to_list taken ++ left) ≡ lines
  pub none_closes : list_any (closes_by ways.is_open) front ≡ false
  pub between : S
  pub written : Option (List ℕ)
  pub told : TellsLines ways before front between old written
  pub stops : Stops ways between taken after written new

-- the bytes of an input that came: each line that they end is told, none of them closes the day, and what they begin is kept
pub record HasTold {S : Type 0} (ways : Ways S) (before : S) (bytes line : List ℕ) (after : S) (old new : Option (List ℕ)) : Type 0 where
  pub told : TellsLines ways before (split_of bytes).ended after old new
  pub none_closes : list_any (closes_by ways.is_open) (split_of bytes).ended ≡ false
  pub line_is : line ≡ kept (split_of bytes).begun

-- a piece of an input comes: whatever came before it, each line is told, and what begins is kept
abbrev pub TellsOn : {S : Type 0} → Ways S → List ℕ → List ℕ → S → Option (List ℕ) → List ℕ → S → Option (List ℕ) → Type 0
TellsOn {S = S} ways piece line state old line_after state_after new = (start : S) (bytes : List ℕ) (before : Option (List ℕ))
    → HasTold ways start bytes line state before old → HasTold ways start (bytes ++ piece) line_after state_after before new

-- a line closes the day: those that are heard are told, it among them
pub record Closes {S : Type 0} (ways : Ways S) (before : S) (lines : List (List ℕ)) (after : S) (old new : Option (List ℕ)) : Type 0 where
  pub told : TellsLines ways before (heard_by ways.is_open lines) after old new
  pub closed : list_any (closes_by ways.is_open) lines ≡ true

-- or a line of the piece closes the day, whatever comes after it
abbrev pub ClosesOn : {S : Type 0} → Ways S → List ℕ → List ℕ → S → Option (List ℕ) → S → Option (List ℕ) → Type 0
ClosesOn {S = S} ways piece line state old state_after new = (start : S) (bytes more : List ℕ) (before : Option (List ℕ))
    → HasTold ways start bytes line state before old → Closes ways start (lines_of ((bytes ++ piece) ++ more)) state_after before new

-- what comes of a piece, by whether the day is closed then
abbrev pub ComesOn : {S : Type 0} → Bool → Ways S → List ℕ → List ℕ → S → Option (List ℕ) → List ℕ → S → Option (List ℕ) → Type 0
ComesOn false ways piece line state old line_after state_after new = TellsOn ways piece line state old line_after state_after new
ComesOn true ways piece line state old line_after state_after new = ClosesOn ways piece line state old state_after new

-- or the lines stop, whatever comes after it
abbrev pub StopsOn : {S : Type 0} → Ways S → List ℕ → List ℕ → S → Option (List ℕ) → S → Option (List ℕ) → Type 0
StopsOn {S = S} ways piece line state old state_after new = (start : S) (bytes more : List ℕ) (before : Option (List ℕ))
    → HasTold ways start bytes line state before old → StopsAmong ways start (lines_of ((bytes ++ piece) ++ more)) state_after before new

-- an input ends: whatever came before, its lines are told, with the one that has begun; or they stop
abbrev pub TellsLast : {S : Type 0} → Ways S → List ℕ → S → Option (List ℕ) → S → Option (List ℕ) → Type 0
TellsLast {S = S} ways line state old state_after new = (start : S) (bytes : List ℕ) (before : Option (List ℕ))
    → HasTold ways start bytes line state before old → TellsLines ways start (heard_by ways.is_open (lines_of bytes)) state_after before new

abbrev pub StopsLast : {S : Type 0} → Ways S → List ℕ → S → Option (List ℕ) → S → Option (List ℕ) → Type 0
StopsLast {S = S} ways line state old state_after new = (start : S) (bytes : List ℕ) (before : Option (List ℕ))
    → HasTold ways start bytes line state before old → StopsAmong ways start (lines_of bytes) state_after before new

-- the lines of an input are told, or those that are heard are, or they stop, where its bytes are known
abbrev pub TellsOf : {S : Type 0} → Ways S → S → Option (List ℕ) → S → Option (List ℕ) → Option (List ℕ) → Type 0
TellsOf ways before known after old new = IfSome known (λ bytes. TellsLines ways before (lines_of bytes) after old new)

abbrev pub HeardOf : {S : Type 0} → Ways S → S → Option (List ℕ) → S → Option (List ℕ) → Option (List ℕ) → Type 0
HeardOf ways before known after old new = IfSome known (λ bytes. TellsLines ways before (heard_by ways.is_open (lines_of bytes)) after old new)

abbrev pub StopsOf : {S : Type 0} → Ways S → S → Option (List ℕ) → S → Option (List ℕ) → Option (List ℕ) → Type 0
StopsOf ways before known after old new = IfSome known (λ bytes. StopsAmong ways before (lines_of bytes) after old new)

-- ---- kinds of desk

-- an event at a desk of one's own
pub record OwnStep (before : DeskState) (event : Event) (given : Result Reply DeskFault) (after : DeskState) : Type 0 where
  pub reply : IfOk given (λ reply. reply ≡ (step_of before.book event).reply)
  pub taken : OnOk given (after ≡ recorded_of before event)
  pub full : (given ≡ Err Full) ↔ (length before.history ≡ EVENTS_MAX)
  pub err : OnErr given (after ≡ before)

-- it shows its live list
abbrev pub OwnList : DeskState → List Entry → Type 0
OwnList desk list = list ≡ desk.book.list

-- its ways
abbrev pub own_ways : Ways DeskState
own_ways = record {
  steps = OwnStep;
  newest = λ desk. newest_entry_of desk.book.list;
  shows = OwnList;
  finds = λ desk question found makers. (found ≡ found_of desk question) × (makers ≡ None);
  is_open = false;
  IsKept = ⊥;
}

-- an event of a seat at a desk of many: a reply adds the receipt of it, and a fault none
pub record SeatStep (before : List Receipt) (event : Event) (given : Result Reply DeskFault) (after : List Receipt) : Type 0 where
  pub receipt : IfOk given (λ reply. IsOneMore before after event reply)
  pub err : OnErr given (after ≡ before)

-- it may show any legal list: that of the moment, which others change
abbrev pub SeatList : List Receipt → List Entry → Type 0
SeatList receipts list = IsTrue (is_book list)

-- to a question it may find what a desk held after some events, that of the moment, which others change; and who made what is told
abbrev pub FindsBy : Question → Found → Option (List (List ℕ)) → Type 0
FindsBy question found None = IsFound question found
FindsBy question found (Some makers) = IsFoundBy question found makers

-- the ways of a seat
abbrev pub seat_ways : Ways (List Receipt)
seat_ways = record {
  steps = SeatStep;
  newest = newest_of;
  shows = SeatList;
  finds = λ receipts question found makers. IsFound question found × (makers ≡ None);
  is_open = false;
  IsKept = ⊥;
}

-- an event of an operator's seat, which stays the same operator's
pub record NamedStep (before : Named) (event : Event) (given : Result Reply DeskFault) (after : Named) : Type 0 where
  pub step : SeatStep before.receipts event given after.receipts
  pub same_name : after.name ≡ before.name

-- the ways of an operator's seat on an open day, by whether its events are kept
abbrev pub open_ways : Type 0 → Ways Named
open_ways IsKept = record {
  steps = NamedStep;
  newest = λ seat. newest_of seat.receipts;
  shows = λ seat. SeatList seat.receipts;
  finds = λ seat. FindsBy;
  is_open = true;
  IsKept = IsKept;
}
