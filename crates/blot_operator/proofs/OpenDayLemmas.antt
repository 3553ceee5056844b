-- What an open day hears, and what it answers to a line of its own.
use Rattle.std.proofs.Common.{◌≡◌, ℕ, ◌+◌, Bool, true, false, List, [], ◌∷◌, ◌++◌, length, take, Option, Some, None, Result, Ok, Err, refl, sym, ap, ◌∙◌, inl, inr, arith, nat_le, IfSome, codes, leb-true, leb-false, append-nil, take_all, length-take-le}
use Rattle.std.specs.List.{list_any}
use Rattle.std.proofs.lemmas.Bool.{cases_Bool, lt-leb, or_from, or_left, or_parts, or_right}
use Rattle.std.proofs.lemmas.List.Folds.{list_any-append}
use Rattle.blot_types.specs.declared.command.Command.TheVariants.{Withdraw}
use Rattle.blot_desk.specs.declared.{event.Event.Event, event.Event.TheVariants.Submit, event.Reply.Reply, question.Found.Found}
use Rattle.blot_desk.specs.declared.event.Reply.TheVariants as replies
use Rattle.blot_desk.specs.declared.fault.DeskFault.TheVariants.{Full, NoMemory, Broken, Unsettled}
use Rattle.blot_console.specs.declared.{answer.Answer.Answer, ask.Ask.Ask, fault.LineFault.LineFault, fault.LineFault.TheVariants.TooLong, open_day.DayAsk.DayAsk, parsing.TheConstants.LINE_MAX}
use Rattle.blot_console.specs.declared.answer.Answer.TheVariants as answers
use Rattle.blot_console.specs.declared.ask.Ask.TheVariants as asks
use Rattle.blot_console.specs.declared.open_day.DayAsk.TheVariants as day
use Rattle.blot_console.specs.OpenDay.{day_ask_of, day_parsed, day_words}
use Rattle.blot_console.specs.Parsing.{parsed}
use Rattle.blot_stream.specs.Texts.{lines_of}
use Rattle.blot_operator.specs.declared.{answering.Asked.Asked, operated.Declined.Declined}
use Rattle.blot_operator.specs.declared.answering.Asked.TheVariants as asked
use Rattle.blot_operator.specs.declared.operated.Declined.TheVariants.{Desk, Unkept}
use Rattle.blot_operator.specs.Dialogue.{Ways, answer_by, found_answer, AnswersAsk, AnswersBy, AnswersLine, AnswersMine}
use Rattle.blot_operator.specs.Lines.{kept}
use Rattle.blot_operator.specs.OpenDay.{is_close, closes, heard, day_ask_by, closes_by, heard_by, is_closed, EndsOf}
use Rattle.blot_operator.specs.Operating.{asked_by, with_key}

-- lines, and those that are heard
hears_up_to_close : heard (codes "redo" ∷ codes "close" ∷ codes "mine" ∷ codes "close" ∷ []) ≡ codes "redo" ∷ codes "close" ∷ []
unfolding day_parsed day_words day_ask_of
hears_up_to_close = refl

hears_behind_a_bad_close : heard (codes "close\tx" ∷ codes "mine" ∷ []) ≡ codes "close\tx" ∷ codes "mine" ∷ []
unfolding day_parsed day_words day_ask_of
hears_behind_a_bad_close = refl

-- ---- which lines are heard

-- lines of which none closes the day, and others behind them
pub heard-append : (is_open : Bool) (front rest : List (List ℕ)) → list_any (closes_by is_open) front ≡ false
    → heard_by is_open (front ++ rest) ≡ front ++ heard_by is_open rest
heard-append false front rest stays = refl
heard-append true [] rest stays = refl
heard-append true (line ∷ front) rest stays =
    let parts = or_parts (closes line) (list_any closes front) stays in
    rw parts.0 (ap (λ lines. line ∷ lines) (heard-append true front rest parts.1))

nothing-heard : (is_open : Bool) → heard_by is_open [] ≡ []
nothing-heard false = refl
nothing-heard true = refl

-- all of them are heard
pub heard-all : (is_open : Bool) (lines : List (List ℕ)) → list_any (closes_by is_open) lines ≡ false → heard_by is_open lines ≡ lines
heard-all is_open lines stays =
    ap (heard_by is_open) (sym (append-nil lines)) ∙ heard-append is_open lines [] stays ∙ ap (λ rest. lines ++ rest) (nothing-heard is_open) ∙ append-nil lines

-- the last line is heard
one-heard : (is_open : Bool) (line : List ℕ) → heard_by is_open (line ∷ []) ≡ line ∷ []
one-heard false line = refl
one-heard true line = elim (cases_Bool (closes line)) [
  | inl closed ↦ rw closed refl
  | inr stays ↦ rw stays refl
]

pub heard-last : (is_open : Bool) (front : List (List ℕ)) (line : List ℕ) → list_any (closes_by is_open) front ≡ false
    → heard_by is_open (front ++ line ∷ []) ≡ front ++ line ∷ []
heard-last is_open front line stays = heard-append is_open front (line ∷ []) stays ∙ ap (λ rest. front ++ rest) (one-heard is_open line)

-- a line that closes the day is the last one
close-heard : (is_open : Bool) (line : List ℕ) (rest : List (List ℕ)) → closes_by is_open line ≡ true → heard_by is_open (line ∷ rest) ≡ line ∷ []
close-heard false line rest closed = absurd cc
close-heard true line rest closed = rw closed refl

pub heard-close : (is_open : Bool) (front : List (List ℕ)) (line : List ℕ) (rest : List (List ℕ)) → list_any (closes_by is_open) front ≡ false
    → closes_by is_open line ≡ true → heard_by is_open (front ++ line ∷ rest) ≡ front ++ line ∷ []
heard-close is_open front line rest stays closed =
    heard-append is_open front (line ∷ rest) stays ∙ ap (λ rest. front ++ rest) (close-heard is_open line rest closed)

-- one more line that doesn't close it, and one that does
pub still-open : (is_open : Bool) (front : List (List ℕ)) (line : List ℕ) → list_any (closes_by is_open) front ≡ false → closes_by is_open line ≡ false
    → list_any (closes_by is_open) (front ++ line ∷ []) ≡ false
still-open is_open front line stays goes_on =
    list_any-append (closes_by is_open) front (line ∷ []) ∙ or_from _ _ stays (or_from (closes_by is_open line) false goes_on refl)

pub closed-in : (is_open : Bool) (front : List (List ℕ)) (line : List ℕ) (rest : List (List ℕ)) → closes_by is_open line ≡ true
    → list_any (closes_by is_open) (front ++ line ∷ rest) ≡ true
closed-in is_open front line rest closed =
    list_any-append (closes_by is_open) front (line ∷ rest) ∙ or_right _ _ (or_left (closes_by is_open line) _ closed)

-- ---- how the lines end

-- only an open day is closed
never-closed : (lines : List (List ℕ)) → list_any (closes_by false) lines ≡ false
never-closed [] = refl
never-closed (line ∷ lines) = never-closed lines

pub open-if-closed : (is_open : Bool) (lines : List (List ℕ)) → list_any (closes_by is_open) lines ≡ true → is_open ≡ true
open-if-closed true lines closed = refl
open-if-closed false lines closed = let stays = never-closed lines in cc

pub ends-closed : (is_open : Bool) (known left : Option (List ℕ)) → is_open ≡ true
    → IfSome known (λ bytes. list_any (closes_by is_open) (lines_of bytes) ≡ true) → EndsOf is_open known left
ends-closed true known left is closed = inr closed
ends-closed false known left is closed = absurd cc

-- ---- what is kept of a line

day_parsed-kept : (line : List ℕ) → day_parsed (kept line) ≡ day_parsed line
unfolding day_parsed kept
day_parsed-kept line = elim (cases_Bool (nat_le (length line) LINE_MAX)) [
  | inl short ↦ ap day_parsed (take_all (LINE_MAX + 1) line (omega (arith, leb-true (length line) LINE_MAX short)))
  | inr long ↦
      let kept_long = lt-leb (length (take (LINE_MAX + 1) line)) LINE_MAX
      (omega (arith, length-take-le (LINE_MAX + 1) line (omega (arith, leb-false (length line) LINE_MAX long)))) in
      rw (long, kept_long) refl
]

pub day_ask-kept : (is_open : Bool) (line : List ℕ) → day_ask_by is_open (kept line) ≡ day_ask_by is_open line
day_ask-kept true line = day_parsed-kept line
day_ask-kept false line = refl

closes-asked : (is_open : Bool) (line : List ℕ) → closes_by is_open line ≡ is_close (day_ask_by is_open line)
closes-asked true line = refl
closes-asked false line = refl

pub closes-kept : (is_open : Bool) (line : List ℕ) → closes_by is_open (kept line) ≡ closes_by is_open line
closes-kept is_open line = closes-asked is_open (kept line) ∙ ap is_close (day_ask-kept is_open line) ∙ sym (closes-asked is_open line)

-- ---- which answer says that the day is closed

key-open : (by : Asked) (reply : Reply) → is_closed (with_key by reply) ≡ false
key-open asked.Nothing reply = refl
key-open (asked.Order order) (replies.Order line) = refl
key-open (asked.Order order) (replies.Accepted number) = refl
key-open (asked.Order order) (replies.Refused refused) = refl
key-open (asked.Order order) (replies.Undone number) = refl
key-open (asked.Order order) (replies.Redone number) = refl
key-open (asked.Order order) (replies.Position line) = refl
key-open (asked.Position account symbol) (replies.Position line) = refl
key-open (asked.Position account symbol) (replies.Accepted number) = refl
key-open (asked.Position account symbol) (replies.Refused refused) = refl
key-open (asked.Position account symbol) (replies.Undone number) = refl
key-open (asked.Position account symbol) (replies.Redone number) = refl
key-open (asked.Position account symbol) (replies.Order line) = refl

event-open : (event : Event) (given : Result Reply Declined) (answer : Answer) → answer_by event given ≡ Some answer → is_closed answer ≡ false
event-open event (Ok reply) answer is =
    let same : with_key (asked_by event) reply ≡ answer = cc in
    ap is_closed (sym same) ∙ key-open (asked_by event) reply
event-open event (Err (Desk Full)) answer is = let same : answers.Full ≡ answer = cc in ap is_closed (sym same)
event-open event (Err (Desk NoMemory)) answer is = absurd cc
event-open event (Err (Desk Broken)) answer is = absurd cc
event-open event (Err (Desk Unsettled)) answer is = absurd cc
event-open event (Err Unkept) answer is = let same : answers.Bad TooLong ≡ answer = cc in ap is_closed (sym same)

mine-open : {S : Type 0} (ways : Ways S) (before : S) (newest : Option ℕ) (answer : Answer) (after : S) → AnswersMine ways before newest answer after → is_closed answer ≡ false
mine-open ways before (Some newest) answer after answered = event-open (Submit (Withdraw newest)) answered.given answer answered.answer_is
mine-open ways before None answer after answered = ap is_closed answered.1

found-open : (found : Found) (makers : Option (List (List ℕ))) → is_closed (found_answer found makers) ≡ false
found-open found None = refl
found-open found (Some makers) = refl

ask-open : {S : Type 0} (ways : Ways S) (before : S) (ask : Result Ask LineFault) (answer : Answer) (after : S) → AnswersAsk ways before ask answer after → is_closed answer ≡ false
ask-open ways before (Ok (asks.Step event)) answer after answered = event-open event answered.given answer answered.answer_is
ask-open ways before (Ok (asks.Report report)) answer after answered = ap is_closed answered.1.answer_is
ask-open ways before (Ok asks.Mine) answer after answered = mine-open ways before (ways.newest before) answer after answered
ask-open ways before (Ok (asks.Look question)) answer after answered = ap is_closed answered.1.answer_is ∙ found-open answered.1.found answered.1.makers
ask-open ways before (Ok (asks.Orders peer)) answer after answered = ap is_closed answered.1.answer_is
ask-open ways before (Ok (asks.Positions account)) answer after answered = ap is_closed answered.1.answer_is
ask-open ways before (Err fault) answer after answered = ap is_closed answered.1

by-closed : {S : Type 0} (ways : Ways S) (before : S) (asks : Option (Result DayAsk LineFault)) (line : List ℕ) (answer : Answer) (after : S)
    → AnswersBy ways before asks line answer after → is_closed answer ≡ is_close asks
by-closed ways before (Some (Ok day.Close)) line answer after answered = ap is_closed answered.1
by-closed ways before (Some (Ok day.Sessions)) line answer after answered = ap is_closed answered.1.1
by-closed ways before (Some (Err fault)) line answer after answered = ap is_closed answered.1
by-closed ways before None line answer after answered = ask-open ways before (parsed line) answer after answered

pub closed-is : {S : Type 0} (ways : Ways S) (before : S) (line : List ℕ) (answer : Answer) (after : S) → AnswersLine ways before line answer after
    → is_closed answer ≡ closes_by ways.is_open line
closed-is ways before line answer after answered =
    by-closed ways before (day_ask_by ways.is_open line) line answer after answered.ask ∙ sym (closes-asked ways.is_open line)
