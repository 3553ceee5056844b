-- What is told at a desk of one's own is what the desk's definition says.
use Rattle.std.proofs.Common.{◌≡◌, ◌≢◌, ℕ, List, [], ◌∷◌, ◌++◌, length, Option, Some, None, Result, Ok, Err, refl, sym, ap, ◌∙◌, subst, inl, inr, ◌==◌, fold, option_to_list, flat_map, eqb-true, eq-eqb, append_assoc, append-nil}
use Rattle.std.specs.Io.KnownBytes.{Appends}
use Rattle.std.proofs.KnownBytes.{Appends-trans, Appends-kept}
use Rattle.std.proofs.lemmas.Bool.{cases_Bool}
use Rattle.std.proofs.lemmas.List.Sums.{fold-append}
use Rattle.blot_types.specs.declared.{command.Command.TheVariants.Withdraw, TheConstants.EVENTS_MAX}
use Rattle.blot_desk.specs.declared.{event.Event.Event, event.Event.TheVariants.Submit, event.Reply.Reply}
use Rattle.blot_desk.specs.declared.fault.DeskFault.TheVariants.{Full, NoMemory, Broken, Unsettled}
use Rattle.blot_desk.specs.Desk.{DeskState, newest_entry_of, step_of, recorded_of}
use Rattle.blot_console.specs.declared.{answer.Answer.Answer, ask.Ask.Ask, fault.LineFault.LineFault}
use Rattle.blot_console.specs.declared.answer.Answer.TheVariants as answers
use Rattle.blot_console.specs.declared.ask.Ask.TheVariants as asks
use Rattle.blot_console.specs.Answers.{answer_text}
use Rattle.blot_console.specs.Parsing.{parsed}
use Rattle.blot_operator.specs.declared.operated.Declined.{Declined}
use Rattle.blot_operator.specs.declared.operated.Declined.TheVariants.{Desk, Unkept}
use Rattle.blot_operator.specs.Dialogue.{answer_by, AnswersMine, Comes, AnswersAsk, AnswersLine, AnswersLines, TellsLines, Stops, StopsAmong, own_ways}
use Rattle.blot_operator.specs.Operating.{asked_by, with_key, telling, told_event, told_mine, told_ask, answer_to, told_on, told_over, StoppedIn}

-- an event that is recorded is told by its reply
told-recorded : (old new : DeskState) (event : Event) (reply : Reply) → length old.history ≢ EVENTS_MAX
    → reply ≡ (step_of old.book event).reply → new ≡ recorded_of old event
    → telling new (with_key (asked_by event) reply) ≡ told_event old event
told-recorded old new event reply room is recorded = elim (cases_Bool (length old.history == EVENTS_MAX)) [
  | inl full ↦ absurd (room (eqb-true (length old.history) EVENTS_MAX full))
  | inr fits ↦ rw (fits, is, recorded) refl
]

-- and one for which there is no room is told so
told-full : (old new : DeskState) (event : Event) → length old.history ≡ EVENTS_MAX → new ≡ old → telling new answers.Full ≡ told_event old event
told-full old new event full same = rw (eq-eqb (length old.history) EVENTS_MAX full, same) refl

own-event : (old new : DeskState) (event : Event) (answer : Answer) (given : Result Reply Declined)
    → Comes own_ways old event given new → answer_by event given ≡ Some answer → telling new answer ≡ told_event old event
own-event old new event answer (Ok reply) step is =
    let same : with_key (asked_by event) reply ≡ answer = cc in
    ap (telling new) (sym same) ∙ told-recorded old new event reply (λ full. let stopped = step.full.1 full in cc) step.reply step.taken
own-event old new event answer (Err (Desk Full)) step is =
    let same : answers.Full ≡ answer = cc in
    ap (telling new) (sym same) ∙ told-full old new event (step.full.0 refl) step.err
own-event old new event answer (Err (Desk NoMemory)) step is = cc
own-event old new event answer (Err (Desk Broken)) step is = cc
own-event old new event answer (Err (Desk Unsettled)) step is = cc
own-event old new event answer (Err Unkept) step is = absurd step.0

own-mine : (old new : DeskState) (newest : Option ℕ) (answer : Answer) → AnswersMine own_ways old newest answer new → telling new answer ≡ told_mine old newest
own-mine old new (Some newest) answer answered = own-event old new (Submit (Withdraw newest)) answer answered.given answered.comes answered.answer_is
own-mine old new None answer answered = rw (answered.0, answered.1) refl

own-ask : (old new : DeskState) (ask : Result Ask LineFault) (answer : Answer) → AnswersAsk own_ways old ask answer new → telling new answer ≡ told_ask old ask
own-ask old new (Ok (asks.Step event)) answer answered = own-event old new event answer answered.given answered.comes answered.answer_is
own-ask old new (Ok (asks.Report day)) answer answered = rw (answered.0, answered.1.answer_is, answered.1.shown) refl
own-ask old new (Ok asks.Mine) answer answered = own-mine old new (newest_entry_of old.book.list) answer answered
own-ask old new (Ok (asks.Look question)) answer answered =
    rw (answered.0, answered.1.answer_is, answered.1.finds.0, answered.1.finds.1) refl
own-ask old new (Ok (asks.Orders peer)) answer answered = rw (answered.0, answered.1.answer_is, answered.1.shown) refl
own-ask old new (Ok (asks.Positions account)) answer answered = rw (answered.0, answered.1.answer_is, answered.1.shown) refl
own-ask old new (Err fault) answer answered = rw (answered.0, answered.1) refl

own-line : (old new : DeskState) (line : List ℕ) (answer : Answer) → AnswersLine own_ways old line answer new → telling new answer ≡ answer_to old line
unfolding answer_to
own-line old new line answer answered = own-ask old new (parsed line) answer answered.ask

-- lines, after some text
own-lines : (old new : DeskState) (lines : List (List ℕ)) (told : List Answer) (text : List ℕ) → AnswersLines own_ways old lines told new
    → fold told_on (record { desk = old; text = text }) lines ≡ record { desk = new; text = text ++ flat_map answer_text told }
own-lines old new [] [] text same = rw (same, append-nil text) refl
own-lines old new (line ∷ lines) (answer ∷ told) text so =
    ap (λ one. fold told_on (record { desk = one.desk; text = text ++ one.text }) lines) (sym (own-line old so.0 line answer so.1))
    ∙ own-lines so.0 new lines told (text ++ answer_text answer) so.2
    ∙ ap (λ text. record { desk = new; text = text }) (append_assoc text (answer_text answer) (flat_map answer_text told))
own-lines old new [] (answer ∷ told) text so = absurd so
own-lines old new (line ∷ lines) [] text so = absurd so

pub own-told : (old new : DeskState) (lines : List (List ℕ)) (before after : Option (List ℕ)) → TellsLines own_ways old lines new before after
    → (new ≡ (told_over old lines).desk) × Appends before after (told_over old lines).text
own-told old new lines before after tells =
    let is = own-lines old new lines tells.told [] tells.answered in (
      sym (ap (λ told. told.desk) is),
      subst (Appends before after) (sym (ap (λ told. told.text) is)) tells.written,
    )

-- one more line
told_over-line : (start : DeskState) (lines : List (List ℕ)) (line : List ℕ) → told_over start (lines ++ line ∷ []) ≡ told_on (told_over start lines) line
told_over-line start lines line = fold-append told_on (record { desk = start; text = [] }) lines (line ∷ [])

own-more : (start between new : DeskState) (lines : List (List ℕ)) (line : List ℕ) (answer : Answer) → between ≡ (told_over start lines).desk
    → AnswersLine own_ways between line answer new
    → told_over start (lines ++ line ∷ []) ≡ record { desk = new; text = (told_over start lines).text ++ answer_text answer }
own-more start between new lines line answer held answered =
    told_over-line start lines line
    ∙ ap (λ desk. record { desk = (answer_to desk line).desk; text = (told_over start lines).text ++ (answer_to desk line).text }) (sym held)
    ∙ ap (λ one. record { desk = one.desk; text = (told_over start lines).text ++ one.text }) (sym (own-line between new line answer answered))

stopped-by : (start between new : DeskState) (lines front : List (List ℕ)) (taken : Option (List ℕ)) (left : List (List ℕ)) (before mid after : Option (List ℕ))
    → front ++ (option_to_list taken ++ left) ≡ lines → TellsLines own_ways start front between before mid
    → Stops own_ways between taken new mid after → StoppedIn start lines new before after
stopped-by start between new lines front None left before mid after lines_are tells stops =
    let told = own-told start between front before mid tells in
    let text = (told_over start front).text in
    record {
      answered = front;
      taken = None;
      left = left;
      lines_are = lines_are;
      desk = stops.0 ∙ told.0 ∙ ap (λ lines. (told_over start lines).desk) (sym (append-nil front));
      front = [];
      back = [];
      written = subst (Appends before after) (sym (append-nil text)) (Appends-kept before mid after _ told.1 stops.1);
      told = append-nil (text ++ []) ∙ append-nil text ∙ ap (λ lines. (told_over start lines).text) (sym (append-nil front));
    }
stopped-by start between new lines front (Some line) left before mid after lines_are tells stops =
    let told = own-told start between front before mid tells in
    let text = (told_over start front).text in
    let more = sym (own-more start between new front line stops.answer told.0 stops.answered) in
    record {
      answered = front;
      taken = Some line;
      left = left;
      lines_are = lines_are;
      desk = ap (λ told. told.desk) more;
      front = stops.front;
      back = stops.back;
      written = Appends-trans before mid after _ _ told.1 stops.written;
      told = append_assoc text stops.front stops.back ∙ ap (λ back. text ++ back) stops.text_is ∙ ap (λ told. told.text) more;
    }

pub own-stopped : (start new : DeskState) (lines : List (List ℕ)) (before after : Option (List ℕ)) → StopsAmong own_ways start lines new before after
    → StoppedIn start lines new before after
own-stopped start new lines before after stopped =
    stopped-by start stopped.between new lines stopped.front stopped.taken stopped.left before stopped.written after stopped.lines_are stopped.told stopped.stops
