-- What is told of lines at a desk of any kind, as the bytes of an input come.
use Rattle.std.proofs.Common.{◌≡◌, ◌≢◌, ℕ, ◌+◌, Bool, true, false, List, [], ◌∷◌, ◌++◌, length, take, Option, Some, None, Result, Ok, Err, refl, sym, ap, ◌∙◌, subst, inl, inr, arith, ◌==◌, nat_le, IfOk, if◌then◌else◌, leb-true, leb-false, append_assoc, append-nil, take_all, length-take-le}
use Rattle.std.specs.Io.KnownBytes.{Appends}
use Rattle.std.specs.List.{list_any}
use Rattle.std.proofs.KnownBytes.{Appends-nil, Appends-trans, Keeps-refl}
use Rattle.std.proofs.lemmas.Bool.{cases_Bool, lt-leb}
use Rattle.std.proofs.lemmas.List.{flat_map_more}
use Rattle.blot_types.specs.declared.refused.Refused.{Refused}
use Rattle.blot_types.specs.Legal.{refusal_of}
use Rattle.blot_desk.specs.declared.{event.Event.Event, event.Reply.Reply}
use Rattle.blot_desk.specs.declared.event.Event.TheVariants.{Submit, Undo, Redo, AskOrder, AskPosition}
use Rattle.blot_desk.specs.Desk.{DeskBook, IsReply, run_of, step_of, submit_by, undo_by, redo_by}
use Rattle.blot_console.specs.declared.{parsing.TheConstants.LINE_MAX, answer.Answer.Answer, fault.LineFault.LineFault, open_day.DayAsk.DayAsk}
use Rattle.blot_console.specs.Answers.{CanBeTold, answer_text}
use Rattle.blot_console.specs.Parsing.{ask_or_fault, parsed, ask_of}
use Rattle.blot_stream.specs.Texts.{lines_of}
use Rattle.blot_operator.specs.declared.answering.Asked.TheVariants as asks
use Rattle.blot_operator.specs.Dialogue.{Ways, AnswersAsk, AnswersBy, AnswersLine, TellsLine, TellsFront, StopsAtLine, AnswersLines, TellsLines, StopsAmong, HasTold, Closes, ComesOn}
use Rattle.blot_operator.specs.Lines.{split_of, kept}
use Rattle.blot_operator.specs.OpenDay.{closes_by, day_ask_by, heard_by}
use Rattle.blot_operator.specs.Operating.{asked_by, with_key}
use Rattle.blot_operator.proofs.LineLemmas.{last_line, onto, lines_of-append, lines_of-ended, lines_of-last, split_of-end, split_of-more, kept-nil, kept-none, kept-byte, lines_of-begun}
use Rattle.blot_operator.proofs.OpenDayLemmas.{heard-all, heard-last, heard-close, still-open, closed-in, day_ask-kept, closes-kept}

-- ---- one line

-- a reply to a question is told with its key, and no other reply needs one
told-with_key : (book : DeskBook) (event : Event) → CanBeTold (with_key (asked_by event) (step_of book event).reply)
told-with_key book (Submit command) = submitted (refusal_of book.list command)
  where
    submitted : (refused : Option Refused) → CanBeTold (with_key asks.Nothing (submit_by book command refused).reply)
    submitted None = tt
    submitted (Some reason) = tt
told-with_key book (Undo newest) = undone _
  where
    undone : (done : Option ℕ) → CanBeTold (with_key asks.Nothing (undo_by book newest done).reply)
    undone None = tt
    undone (Some number) = elim (cases_Bool (number == newest)) [ inl same ↦ rw same tt | inr other ↦ rw other tt ]
told-with_key book Redo = redone _
  where
    redone : (undone : Option ℕ) → CanBeTold (with_key asks.Nothing (redo_by book undone).reply)
    redone None = tt
    redone (Some number) = tt
told-with_key book (AskOrder order) = tt
told-with_key book (AskPosition account symbol) = tt

pub tellable-at : {E : Type 0} (book : DeskBook) (event : Event) (given : Result Reply E) → IfOk given (λ reply. reply ≡ (step_of book event).reply)
    → IfOk given (λ reply. CanBeTold (with_key (asked_by event) reply))
tellable-at book event (Ok reply) is = subst (λ reply. CanBeTold (with_key (asked_by event) reply)) (sym is) (told-with_key book event)
tellable-at book event (Err fault) is = tt

pub tellable-reply : {E : Type 0} (event : Event) (given : Result Reply E) → IfOk given (λ reply. IsReply event reply)
    → IfOk given (λ reply. CanBeTold (with_key (asked_by event) reply))
tellable-reply {E = E} event (Ok reply) is = tellable-at {E = E} (run_of is.earlier).book event (Ok reply) is.reply_is
tellable-reply event (Err fault) is = tt

-- what is kept of a line asks what the line asks: where less is kept, both are too long
ask_of-kept : (line : List ℕ) → ask_of (kept line) ≡ ask_of line
unfolding ask_of kept
ask_of-kept line = elim (cases_Bool (nat_le (length line) LINE_MAX)) [
  | inl short ↦ ap ask_of (take_all (LINE_MAX + 1) line (omega (arith, leb-true (length line) LINE_MAX short)))
  | inr long ↦
      let kept_long = lt-leb (length (take (LINE_MAX + 1) line)) LINE_MAX
      (omega (arith, length-take-le (LINE_MAX + 1) line (omega (arith, leb-false (length line) LINE_MAX long)))) in
      rw (long, kept_long) refl
]

parsed-kept : (line : List ℕ) → parsed (kept line) ≡ parsed line
unfolding parsed
parsed-kept line = ap ask_or_fault (ask_of-kept line)

by-kept : {S : Type 0} (ways : Ways S) (before : S) (asked : Option (Result DayAsk LineFault)) (line : List ℕ) (answer : Answer) (after : S)
    → AnswersBy ways before asked (kept line) answer after → AnswersBy ways before asked line answer after
by-kept ways before (Some asked) line answer after answered = answered
by-kept ways before None line answer after answered = subst (λ ask. AnswersAsk ways before ask answer after) (parsed-kept line) answered

module _ {S : Type 0} {ways : Ways S} where
  answers-kept : (before : S) (line : List ℕ) (answer : Answer) (after : S)
      → AnswersLine ways before (kept line) answer after → AnswersLine ways before line answer after
  answers-kept before line answer after answered =
      record {
        ask = by-kept ways before (day_ask_by ways.is_open line) line answer after
            (subst (λ asked. AnswersBy ways before asked (kept line) answer after) (day_ask-kept ways.is_open line) answered.ask);
      }

  tells-kept : (before : S) (line : List ℕ) (after : S) (old new : Option (List ℕ))
      → TellsLine ways before (kept line) after old new → TellsLine ways before line after old new
  tells-kept before line after old new tells =
      record { answer = tells.answer; answered = answers-kept before line tells.answer after tells.answered; written = tells.written }

  front-kept : (before : S) (line : List ℕ) (after : S) (old new : Option (List ℕ))
      → TellsFront ways before (kept line) after old new → TellsFront ways before line after old new
  front-kept before line after old new tells =
      record {
        answer = tells.answer;
        answered = answers-kept before line tells.answer after tells.answered;
        front = tells.front;
        back = tells.back;
        text_is = tells.text_is;
        written = tells.written;
      }

  -- ---- lines in their order

  answers-line : (start : S) (lines : List (List ℕ)) (said : List Answer) (between : S) (line : List ℕ) (answer : Answer) (after : S)
      → AnswersLines ways start lines said between → AnswersLine ways between line answer after
      → AnswersLines ways start (lines ++ line ∷ []) (said ++ answer ∷ []) after
  answers-line start [] [] between line answer after same answered =
      (after, subst (λ before. AnswersLine ways before line answer after) same answered, refl)
  answers-line start (first ∷ lines) (one ∷ said) between line answer after so answered =
      (so.0, so.1, answers-line so.0 lines said between line answer after so.2 answered)
  answers-line start [] (one ∷ said) between line answer after so answered = absurd so
  answers-line start (first ∷ lines) [] between line answer after so answered = absurd so

  -- nothing is told yet
  tells-none : (start : S) (contents : Option (List ℕ)) → TellsLines ways start [] start contents contents
  tells-none start contents = record { told = []; answered = refl; written = Appends-nil contents }

  -- one more line
  tells-line : (start : S) (lines : List (List ℕ)) (between : S) (line : List ℕ) (after : S) (old mid new : Option (List ℕ))
      → TellsLines ways start lines between old mid → TellsLine ways between line after mid new
      → TellsLines ways start (lines ++ line ∷ []) after old new
  tells-line start lines between line after old mid new told tells =
      record {
        told = told.told ++ tells.answer ∷ [];
        answered = answers-line start lines told.told between line tells.answer after told.answered tells.answered;
        written = subst (Appends old new) (flat_map_more answer_text [] told.told tells.answer) (Appends-trans old mid new _ _ told.written tells.written);
      }

  -- ---- the bytes that came

  -- nothing has come yet
  pub HasTold-init : (start : S) (line : List ℕ) (contents : Option (List ℕ)) → line ≡ [] → HasTold ways start [] line start contents contents
  HasTold-init start line contents none = record { told = tells-none start contents; none_closes = refl; line_is = none ∙ sym kept-nil }

  -- a byte that doesn't end the line
  pub HasTold-more : (start : S) (bytes old new : List ℕ) (byte : ℕ) (held : S) (before after : Option (List ℕ)) → byte ≢ 10
      → new ≡ (if nat_le (length old) LINE_MAX then old ++ byte ∷ [] else old)
      → HasTold ways start bytes old held before after → HasTold ways start (bytes ++ byte ∷ []) new held before after
  HasTold-more start bytes old new byte held before after other is has =
      let split = sym (split_of-more bytes byte other) in
      record {
        told = subst (λ split. TellsLines ways start split.ended held before after) split has.told;
        none_closes = subst (λ split. list_any (closes_by ways.is_open) split.ended ≡ false) split has.none_closes;
        line_is = subst (λ split. new ≡ kept split.begun) split
            (is ∙ ap (λ line. if nat_le (length line) LINE_MAX then line ++ byte ∷ [] else line) has.line_is ∙ kept-byte (split_of bytes).begun byte);
      }

  -- the lines that have ended, and the one that has begun
  HasTold-line : (start : S) (bytes line : List ℕ) (held new : S) (before mid after : Option (List ℕ))
      → HasTold ways start bytes line held before mid → TellsLine ways held line new mid after
      → TellsLines ways start ((split_of bytes).ended ++ (split_of bytes).begun ∷ []) new before after
  HasTold-line start bytes line held new before mid after has tells =
      tells-line start (split_of bytes).ended held (split_of bytes).begun new before mid after has.told
      (tells-kept held (split_of bytes).begun new mid after (subst (λ line. TellsLine ways held line new mid after) has.line_is tells))

  -- whether what is kept of a line closes the day says whether the line does
  begun-closes : (start : S) (bytes line : List ℕ) (held : S) (before mid : Option (List ℕ)) (closed : Bool)
      → HasTold ways start bytes line held before mid → closed ≡ closes_by ways.is_open line → closes_by ways.is_open (split_of bytes).begun ≡ closed
  begun-closes start bytes line held before mid closed has is =
      sym (is ∙ ap (closes_by ways.is_open) has.line_is ∙ closes-kept ways.is_open (split_of bytes).begun)

  -- LF ends the line
  HasTold-end : (start : S) (bytes line cleared : List ℕ) (held new : S) (before mid after : Option (List ℕ))
      → HasTold ways start bytes line held before mid → TellsLine ways held line new mid after → false ≡ closes_by ways.is_open line
      → cleared ≡ [] → HasTold ways start (bytes ++ 10 ∷ []) cleared new before after
  HasTold-end start bytes line cleared held new before mid after has tells goes_on none =
      let split = sym (split_of-end bytes) in
      record {
        told = subst (λ split. TellsLines ways start split.ended new before after) split (HasTold-line start bytes line held new before mid after has tells);
        none_closes = subst (λ split. list_any (closes_by ways.is_open) split.ended ≡ false) split
            (still-open ways.is_open (split_of bytes).ended (split_of bytes).begun has.none_closes (begun-closes start bytes line held before mid false has goes_on));
        line_is = subst (λ split. cleared ≡ kept split.begun) split (none ∙ sym kept-nil);
      }

  -- and closes the day, or doesn't
  closes-at : (start : S) (bytes more line : List ℕ) (held new : S) (before mid after : Option (List ℕ))
      → HasTold ways start bytes line held before mid → TellsLine ways held line new mid after → true ≡ closes_by ways.is_open line
      → Closes ways start (lines_of (bytes ++ 10 ∷ more)) new before after
  closes-at start bytes more line held new before mid after has tells is =
      let ended = (split_of bytes).ended in
      let begun = (split_of bytes).begun in
      let closed = begun-closes start bytes line held before mid true has is in
      subst (λ lines. Closes ways start lines new before after) (sym (lines_of-ended bytes more)) (record {
        told = subst (λ lines. TellsLines ways start lines new before after) (sym (heard-close ways.is_open ended begun (lines_of more) has.none_closes closed))
            (HasTold-line start bytes line held new before mid after has tells);
        closed = closed-in ways.is_open ended begun (lines_of more) closed;
      })

  pub comes-end : (closed : Bool) (line cleared : List ℕ) (held new : S) (mid after : Option (List ℕ))
      → TellsLine ways held line new mid after → closed ≡ closes_by ways.is_open line → cleared ≡ []
      → ComesOn closed ways (10 ∷ []) line held mid cleared new after
  comes-end false line cleared held new mid after tells is none = λ start bytes before has.
      HasTold-end start bytes line cleared held new before mid after has tells is none
  comes-end true line cleared held new mid after tells is none = λ start bytes more before has.
      subst (λ all. Closes ways start (lines_of all) new before after) (sym (append_assoc bytes (10 ∷ []) more))
      (closes-at start bytes more line held new before mid after has tells is)

  -- the input ends, and the line that has begun with it
  pub HasTold-last : (start : S) (bytes line : List ℕ) (held new : S) (before mid after : Option (List ℕ)) → line ≢ []
      → HasTold ways start bytes line held before mid → TellsLine ways held line new mid after
      → TellsLines ways start (heard_by ways.is_open (lines_of bytes)) new before after
  HasTold-last start bytes line held new before mid after some has tells =
      subst (λ lines. TellsLines ways start lines new before after)
      (sym (ap (heard_by ways.is_open) (lines_of-begun bytes line some has.line_is) ∙ heard-last ways.is_open (split_of bytes).ended (split_of bytes).begun has.none_closes))
      (HasTold-line start bytes line held new before mid after has tells)

  -- the input ends, and no line has begun
  pub HasTold-done : (start : S) (bytes line : List ℕ) (held : S) (before after : Option (List ℕ)) → line ≡ []
      → HasTold ways start bytes line held before after → TellsLines ways start (heard_by ways.is_open (lines_of bytes)) held before after
  HasTold-done start bytes line held before after none has =
      let nothing : (split_of bytes).begun ≡ [] = kept-none (split_of bytes).begun (sym has.line_is ∙ none) in
      subst (λ lines. TellsLines ways start lines held before after)
      (sym (ap (heard_by ways.is_open) (lines_of-last bytes ∙ ap (λ begun. (split_of bytes).ended ++ last_line begun) nothing ∙ append-nil (split_of bytes).ended)
      ∙ heard-all ways.is_open (split_of bytes).ended has.none_closes))
      has.told

  -- ---- a stop

  -- between two lines
  pub StopsAmong-between : (start : S) (bytes more line : List ℕ) (held : S) (before after : Option (List ℕ))
      → HasTold ways start bytes line held before after → StopsAmong ways start (lines_of (bytes ++ more)) held before after
  StopsAmong-between start bytes more line held before after has =
      record {
        front = (split_of bytes).ended;
        taken = None;
        left = onto (split_of bytes).begun (lines_of more);
        lines_are = sym (lines_of-append bytes more);
        none_closes = has.none_closes;
        between = held;
        written = after;
        told = has.told;
        stops = (refl, Keeps-refl after);
      }

  -- at the line that has begun, where it ends
  stops_at : (start : S) (bytes line : List ℕ) (rest : List (List ℕ)) (held new : S) (before mid after : Option (List ℕ))
      → HasTold ways start bytes line held before mid → StopsAtLine ways held line new mid after
      → StopsAmong ways start ((split_of bytes).ended ++ ((split_of bytes).begun ∷ rest)) new before after
  stops_at start bytes line rest held new before mid after has (inl kept) =
      record {
        front = (split_of bytes).ended;
        taken = None;
        left = (split_of bytes).begun ∷ rest;
        lines_are = refl;
        none_closes = has.none_closes;
        between = held;
        written = mid;
        told = has.told;
        stops = kept;
      }
  stops_at start bytes line rest held new before mid after has (inr tells) =
      record {
        front = (split_of bytes).ended;
        taken = Some (split_of bytes).begun;
        left = rest;
        lines_are = refl;
        none_closes = has.none_closes;
        between = held;
        written = mid;
        told = has.told;
        stops = front-kept held (split_of bytes).begun new mid after (subst (λ line. TellsFront ways held line new mid after) has.line_is tells);
      }

  -- at a line that LF ends
  pub StopsAmong-end : (start : S) (bytes more line : List ℕ) (held new : S) (before mid after : Option (List ℕ))
      → HasTold ways start bytes line held before mid → StopsAtLine ways held line new mid after
      → StopsAmong ways start (lines_of (bytes ++ 10 ∷ more)) new before after
  StopsAmong-end start bytes more line held new before mid after has stops =
      subst (λ lines. StopsAmong ways start lines new before after) (sym (lines_of-ended bytes more))
      (stops_at start bytes line (lines_of more) held new before mid after has stops)

  -- at the last line
  pub StopsAmong-last : (start : S) (bytes line : List ℕ) (held new : S) (before mid after : Option (List ℕ)) → line ≢ []
      → HasTold ways start bytes line held before mid → StopsAtLine ways held line new mid after
      → StopsAmong ways start (lines_of bytes) new before after
  StopsAmong-last start bytes line held new before mid after some has stops =
      subst (λ lines. StopsAmong ways start lines new before after) (sym (lines_of-begun bytes line some has.line_is))
      (stops_at start bytes line [] held new before mid after has stops)
