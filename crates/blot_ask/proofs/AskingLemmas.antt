-- The lines of an answer, and turns, one after the other.
use Rattle.std.proofs.Common.{◌≡◌, ℕ, Bool, true, false, List, [], ◌∷◌, ◌++◌, map, Option, Some, None, Result, Ok, Err, refl, sym, ap, subst, ◌∙◌, ◌&&◌, not, IfSome, IsErrAnd, flat_map, append_assoc, append-nil}
use Rattle.std.specs.List.{list_all}
use Rattle.std.specs.Io.KnownBytes.{Appends, Consumes, IsAtEnd}
use Rattle.std.proofs.KnownBytes.{Appends-kept, Appends-nil, Appends-trans, Consumes-nil, Consumes-trans, prepend_known-nil}
use Rattle.std.proofs.lemmas.Bool.{and_from, and_parts, not-true}
use Rattle.std.proofs.lemmas.List.{map-append}
use Rattle.std.proofs.lemmas.List.Folds.{list_all-append}
use Rattle.std.proofs.lemmas.Grind.{flat_map-append}
use Rattle.blot_stream.specs.Texts.{AppendsFront, AppendsFrontOf, AppendsOf, lines_of}
use Rattle.blot_stream.proofs.ResultLemmas.{same-fault}
use Rattle.blot_ask.specs.Answers.{is_answer, is_answer_from, is_complete}
use Rattle.blot_ask.specs.Asking.{IsAnsweredBy, IsAsked, IsTalked, IsTurnedAwayBy, TakesLines, Talks, TalksOn, TellsAnswer, TellsLine, Turn, came_of, is_turn, naming, prompt_by, request_of, requests_of, sent_by, sent_of, shown_of}
use Rattle.blot_ask.specs.Lines.{TakesInput, is_blank, text_of, unread, with_end}
use Rattle.blot_ask.specs.Typed.{typed}
use Rattle.blot_ask.proofs.AheadLemmas.{ahead_read}

-- whether lines are the beginning of an answer, which isn't complete with them
abbrev pub goes_on : List ℕ → Bool → List (List ℕ) → Bool
goes_on asked is_first [] = true
goes_on asked is_first (line ∷ lines) = not (is_complete asked is_first line) && goes_on asked false lines

-- whether the line behind some is the first
abbrev pub first_behind : Bool → List (List ℕ) → Bool
first_behind is_first [] = is_first
first_behind is_first (line ∷ lines) = false

never_first : (lines : List (List ℕ)) → first_behind false lines ≡ false
never_first [] = refl
never_first (line ∷ lines) = refl

whole : (asked : List ℕ) (is_first : Bool) (lines : List (List ℕ)) (line : List ℕ) → goes_on asked is_first lines ≡ true
    → is_complete asked (first_behind is_first lines) line ≡ true → is_answer_from asked is_first (lines ++ line ∷ []) ≡ true
whole asked is_first [] line on last = rw last refl
whole asked is_first (first ∷ lines) line on last =
    let on = and_parts (not (is_complete asked is_first first)) _ on in
    rw (not-true _ on.0) (whole asked false lines line on.1 (ap (λ is_first. is_complete asked is_first line) (never_first lines) ∙ last))

goes_on-push : (asked : List ℕ) (is_first : Bool) (lines : List (List ℕ)) (line : List ℕ) → goes_on asked is_first lines ≡ true
    → is_complete asked (first_behind is_first lines) line ≡ false → goes_on asked is_first (lines ++ line ∷ []) ≡ true
goes_on-push asked is_first [] line on more = rw more refl
goes_on-push asked is_first (first ∷ lines) line on more =
    let on = and_parts (not (is_complete asked is_first first)) _ on in
    and_from _ _ on.0 (goes_on-push asked false lines line on.1 (ap (λ is_first. is_complete asked is_first line) (never_first lines) ∙ more))

first_behind-push : (is_first : Bool) (lines : List (List ℕ)) (line : List ℕ) → first_behind is_first (lines ++ line ∷ []) ≡ false
first_behind-push is_first [] line = refl
first_behind-push is_first (first ∷ lines) line = refl

text_of-push : (lines : List (List ℕ)) (line : List ℕ) → text_of (lines ++ line ∷ []) ≡ text_of lines ++ with_end line
text_of-push lines line = flat_map-append with_end lines (line ∷ []) ∙ ap (λ more. text_of lines ++ more) (append-nil (with_end line))

-- the lines of an answer that are told so far
pub record Telling (asked : List ℕ) (is_first : Bool) (came came_now told told_now : Option (List ℕ)) : Type 0 where
  pub lines : List (List ℕ)
  pub on : goes_on asked true lines ≡ true
  pub first : is_first ≡ first_behind true lines
  pub comes : Consumes came came_now (text_of lines)
  pub tells : Appends told told_now (text_of lines)

pub at_first : (asked : List ℕ) (came told : Option (List ℕ)) → Telling asked true came came told told
at_first asked came told = record { lines = []; on = refl; first = refl; comes = Consumes-nil came; tells = Appends-nil told }

pub at_last : (asked : List ℕ) (is_first is_last : Bool) (came came_now came_then told told_now told_then : Option (List ℕ)) → is_last ≡ true
    → Telling asked is_first came came_now told told_now → TellsLine asked is_first is_last came_now came_then told_now told_then
    → TellsAnswer asked came came_then told told_then
at_last asked is_first is_last came came_now came_then told told_now told_then is so_far more = record {
  answer = so_far.lines ++ more.line ∷ [];
  whole = whole asked true so_far.lines more.line so_far.on (ap (λ is_first. is_complete asked is_first more.line) (sym so_far.first) ∙ sym more.last ∙ is);
  comes = subst (Consumes came came_then) (sym (text_of-push so_far.lines more.line)) (Consumes-trans came came_now came_then _ _ so_far.comes more.comes);
  tells = subst (Appends told told_then) (sym (text_of-push so_far.lines more.line)) (Appends-trans told told_now told_then _ _ so_far.tells more.tells);
}

pub one_more : (asked : List ℕ) (is_first is_last : Bool) (came came_now came_then told told_now told_then : Option (List ℕ)) → is_last ≡ false
    → Telling asked is_first came came_now told told_now → TellsLine asked is_first is_last came_now came_then told_now told_then
    → Telling asked false came came_then told told_then
one_more asked is_first is_last came came_now came_then told told_now told_then is so_far more = record {
  lines = so_far.lines ++ more.line ∷ [];
  on = goes_on-push asked true so_far.lines more.line so_far.on (ap (λ is_first. is_complete asked is_first more.line) (sym so_far.first) ∙ sym more.last ∙ is);
  first = sym (first_behind-push true so_far.lines more.line);
  comes = subst (Consumes came came_then) (sym (text_of-push so_far.lines more.line)) (Consumes-trans came came_now came_then _ _ so_far.comes more.comes);
  tells = subst (Appends told told_then) (sym (text_of-push so_far.lines more.line)) (Appends-trans told told_now told_then _ _ so_far.tells more.tells);
}

-- ---- turns

-- a line that is taken and passed over
takes_one : (more : Bool) (input input_after : Option (List ℕ)) (line : List ℕ) → more ≡ true → TakesInput more input input_after line → TakesLines input input_after (line ∷ [])
takes_one true None input_after line is taken = tt
takes_one true (Some bytes) input_after line is taken = taken
takes_one false input input_after line is taken = absurd cc

pub passed_over :
    (prompts more : Bool) (input input_after sent came told told_after : Option (List ℕ)) (line : List ℕ) → more ≡ true
    → TakesInput more input input_after line → is_blank line ≡ true → Appends told told_after (prompt_by prompts)
    → TalksOn true prompts input input_after sent sent came came told told_after
passed_over prompts more input input_after sent came told told_after line is taken blank shown = (
  record { line = line; answer = [] },
  record {
    taken = takes_one more input input_after line is taken;
    answered = rw blank refl;
    asks = rw blank (Appends-nil sent);
    answers = Consumes-nil came;
    shows = subst (Appends told told_after) (sym (append-nil _ ∙ append-nil (prompt_by prompts))) shown;
  },
)

-- a line that is asked and answered
pub asked_of :
    (prompts more : Bool) (input input_after sent sent_after came came_after told told_now told_after : Option (List ℕ)) (line asked : List ℕ) → more ≡ true
    → TakesInput more input input_after line → is_blank line ≡ false → Appends told told_now (prompt_by prompts)
    → asked ≡ typed line → Appends sent sent_after (with_end asked) → TellsAnswer asked came came_after told_now told_after
    → TalksOn true prompts input input_after sent sent_after came came_after told told_after
asked_of prompts more input input_after sent sent_after came came_after told told_now told_after line asked is taken blank shown is_asked asks tells = (
  record { line = line; answer = tells.answer },
  record {
    taken = takes_one more input input_after line is taken;
    answered = rw blank (and_from _ true (ap (λ asked. is_answer asked tells.answer) (sym is_asked) ∙ tells.whole) refl);
    asks = rw blank (subst (Appends sent sent_after) (ap with_end is_asked ∙ sym (append-nil (with_end (typed line)))) asks);
    answers = subst (Consumes came came_after) (sym (append-nil (text_of tells.answer))) tells.comes;
    shows = subst (Appends told told_after) (sym (append-nil (prompt_by prompts ++ text_of tells.answer)))
        (Appends-trans told told_now told_after _ _ shown tells.tells);
  },
)

-- turns behind turns
takes_lines : (input input_now input_after : Option (List ℕ)) (lines more : List (List ℕ)) → TakesLines input input_now lines → TakesLines input_now input_after more
    → TakesLines input input_after (lines ++ more)
takes_lines None input_now input_after lines more first then = tt
takes_lines (Some bytes) None input_after lines more first then = absurd (cc first.1)
takes_lines (Some bytes) (Some now) input_after lines more first then = (
  then.0,
  then.1,
  first.2 ∙ ap (λ rest. lines ++ rest) (ap lines_of (sym (some_is now first.0 first.1)) ∙ then.2) ∙ sym (append_assoc lines more (lines_of then.0)),
)
  where
    given : Option (List ℕ) → List ℕ
    given None = []
    given (Some bytes) = bytes

    some_is : (a b : List ℕ) → Some a ≡ Some b → a ≡ b
    some_is a b is = ap given is

all_turns : (turns more : List Turn) → list_all is_turn turns ≡ true → list_all is_turn more ≡ true → list_all is_turn (turns ++ more) ≡ true
all_turns turns more all all_more = list_all-append is_turn turns more ∙ and_from _ _ all all_more

talks_more :
    (prompts : Bool) (turns more : List Turn) (input input_now input_after sent sent_now sent_after came came_now came_after told told_now told_after : Option (List ℕ))
    → Talks prompts turns input input_now sent sent_now came came_now told told_now → Talks prompts more input_now input_after sent_now sent_after came_now came_after told_now told_after
    → Talks prompts (turns ++ more) input input_after sent sent_after came came_after told told_after
talks_more prompts turns more input input_now input_after sent sent_now sent_after came came_now came_after told told_now told_after first then = record {
  taken = subst (TakesLines input input_after) (sym (map-append (λ turn. turn.line) turns more)) (takes_lines input input_now input_after _ _ first.taken then.taken);
  answered = all_turns turns more first.answered then.answered;
  asks = subst (Appends sent sent_after) (sym (flat_map-append sent_of turns more)) (Appends-trans sent sent_now sent_after _ _ first.asks then.asks);
  answers = subst (Consumes came came_after) (sym (flat_map-append came_of turns more)) (Consumes-trans came came_now came_after _ _ first.answers then.answers);
  shows = subst (Appends told told_after) (sym (flat_map-append (shown_of prompts) turns more)) (Appends-trans told told_now told_after _ _ first.shows then.shows);
}

-- the turns so far
abbrev pub TalksSoFar : Bool → Option (List ℕ) → Option (List ℕ) → Option (List ℕ) → Option (List ℕ) → Option (List ℕ) → Option (List ℕ) → Option (List ℕ) → Option (List ℕ) → Type 0
TalksSoFar prompts input input_now sent sent_now came came_now told told_now =
    (turns : List Turn) × Talks prompts turns input input_now sent sent_now came came_now told told_now

takes_none : (input : Option (List ℕ)) → TakesLines input (unread [] input) []
takes_none None = tt
takes_none (Some bytes) = (bytes, refl, refl)

pub nothing_said : (prompts : Bool) (input sent came told : Option (List ℕ)) (here : List ℕ) → here ≡ [] → TalksSoFar prompts input (unread here input) sent sent came came told told
nothing_said prompts input sent came told here is = (
  [],
  record {
    taken = subst (λ here. TakesLines input (unread here input) []) (sym is) (takes_none input);
    answered = refl;
    asks = Appends-nil sent;
    answers = Consumes-nil came;
    shows = Appends-nil told;
  },
)

pub one_turn_more :
    (prompts more : Bool) (input input_now input_after sent sent_now sent_after came came_now came_after told told_now told_after : Option (List ℕ)) → more ≡ true
    → TalksSoFar prompts input input_now sent sent_now came came_now told told_now
    → TalksOn more prompts input_now input_after sent_now sent_after came_now came_after told_now told_after
    → TalksSoFar prompts input input_after sent sent_after came came_after told told_after
one_turn_more prompts false input input_now input_after sent sent_now sent_after came came_now came_after told told_now told_after is so_far on = absurd cc
one_turn_more prompts true input input_now input_after sent sent_now sent_after came came_now came_after told told_now told_after is so_far on =
    (so_far.0 ++ on.0 ∷ [], talks_more prompts so_far.0 (on.0 ∷ []) input input_now input_after sent sent_now sent_after came came_now came_after told told_now told_after so_far.1 on.1)

all_lines : (input input_now : Option (List ℕ)) (lines : List (List ℕ)) → TakesLines input input_now lines → IsAtEnd input_now → IfSome input (λ bytes. lines ≡ lines_of bytes)
all_lines None input_now lines taken over = tt
all_lines (Some bytes) None lines taken over = absurd (cc taken.1)
all_lines (Some bytes) (Some now) lines taken over =
    sym (taken.2 ∙ ap (λ rest. lines ++ lines_of rest) (sym (some_is now taken.0 taken.1) ∙ over) ∙ append-nil lines)
  where
    given : Option (List ℕ) → List ℕ
    given None = []
    given (Some bytes) = bytes

    some_is : (a b : List ℕ) → Some a ≡ Some b → a ≡ b
    some_is a b is = ap given is

pub talked :
    (prompts more : Bool) (input input_now input_after sent sent_now sent_after came came_now came_after told told_now told_after : Option (List ℕ)) → more ≡ false
    → TalksSoFar prompts input input_now sent sent_now came came_now told told_now
    → TalksOn more prompts input_now input_after sent_now sent_after came_now came_after told_now told_after
    → IsTalked prompts input sent sent_after came came_after told told_after × IsAtEnd input_after
talked prompts true input input_now input_after sent sent_now sent_after came came_now came_after told told_now told_after is so_far ends = absurd cc
talked prompts false input input_now input_after sent sent_now sent_after came came_now came_after told told_now told_after is so_far ends = (
  record {
    turns = so_far.0;
    lines = all_lines input input_now _ so_far.1.taken ends.over;
    answered = so_far.1.answered;
    asks = Appends-kept sent sent_now sent_after _ so_far.1.asks ends.asks;
    answers = subst (Consumes came came_after) (append-nil (flat_map came_of so_far.0)) (Consumes-trans came came_now came_after _ [] so_far.1.answers ends.answers);
    shows = Appends-trans told told_now told_after _ _ so_far.1.shows ends.shows;
  },
  ends.left,
)

-- behind a name that was let in
pub asked_to_the_end :
    (name : List ℕ) (prompts : Bool) (input sent sent_now sent_after came came_after told told_after : Option (List ℕ)) (first here left : List ℕ)
    (came_now : Option (List ℕ)) → first ≡ []
    → IsAnsweredBy (naming name) name sent sent_now (unread first came) (unread here came_now)
    → IsTalked prompts input sent_now sent_after (unread here came_now) (unread left came_after) told told_after
    → IsAsked name prompts input sent sent_after came came_after told told_after
asked_to_the_end name prompts input sent sent_now sent_after came came_after told told_after first here left came_now is in_by talks = record {
  turns = talks.turns;
  lines = talks.lines;
  answered = talks.answered;
  asks = Appends-trans sent sent_now sent_after _ _ in_by.0 talks.asks;
  dropped = left;
  answers = ahead_read came came_after left _
      (subst (λ from. Consumes from (unread left came_after) (with_end (naming name) ++ flat_map came_of talks.turns)) (ap (λ first. unread first came) is ∙ prepend_known-nil came)
      (Consumes-trans (unread first came) (unread here came_now) (unread left came_after) _ _ in_by.1 talks.answers));
  shows = talks.shows;
}

-- or wasn't
pub turned_away :
    (answer name : List ℕ) (sent sent_after came came_after : Option (List ℕ)) (first left : List ℕ) → first ≡ []
    → IsAnsweredBy answer name sent sent_after (unread first came) (unread left came_after) → IsTurnedAwayBy answer name sent sent_after came came_after
turned_away answer name sent sent_after came came_after first left is by = (
  by.0,
  (
    left,
    ahead_read came came_after left _
        (subst (λ from. Consumes from (unread left came_after) (with_end answer)) (ap (λ first. unread first came) is ∙ prepend_known-nil came) by.1),
  ),
)

-- a fault that is passed on
pub passed : {T E : Type 0} (result : Result T E) (residual fault : E) → IsErrAnd result (λ passed. passed ≡ residual) → result ≡ Err fault → residual ≡ fault
passed (Ok x) residual fault is same = absurd is
passed (Err e) residual fault is same = sym is ∙ same-fault e fault same

-- ---- what is sent

front_none : (before : Option (List ℕ)) (text : List ℕ) → AppendsFront before before text
front_none before text = ([], text, refl, Appends-nil before)

pub front_all : (before after : Option (List ℕ)) (text : List ℕ) → Appends before after text → AppendsFront before after text
front_all before after text all = (text, [], append-nil text, all)

front_more : (before after : Option (List ℕ)) (text more : List ℕ) → AppendsFront before after text → AppendsFront before after (text ++ more)
front_more before after text more front =
    (front.0, front.1 ++ more, sym (append_assoc front.0 front.1 more) ∙ ap (λ text. text ++ more) front.2, front.3)

front_behind : (before now after : Option (List ℕ)) (first more : List ℕ) → Appends before now first → AppendsFront now after more → AppendsFront before after (first ++ more)
front_behind before now after first more all front =
    (first ++ front.0, front.1, append_assoc first front.0 front.1 ∙ ap (λ more. first ++ more) front.2, Appends-trans before now after first front.0 all front.3)

pub nothing_sent : (input sent : Option (List ℕ)) → AppendsFrontOf requests_of input sent sent
nothing_sent None sent = tt
nothing_sent (Some bytes) sent = front_none sent (requests_of bytes)

line_sent : (input input_after sent sent_after : Option (List ℕ)) (line : List ℕ)
    → TakesInput true input input_after line → AppendsFront sent sent_after (request_of line) → AppendsFrontOf requests_of input sent sent_after
line_sent None input_after sent sent_after line taken front = tt
line_sent (Some bytes) input_after sent sent_after line taken front =
    subst (AppendsFront sent sent_after) (sym (ap (flat_map request_of) taken.2)) (front_more sent sent_after (request_of line) _ front)

asks_by : (line asked : List ℕ) → is_blank line ≡ false → asked ≡ typed line → request_of line ≡ with_end asked
asks_by line asked blank is = rw blank (ap with_end (sym is))

pub asked_in_part : (more : Bool) (input input_after sent sent_after : Option (List ℕ)) (line asked : List ℕ) → more ≡ true
    → TakesInput more input input_after line → is_blank line ≡ false → asked ≡ typed line → AppendsFront sent sent_after (with_end asked)
    → AppendsFrontOf requests_of input sent sent_after
asked_in_part false input input_after sent sent_after line asked is taken blank is_asked front = absurd cc
asked_in_part true input input_after sent sent_after line asked is taken blank is_asked front =
    line_sent input input_after sent sent_after line taken (subst (AppendsFront sent sent_after) (sym (asks_by line asked blank is_asked)) front)

sent_in_turns : (turns : List Turn) → flat_map sent_of turns ≡ flat_map request_of (map (λ turn. turn.line) turns)
sent_in_turns [] = refl
sent_in_turns (turn ∷ turns) = ap (λ more. request_of turn.line ++ more) (sent_in_turns turns)

pub turns_sent :
    (prompts : Bool) (input input_now sent sent_now sent_after came came_now told told_now : Option (List ℕ))
    → TalksSoFar prompts input input_now sent sent_now came came_now told told_now → AppendsFrontOf requests_of input_now sent_now sent_after
    → AppendsFrontOf requests_of input sent sent_after
turns_sent prompts None input_now sent sent_now sent_after came came_now told told_now so_far front = tt
turns_sent prompts (Some bytes) None sent sent_now sent_after came came_now told told_now so_far front = absurd (cc so_far.1.taken.1)
turns_sent prompts (Some bytes) (Some now) sent sent_now sent_after came came_now told told_now so_far front =
    let taken = so_far.1.taken in
    let rest : flat_map request_of (lines_of now) ≡ flat_map request_of (lines_of taken.0) = ap (λ now. flat_map request_of (lines_of now)) (some_is now taken.0 taken.1) in
    let all : flat_map request_of (lines_of bytes) ≡ flat_map sent_of so_far.0 ++ flat_map request_of (lines_of now) =
    ap (flat_map request_of) taken.2 ∙ flat_map-append request_of (map (λ turn. turn.line) so_far.0) (lines_of taken.0)
    ∙ ap (λ first. first ++ flat_map request_of (lines_of taken.0)) (sym (sent_in_turns so_far.0)) ∙ ap (λ rest. flat_map sent_of so_far.0 ++ rest) (sym rest) in
    subst (AppendsFront sent sent_after) (sym all) (front_behind sent sent_now sent_after _ _ so_far.1.asks front)
  where
    given : Option (List ℕ) → List ℕ
    given None = []
    given (Some bytes) = bytes

    some_is : (a b : List ℕ) → Some a ≡ Some b → a ≡ b
    some_is a b is = ap given is

-- behind the name
pub name_in_part : (name : List ℕ) (input sent sent_after : Option (List ℕ)) → AppendsFront sent sent_after (with_end (naming name)) → AppendsFrontOf (sent_by name) input sent sent_after
name_in_part name None sent sent_after front = tt
name_in_part name (Some bytes) sent sent_after front = front_more sent sent_after (with_end (naming name)) (requests_of bytes) front

pub lines_in_part : (name : List ℕ) (input sent sent_now sent_after : Option (List ℕ)) → Appends sent sent_now (with_end (naming name))
    → AppendsFrontOf requests_of input sent_now sent_after → AppendsFrontOf (sent_by name) input sent sent_after
lines_in_part name None sent sent_now sent_after first front = tt
lines_in_part name (Some bytes) sent sent_now sent_after first front = front_behind sent sent_now sent_after (with_end (naming name)) (requests_of bytes) first front

pub sent_in_all :
    (name : List ℕ) (prompts : Bool) (input sent sent_after came came_after told told_after : Option (List ℕ))
    → IsAsked name prompts input sent sent_after came came_after told told_after → AppendsOf (sent_by name) input sent sent_after
sent_in_all name prompts None sent sent_after came came_after told told_after asked = tt
sent_in_all name prompts (Some bytes) sent sent_after came came_after told told_after asked =
    subst (λ more. Appends sent sent_after (with_end (naming name) ++ more)) (sent_in_turns asked.turns ∙ ap (flat_map request_of) asked.lines) asked.asks
