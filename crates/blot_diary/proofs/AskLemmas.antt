-- No event of a text only asks.
use Rattle.std.proofs.Common.{◌≡◌, ℤ, ℕ, Bool, true, false, not, List, [], ◌∷◌, map, Option, Some, None, Result, Ok, Err, refl, sym, ap, ◌∙◌, cond, if◌then◌else◌, filter, filter_map, option_and_then}
use Rattle.std.specs.List.{cons_option}
use Rattle.blot_time.specs.declared.fault.TimeFault.{TimeFault}
use Rattle.blot_tag.specs.Fields.{Item, fields_of}
use Rattle.blot_tag.specs.Walking.{frames_of}
use Rattle.blot_types.specs.declared.command.Command.{Command}
use Rattle.blot_fields.specs.Decoding.{decoded}
use Rattle.blot_fields.specs.First.{first_text, first_value}
use Rattle.blot_fields.specs.declared.{fault.FieldFault.FieldFault, message.Message.Message}
use Rattle.blot_desk.specs.declared.event.Event.{Event}
use Rattle.blot_desk.specs.Keeping.{is_ask}
use Rattle.blot_console.specs.declared.{ask.Ask.Ask, ask.Ask.TheVariants.Step, fault.LineFault.LineFault}
use Rattle.blot_console.specs.Parsing.{parsed}
use Rattle.blot_diary.specs.declared.{kept.Kept.Kept, kept.Noted.Noted, kinds.Kind.Kind}
use Rattle.blot_diary.specs.declared.kinds.Kind.TheVariants as kinds
use Rattle.blot_diary.specs.Diary.{desk_events}
use Rattle.blot_diary.specs.Events.{BringsNoAsk, events_in, noted_by, noted_of}
use Rattle.blot_diary.specs.Keeping.{content_by, content_under, kept_in, kept_of, kept_said}
use Rattle.blot_diary.specs.Own.{asked_by, beginning_by, event_asked, event_of_line, numbers_by, wrapped_by}

abbrev event_of : Noted → Event
event_of noted = noted.event

-- an event, if there is one, doesn't only ask
abbrev IsNoAsk : Option Noted → Type 0
IsNoAsk None = Unit {0}
IsNoAsk (Some noted) = is_ask noted.event ≡ false

-- that of a line
step-no-ask : (test : Bool) (event found : Event) → is_ask event ≡ test → (if test then None else Some event) ≡ Some found → is_ask found ≡ false
step-no-ask true event found is made = absurd cc
step-no-ask false event found is made =
    let same : found ≡ event = cc in ap is_ask same ∙ is

asked-no-ask : (ask : Result Ask LineFault) (found : Event) → event_asked ask ≡ Some found → is_ask found ≡ false
asked-no-ask (Ok (Step event)) found made = step-no-ask (is_ask event) event found refl made
asked-no-ask (Ok ask) found made = absurd cc
asked-no-ask (Err fault) found made = absurd cc

line-no-ask : (line : Option (List ℕ)) (found : Event) → option_and_then event_of_line line ≡ Some found → is_ask found ≡ false
line-no-ask None found made = absurd cc
line-no-ask (Some line) found made = asked-no-ask (parsed line) found made

by-operator : (from : List ℕ) (operator : Option (List ℕ)) (event : Option Event) → ((found : Event) → event ≡ Some found → is_ask found ≡ false)
    → IsNoAsk (noted_by from (asked_by operator event))
by-operator from (Some operator) (Some event) so = so event refl
by-operator from (Some operator) None so = tt
by-operator from None (Some event) so = tt
by-operator from None None so = tt

-- that of a frame
beginning-no-ask : (from : List ℕ) (day : Option (Result ℤ TimeFault)) → IsNoAsk (noted_by from (beginning_by day))
beginning-no-ask from (Some (Ok day)) = tt
beginning-no-ask from (Some (Err fault)) = tt
beginning-no-ask from None = tt

wrapped-no-ask : (from : List ℕ) (message : Option (List ℕ)) → IsNoAsk (noted_by from (wrapped_by message))
wrapped-no-ask from (Some message) = tt
wrapped-no-ask from None = tt

numbers-no-ask : (from : List ℕ) (expected next : Option ℕ) → IsNoAsk (noted_by from (numbers_by expected next))
numbers-no-ask from (Some expected) (Some next) = tt
numbers-no-ask from (Some expected) None = tt
numbers-no-ask from None (Some next) = tt
numbers-no-ask from None None = tt

under-no-ask : (from : List ℕ) (kind : Kind) (items : List Item) → IsNoAsk (noted_by from (content_under kind items))
under-no-ask from kinds.Beginning items = beginning-no-ask from _
under-no-ask from kinds.Wrapped items = wrapped-no-ask from _
under-no-ask from kinds.Numbers items = numbers-no-ask from _ _
under-no-ask from kinds.Asked items = by-operator from (first_text 50 items) _ (line-no-ask (first_value 58 items))
under-no-ask from kinds.Message items = tt

content-no-ask : (from : List ℕ) (command : Option Command) (kind : Kind) (items : List Item) → IsNoAsk (noted_by from (content_by command kind items))
content-no-ask from (Some command) kind items = refl
content-no-ask from None kind items = under-no-ask from kind items

said-no-ask : (said : Result Message FieldFault) (items : List Item) → IsNoAsk (option_and_then noted_of (kept_said said items))
said-no-ask (Ok message) items = content-no-ask message.head.sender _ _ items
said-no-ask (Err fault) items = tt

kept-no-ask : (items : List Item) → IsNoAsk (option_and_then noted_of (kept_of items))
unfolding kept_of
kept-no-ask items = said-no-ask (decoded items) items

told-no-ask : (noted : Option Noted) → IsNoAsk noted → (found : Noted) → noted ≡ Some found → is_ask found.event ≡ false
told-no-ask None quiet found is = absurd cc
told-no-ask (Some noted) quiet found is = ap (λ (noted : Noted). is_ask noted.event) (sym same) ∙ quiet
  where
    same : noted ≡ found
    same = cc

pub brings_no_ask : (items : List Item) → BringsNoAsk items
brings_no_ask items noted is = told-no-ask (option_and_then noted_of (kept_of items)) (kept-no-ask items) noted is

-- ---- those of all frames

abbrev kept_event : Event → Bool
kept_event event = not (is_ask event)

noted-stays : (noted : Option Noted) (rest : List Noted) → IsNoAsk noted → filter kept_event (map event_of rest) ≡ map event_of rest
    → filter kept_event (map event_of (cons_option noted rest)) ≡ map event_of (cons_option noted rest)
noted-stays None rest quiet stays = stays
noted-stays (Some noted) rest quiet stays =
    ap (λ test. cond (not test) (noted.event ∷ filter kept_event (map event_of rest)) (filter kept_event (map event_of rest))) quiet
    ∙ ap (λ rest. noted.event ∷ rest) stays

kept-stays : (kept : Option Kept) (rest : List Kept) → IsNoAsk (option_and_then noted_of kept)
    → filter kept_event (map event_of (filter_map noted_of rest)) ≡ map event_of (filter_map noted_of rest)
    → filter kept_event (map event_of (filter_map noted_of (cons_option kept rest))) ≡ map event_of (filter_map noted_of (cons_option kept rest))
kept-stays None rest quiet stays = stays
kept-stays (Some kept) rest quiet stays = noted-stays (noted_of kept) (filter_map noted_of rest) quiet stays

frames-stay : (frames : List (List ℕ)) → filter kept_event (map event_of (events_in frames)) ≡ map event_of (events_in frames)
frames-stay [] = refl
frames-stay (frame ∷ frames) = kept-stays (kept_of (fields_of frame)) (kept_in frames) (kept-no-ask (fields_of frame)) (frames-stay frames)

pub all-kept : (text : List ℕ) → filter (λ event. not (is_ask event)) (desk_events text) ≡ desk_events text
all-kept text = frames-stay (frames_of text)
