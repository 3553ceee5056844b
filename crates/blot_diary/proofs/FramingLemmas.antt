-- A line's record spells its event.
use Rattle.std.proofs.Common.{◌≡◌, ℕ, List, Option, Some, None, Result, Ok, Err, ap, IfOk, IfSome, option_map, option_and_then}
use Rattle.blot_tag.specs.Fields.{fields_of}
use Rattle.blot_tag.specs.Frames.{IsFrame}
use Rattle.blot_desk.specs.declared.event.Event.{Event}
use Rattle.blot_desk.specs.Keeping.{IsSpelled}
use Rattle.blot_diary.specs.declared.{kept.Content.TheVariants.Asked, kept.Noted.Noted}
use Rattle.blot_diary.specs.Diary.{event_in}
use Rattle.blot_diary.specs.Events.{noted_of}
use Rattle.blot_diary.specs.Keeping.{kept_of}
use Rattle.blot_diary.specs.Own.{event_of_line}
use Rattle.blot_diary.specs.Records.{keeps}

pub line_spelled : {V E : Type 0} (items : V → List ℕ) (made : Result (Option V) E) (line own operator : List ℕ) (number : ℕ) (event : Event) → event_of_line line ≡ Some event
    → IfOk made (λ made. IfSome made (λ text. IsFrame (items text)))
    → IfOk made (λ made. IfSome made (λ text. (event : Event) → event_of_line line ≡ Some event
    → kept_of (fields_of (items text)) ≡ Some (keeps own own number (Asked operator event))))
    → IfOk made (λ made. IfSome made (λ text. IsSpelled (λ text event. IsFrame text × (event_in text ≡ Some event)) (items text) event))
line_spelled items (Ok (Some text)) line own operator number event asks valid kept = λ asked.
    (valid, ap (λ kept. option_map (λ (noted : Noted). noted.event) (option_and_then noted_of kept)) (kept event asks))
line_spelled items (Ok None) line own operator number event asks valid kept = tt
line_spelled items (Err fault) line own operator number event asks valid kept = tt
