use Rattle.std.proofs.Common.{ap, map, sym, ◌∙◌, eqb-true}
use Rattle.std.proofs.lemmas.List.{nil_from_length}
use Rattle.blot_capture.proofs.StreamLemmas.{frames_of-nil}
use Rattle.blot_diary.specs.Diary.{desk_events}
use Rattle.blot_diary.specs.Events.{events_in}
use Rattle.blotter.proofs.kept_day.journal_desk.Goals as goal

pub returns-then-is_empty-clause-events : goal.returns-then-is_empty-clause-events
returns-then-is_empty-clause-events g c =
    let empty = nil_from_length c.args.text.now (eqb-true _ 0 (sym c.is_empty.ensures ∙ c.if-is_empty.true)) in
    c.empty_desk.ensures.events ∙ sym (ap desk_events empty ∙ ap (λ frames. map (λ noted. noted.event) (events_in frames)) frames_of-nil)
