use Rattle.std.proofs.Common.{◌≡◌, Some, Ok, subst, List, [], ◌∷◌}
use Rattle.blot_time.specs.Moment.{moment_of}
use Rattle.blot_tag.specs.Fields.{Item, field_of}
use Rattle.blot_desk.specs.declared.event.Event.{Event}
use Rattle.blot_diary.specs.declared.kept.Content.TheVariants.{Asked}
use Rattle.blot_diary.specs.Keeping.{kept_of}
use Rattle.blot_diary.specs.Own.{event_of_line}
use Rattle.blot_diary.specs.Records.{asked_message, keeps}
use Rattle.blot_diary.proofs.RecordLemmas.{asked_kept, if_made}
use Rattle.blot_diary.proofs.records.asked_record.Goals as goal

pub returns-clause-kept : goal.returns-clause-kept
returns-clause-kept c =
    let own = c.args.own.now in
    let operator = c.args.operator.now in
    let number = c.args.number in
    let now = c.args.now in
    let line = c.args.line.now in
    let text = c.bytes.ensures.text in
    let sent = subst (λ text. moment_of text ≡ Ok now) c.write-sent.ensures.text c.write-sent.ensures.read_again in
    let header = field_of 34 c.as_bytes.result.now ∷ field_of 52 c.write-sent.result ∷ field_of 58 line ∷ [] in
    let raw = field_of 49 c.bytes.result.now ∷ field_of 56 c.bytes-2.result.now ∷ field_of 50 c.bytes-3.result.now ∷ header in
    if_made (asked_message own operator number now line) raw
    (λ (items : List Item). (event : Event) → event_of_line line ≡ Some event → kept_of items ≡ Some (keeps own own number (Asked operator event)))
    (λ text. text.items) c.write.result
    (λ valid event asks. asked_kept own operator number now line event c.bytes-3.ensures.text
    (record { from = text; target = text; low = c.requires.low; high = c.requires.high; sent = sent }) valid asks)
    c.write.ensures.text c.write.ensures.valid c.write.ensures.fields (cc)
