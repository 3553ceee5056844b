use Rattle.std.proofs.Common.{◌≡◌, Some, Ok, subst, sym, rules, List, [], ◌∷◌}
use Rattle.blot_time.specs.Moment.{moment_of}
use Rattle.blot_tag.specs.Fields.{Item, field_of}
use Rattle.blot_tag.specs.Frames.{IsFrame}
use Rattle.blot_tag.specs.Views.{text_of}
use Rattle.blot_tag.proofs.FrameLemmas.{frame_kept}
use Rattle.blot_diary.specs.declared.kept.Content.TheVariants.{Wrapped}
use Rattle.blot_diary.specs.Keeping.{kept_of}
use Rattle.blot_diary.specs.Records.{keeps, wrapped_message}
use Rattle.blot_diary.proofs.RecordLemmas.{frame_follows, if_made, wrapped_kept}
use Rattle.blot_diary.proofs.records.wrapped_record.Goals as goal

pub write-requires-clause-follow : goal.write-requires-clause-follow
write-requires-clause-follow c =
    let valid = frame_kept (text_of c.args.frame.now) c.args.frame.now.valid in
    let frame = frame_follows c.as_bytes-2.result.now c.text-text.result.now (search rules) (subst IsFrame (sym c.text-text.ensures.text) valid) in
    (search rules, (search rules, (search rules, (search rules, (search rules, (frame, tt))))))

pub returns-clause-kept : goal.returns-clause-kept
returns-clause-kept c =
    let own = c.args.own.now in
    let peer = c.args.peer.now in
    let number = c.args.number in
    let now = c.args.now in
    let frame = text_of c.args.frame.now in
    let sent = subst (λ text. moment_of text ≡ Ok now) c.write-sent.ensures.text c.write-sent.ensures.read_again in
    let behind = field_of 95 c.as_bytes-2.result.now ∷ field_of 96 c.text-text.result.now ∷ [] in
    let raw = field_of 49 c.bytes.result.now ∷ field_of 56 c.bytes-2.result.now ∷ field_of 34 c.as_bytes.result.now ∷ field_of 52 c.write-sent.result ∷
    behind in
    if_made (wrapped_message own peer number now frame) raw (λ (items : List Item). kept_of items ≡ Some (keeps own peer number Wrapped)) (λ text. text.items)
    c.write.result
    (wrapped_kept own peer number now frame (frame_kept frame c.args.frame.now.valid)
    (record { from = c.bytes.ensures.text; target = c.bytes-2.ensures.text; low = c.requires.low; high = c.requires.high; sent = sent }))
    c.write.ensures.text c.write.ensures.valid c.write.ensures.fields (cc)
