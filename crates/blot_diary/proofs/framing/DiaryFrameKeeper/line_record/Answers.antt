use Rattle.std.proofs.Common.{◌≡◌, Some, rules}
use Rattle.blot_diary.specs.Own.{event_of_line}
use Rattle.blot_diary.proofs.FramingLemmas.{line_spelled}
use Rattle.blot_diary.proofs.framing.DiaryFrameKeeper.line_record.Goals as goal

pub returns-clause-spelled : goal.returns-clause-spelled
returns-clause-spelled g c =
    let asks : event_of_line c.args.line.now ≡ Some c.args.event.now = search rules in
    line_spelled (λ text. text.items) c.asked_record.result c.args.line.now c.args.head.now.own c.args.head.now.party c.args.head.now.number c.args.event.now asks
    c.asked_record.ensures.valid c.asked_record.ensures.kept
