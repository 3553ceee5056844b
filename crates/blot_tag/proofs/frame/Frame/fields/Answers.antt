use Rattle.std.proofs.Common.{None, length, ap, arith}
use Rattle.blot_tag.proofs.FieldLemmas.{length-items_behind}
use Rattle.blot_tag.proofs.FieldTextLemmas.{EndsWithSoh-frame, frame_fields-stand, StandIn-slices, StandIn-whole}
use Rattle.blot_tag.proofs.FrameLemmas.{frame_kept, length-frame-le}
use Rattle.blot_tag.proofs.frame.Frame.fields.Goals as goal

pub of-requires : goal.of-requires
of-requires c = EndsWithSoh-frame c.args.self.now.text.now (frame_kept c.args.self.now.text.now c.args.self.now.valid)

pub returns-clause-few : goal.returns-clause-few
returns-clause-few c =
    let text = c.args.self.now.text.now in
    omega (arith, ap length c.of.ensures, length-items_behind None text, length-frame-le text (frame_kept text c.args.self.now.valid))

pub returns-clause-front : goal.returns-clause-front
returns-clause-front c =
    let stand = frame_fields-stand c.args.self.now.text.now _ (frame_kept _ c.args.self.now.valid) c.of.ensures in
    record { behind = stand.rest; whole = stand.whole }

pub returns-clause-whole : goal.returns-clause-whole
returns-clause-whole c =
    StandIn-whole c.args.self.now.text.now _ (frame_fields-stand c.args.self.now.text.now _ (frame_kept _ c.args.self.now.valid) c.of.ensures)

pub returns-clause-slices : goal.returns-clause-slices
returns-clause-slices c =
    StandIn-slices c.args.self.now.text.now _ (frame_fields-stand c.args.self.now.text.now _ (frame_kept _ c.args.self.now.valid) c.of.ensures)

pub returns-clause-ends : goal.returns-clause-ends
returns-clause-ends c = (frame_fields-stand c.args.self.now.text.now _ (frame_kept _ c.args.self.now.valid) c.of.ensures).ends

pub returns-clause-valid : goal.returns-clause-valid
returns-clause-valid c = frame_kept c.args.self.now.text.now c.args.self.now.valid
