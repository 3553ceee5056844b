use Rattle.std.proofs.Common.{sym, subst}
use Rattle.blot_tag.proofs.FrameLemmas.{frame_kept}
use Rattle.blot_tag.specs.Views.{text_of}
use Rattle.blot_desk.specs.declared.event.Event.TheVariants.{Submit}
use Rattle.blot_lanes.proofs.broker_seat.BrokerSeat.submit.Goals as goal

pub submit_with-requires : goal.submit_with-requires
submit_with-requires g c told =
    subst (λ text. g.K.Keeper.spells text (Submit c.args.command)) (sym c.text.ensures.text)
    (g.met.K.FrameKeeper.spells_frames (text_of c.args.frame.now) c.args.command (frame_kept (text_of c.args.frame.now) c.args.frame.now.valid) c.requires)
