use Rattle.std.proofs.Common.{sym}
use Rattle.blot_tag.specs.Views.{text_of}
use Rattle.blot_capture.specs.Sessions.{session_in}
use Rattle.blot_capture.proofs.LookupLemmas.{frame-place}
use Rattle.blot_capture.proofs.sessions.place_for.Goals as goal

pub returns-in-Some-clause-place : goal.returns-in-Some-clause-place
returns-in-Some-clause-place c =
    frame-place c.in-Some.sender.now (text_of c.args.frame.now) c.place_of.new.out.items (session_in c.place_of.new.out.items c.place_of.new.table) c.place_of.result
    (sym c.in-Some.ensures) c.place_of.ensures.place
