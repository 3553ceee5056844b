use Rattle.std.proofs.Common.{◌++◌, Ok, ap, subst, ◌∙◌}
use Rattle.blot_tag.specs.Reading.{Leaves, TakesFirst}
use Rattle.blot_tag.specs.Views.{text_of}
use Rattle.blot_tag.specs.Walking.{frames_of}
use Rattle.blot_capture.specs.Sessions.{taking_of}
use Rattle.blot_capture.proofs.StreamLemmas.{came-first, stopped-frame}
use Rattle.blot_trail.proofs.telling.next_noted.Goals as goal

pub returns-in-Err-clause-err : goal.returns-in-Err-clause-err
returns-in-Err-clause-err c =
    let left = c.next.follows.lender-at-none in
    let frame = text_of c.in-Some.frame in
    let takes : TakesFirst c.args.reader.now frame left =
    subst (λ given. Leaves c.args.reader.now given left) (c.in_ok-frame.was ∙ ap (λ found. Ok found) c.in-Some.is) c.next.follows.holds-at-none in
    let from = taking_of c.args.sessions.now c.args.desk.now in
    λ more.
    stopped-frame c.in-Err.fault from from c.args.reader.now.unread c.args.reader.now left frame more c.take_noted.new.desk takes
    (came-first from (frames_of (c.args.reader.now.unread ++ more))) c.in-Err.ensures.err
