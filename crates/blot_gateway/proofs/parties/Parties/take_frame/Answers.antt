use Rattle.std.proofs.Common.{[], ◌∷◌, sym}
use Rattle.blot_tag.specs.Views.{text_of}
use Rattle.blot_types.proofs.GeneralLemmas.{on-ok, if-err}
use Rattle.blot_session.specs.Runs.Call.{Frame}
use Rattle.blot_gateway.specs.Hearing.{word_in}
use Rattle.blot_gateway.specs.Progress.{Handles, HandlesLast}
use Rattle.blot_gateway.specs.Serving.{parties}
use Rattle.blot_gateway.specs.Serving.Due.{Came}
use Rattle.blot_gateway.specs.Sending.{Submitted, SubmittedLast}
use Rattle.blot_gateway.proofs.RunLemmas.{frame-call, runs-one, ends-one, runs-pair, ends-pair}
use Rattle.blot_gateway.proofs.parties.Parties.take_frame.Goals as goal

pub returns-in-Ok-Some-clause-ok : goal.returns-in-Ok-Some-clause-ok
returns-in-Ok-Some-clause-ok g c =
    let text = text_of c.args.frame.now in
    let before = c.args.self.now in
    let mid = parties c.give_frame.new.wire c.give_frame.new.clock c.give_frame.new.sink c.give_frame.new.session in
    let after = c.submit.new.self in
    let comes = (rw c.in-Ok-Some.field-0-is at c.in-Ok-Some.ensures.ok) in
    on-ok {P = Submitted g.W.Wire.does g.C.Clock.ticks g.S.FrameSink.takes c.in-Ok-Some.command mid after}
    {Q = Handles g.W.Wire.does g.C.Clock.ticks g.S.FrameSink.takes before (Came text ∷ []) after} c.submit.result c.submit.ensures.ok
    (λ submitted more. runs-pair g.W.Wire.does g.C.Clock.ticks g.S.FrameSink.takes c.in-Ok-Some.command text before mid after more
    c.requires (sym (rw c.in-Ok-Some.field-0-is at c.in-Ok-Some.ensures.awaits)) comes submitted)

pub returns-in-Ok-Some-clause-err : goal.returns-in-Ok-Some-clause-err
returns-in-Ok-Some-clause-err g c =
    let text = text_of c.args.frame.now in
    let before = c.args.self.now in
    let mid = parties c.give_frame.new.wire c.give_frame.new.clock c.give_frame.new.sink c.give_frame.new.session in
    let after = c.submit.new.self in
    let comes = (rw c.in-Ok-Some.field-0-is at c.in-Ok-Some.ensures.ok) in
    if-err (SubmittedLast g.W.Wire.does g.C.Clock.ticks g.S.FrameSink.takes c.in-Ok-Some.command mid after)
    (HandlesLast g.W.Wire.does g.C.Clock.ticks g.S.FrameSink.takes before (Came text ∷ []) after) c.submit.result c.submit.ensures.err
    (λ stop submitted more. ends-pair g.W.Wire.does g.C.Clock.ticks g.S.FrameSink.takes stop c.in-Ok-Some.command text before mid after more
    c.requires (sym (rw c.in-Ok-Some.field-0-is at c.in-Ok-Some.ensures.awaits)) comes submitted)

pub returns-in-Ok-None-clause-ok : goal.returns-in-Ok-None-clause-ok
returns-in-Ok-None-clause-ok g c =
    let text = text_of c.args.frame.now in
    let before = c.args.self.now in
    let after = parties c.give_frame.new.wire c.give_frame.new.clock c.give_frame.new.sink c.give_frame.new.session in
    let comes = (rw c.in-Ok-None.field-0-is at c.in-Ok-None.ensures.ok) in
    λ more. runs-one g.W.Wire.does g.C.Clock.ticks g.S.FrameSink.takes (Frame text) before after (Came text ∷ []) more (λ now memory. word_in before.session (Frame text now memory))
    (frame-call text before.session c.requires) comes.called comes.heard

pub returns-in-Err-clause-err : goal.returns-in-Err-clause-err
returns-in-Err-clause-err g c =
    let text = text_of c.args.frame.now in
    let before = c.args.self.now in
    let after = parties c.give_frame.new.wire c.give_frame.new.clock c.give_frame.new.sink c.give_frame.new.session in
    let comes = c.in-Err.ensures.err in
    λ more. ends-one g.W.Wire.does g.C.Clock.ticks g.S.FrameSink.takes c.in-Err.stop (Frame text) before after (Came text ∷ []) more (λ now memory. word_in before.session (Frame text now memory))
    (frame-call text before.session c.requires) comes.halted comes.heard
