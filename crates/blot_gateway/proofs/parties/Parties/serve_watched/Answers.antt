use Rattle.std.proofs.Common.{[]}
use Rattle.std.proofs.lemmas.Option.{IfSome_then}
use Rattle.blot_tag.specs.Walking.{rest_of}
use Rattle.blot_gateway.specs.Serving.{due_behind}
use Rattle.blot_gateway.proofs.ServingLemmas.{served-reads, ends-unread}
use Rattle.blot_gateway.proofs.StoppingLemmas.{goes-on-behind}
use Rattle.blot_gateway.proofs.parties.Parties.serve_watched.Goals as goal

pub returns-in-Ok-clause-ends : goal.returns-in-Ok-clause-ends
returns-in-Ok-clause-ends g c =
    let a = c.args.self.now in
    let b = c.take_frames.new.self in
    let d = c.serve_reads.new.self in
    IfSome_then c.serve_reads.result c.serve_reads.ensures.ends
    (λ end. served-reads g.W.Wire.does g.C.Clock.ticks g.S.FrameSink.takes c.args.reads end a b d c.args.reader.now.unread c.take_frames.new.reader.unread
    c.in-Ok.ensures.rest c.in-Ok.ensures.ok)

pub returns-in-Ok-clause-goes_on : goal.returns-in-Ok-clause-goes_on
returns-in-Ok-clause-goes_on g c = λ none.
    let a = c.args.self.now in
    let b = c.take_frames.new.self in
    let d = c.serve_reads.new.self in
    goes-on-behind g.W.Wire.does g.C.Clock.ticks g.S.FrameSink.takes c.args.reads a b d c.args.reader.now.unread c.take_frames.new.reader.unread c.serve_reads.new.reader.unread
    c.in-Ok.ensures.rest c.in-Ok.ensures.ok (c.serve_reads.ensures.goes_on none)

pub returns-in-Err-clause-ends : goal.returns-in-Err-clause-ends
returns-in-Err-clause-ends g c =
    let a = c.args.self.now in
    let b = c.take_frames.new.self in
    ends-unread g.W.Wire.does g.C.Clock.ticks g.S.FrameSink.takes c.args.reads c.in-Err.stop _ a b c.args.reader.now.unread c.ended.ensures
    (c.in-Err.ensures.err (due_behind (rest_of c.args.reader.now.unread) []))
