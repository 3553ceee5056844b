use Rattle.std.proofs.Common.{rules, subst}
use Rattle.blot_gateway.specs.Serving.{IsCounted}
use Rattle.blot_gateway.specs.Wires.{hands}
use Rattle.blot_gateway.proofs.LentLemmas.{same-behind, served-lent}
use Rattle.blot_gateway.proofs.serving.serve_session_within.Goals as goal

pub returns-clause-served : goal.returns-clause-served
returns-clause-served g c =
    let after = c.serve-ended.new.self in
    let happens = c.serve-ended.ensures.served.within.ends.happens in
    let wire = same-behind g.W.Wire.does _ after.wire _ happens.wire in
    let clock = same-behind g.C.Clock.ticks _ after.clock _ happens.clock in
    let sink = same-behind (hands g.S.Sink.takes) _ after.sink _ happens.sink in
    served-lent g.W.Wire.does g.C.Clock.ticks (hands g.S.Sink.takes) c.args.reads c.serve-ended.result _ after c.args.reader.now.unread c.args.session.now _ _ _
    c.replace.ensures.value (search (rules, wire)) (search (rules, clock)) (search (rules, sink)) c.serve-ended.ensures.served

pub returns-clause-counted : goal.returns-clause-counted
returns-clause-counted g c =
    let named = same-behind g.W.Wire.does _ c.serve-ended.new.self.wire _ c.serve-ended.ensures.served.within.ends.happens.wire in
    subst (λ wire. IsCounted (g.W.Wire.failures c.args.wire.now) (g.W.Wire.failures wire) c.serve-ended.result) (search (rules, named)) c.serve-ended.ensures.counted
