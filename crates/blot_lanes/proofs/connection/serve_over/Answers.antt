use Rattle.std.proofs.Common.{rules}
use Rattle.blot_lanes.proofs.ConnectionLemmas.{greeting-ends, turned-away, served-out}
use Rattle.blot_lanes.proofs.connection.serve_over.Goals as goal

pub returns-in-Err : goal.returns-in-Err
returns-in-Err g c =
    greeting-ends g.W.Wire.does g.C.Clock.ticks g.W.Wire.failures c.args.peers.now c.own.result c.greet_within.result c.in-Err.ended
    c.args.wire c.greet_within.new.wire c.args.clock c.new-reader.result.unread c.greet_within.new.reader.unread c.own.ensures c.in-Err.is c.new-reader.ensures.unread
    c.greet_within.ensures.greeted c.in-Err.ensures.counted

pub returns-in-Err-check_out : goal.returns-in-Err-check_out
returns-in-Err-check_out g c =
    turned-away g.W.Wire.does g.C.Clock.ticks g.W.Wire.failures c.args.peers.now c.own.result c.in-Ok.peer c.greet_within.result c.turned_by.result c.in-Err-check_out.fault
    c.args.wire c.greet_within.new.wire c.args.clock c.new-reader.result.unread c.greet_within.new.reader.unread c.own.ensures c.in-Ok.is c.new-reader.ensures.unread
    c.greet_within.ensures.greeted c.greet_within.ensures.failures c.in-Err-check_out.ensures.err c.turned_by.ensures

pub returns : goal.returns
returns g c =
    served-out g.W.Wire.does g.C.Clock.ticks g.W.Wire.failures c.args.peers.now c.own.result c.in-Ok.peer c.greet_within.result c.serve_until-ended.result
    c.args.wire c.greet_within.new.wire c.serve_until-ended.new.self.wire c.args.clock c.serve_until-ended.new.self.clock c.new-reader.result.unread c.greet_within.new.reader.unread
    c.in-Ok-check_out.out.0 c.serve_until-ended.new.self.session c.new-sink.result c.in-Ok-check_out.out.1 c.serve_until-ended.new.self.sink
    c.own.ensures c.in-Ok.is c.new-reader.ensures.unread
    c.greet_within.ensures.greeted c.greet_within.ensures.failures c.in-Ok-check_out.ensures.waiting c.in-Ok-check_out.ensures.of_peer (search rules) c.new-sink.ensures.submits c.serve_until-ended.ensures.served c.serve_until-ended.ensures.counted
