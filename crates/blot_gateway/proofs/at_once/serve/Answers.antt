use Rattle.blot_gateway.proofs.AtOnceLemmas.{each-served, each-adds}
use Rattle.blot_gateway.proofs.at_once.serve.Goals as goal

pub returns-clause-served : goal.returns-clause-served
returns-clause-served g c =
    each-served g.W.Wire.does g.C.Clock.ticks g.W.Wire.failures c.args.slots.now (λ connection. connection.wire) (λ connection. connection.clock) (λ connection. connection.sink)
    (λ connection. connection.ended) c.args.wires.items c.args.clocks.items c.args.seats.items c.put_endings.new.endings.items c.put_connections.new.connections.items c.deref_mut.result.now
    c.serve_each.new.connections c.put_connections.new.connections.len c.deref_mut.ensures.value c.put_connections.ensures.wires c.put_connections.ensures.clocks c.put_connections.ensures.seats
    c.serve_each.auto.connections c.deref_mut.ensures.len c.serve_each.ensures c.put_endings.ensures

pub returns-clause-submits : goal.returns-clause-submits
returns-clause-submits g c =
    each-adds g.W.Wire.does g.C.Clock.ticks g.W.Wire.failures c.args.slots.now c.args.wires.items c.args.clocks.items c.args.seats.items c.put_endings.new.endings.items
    (returns-clause-served g c)
