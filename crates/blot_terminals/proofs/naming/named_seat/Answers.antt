use Rattle.blot_terminals.proofs.NamingLemmas.{ok-is, tells-name, tells-none, tells-on}
use Rattle.blot_terminals.proofs.naming.named_seat.Goals as goal

pub loop-init : goal.loop-init
loop-init g c = tells-none (g.O.Write.contents c.args.output.now)

pub returns-in-Ok-Some : goal.returns-in-Ok-Some
returns-in-Ok-Some g c =
    tells-name (g.O.Write.contents c.args.output.now) (g.O.Write.contents c.loop.output) (g.O.Write.contents c.tell-told.new.output) _ c.in_ok-naming.naming c.in_ok-naming.seat
    c.in-Ok-Some.seat c.in-Ok-Some.is-1 c.in_ok-naming.ensures c.loop.invariant (ok-is c.tell-told.result c.in-Ok-Some.field-0-0 c.in-Ok-Some.is-0 c.tell-told.ensures)

pub loop-preserved : goal.loop-preserved
loop-preserved g c =
    tells-on (g.O.Write.contents c.args.output.now) (g.O.Write.contents c.loop.output) (g.O.Write.contents c.tell-told.new.output) _ c.loop.invariant
    (ok-is c.tell-told.result c.in-Ok-None.field-0-0 c.in-Ok-None.is-0 c.tell-told.ensures)
