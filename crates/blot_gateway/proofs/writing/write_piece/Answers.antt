use Rattle.std.proofs.Common.{take}
use Rattle.blot_gateway.proofs.SendingLemmas.{writes-took, writes-refused}
use Rattle.blot_gateway.proofs.writing.write_piece.Goals as goal

pub returns-in-Wrote-clause-ok : goal.returns-in-Wrote-clause-ok
returns-in-Wrote-clause-ok g c = writes-took g.W.Wire.does (take c.in-Wrote.count c.args.text.now) c.args.wire.now c.write_some.new.self c.in-Wrote.ensures.took

pub returns-in-Fault-clause-err : goal.returns-in-Fault-clause-err
returns-in-Fault-clause-err g c = writes-refused g.W.Wire.does c.args.wire.now c.write_some.new.self c.in-Fault.ensures.took
