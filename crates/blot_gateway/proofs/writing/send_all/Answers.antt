use Rattle.std.proofs.Common.{arith}
use Rattle.blot_types.proofs.GeneralLemmas.{on_err}
use Rattle.blot_gateway.proofs.SendingLemmas.{writes-action, front-action}
use Rattle.blot_gateway.proofs.writing.send_all.Goals as goal

pub returns-in_err-send-clause-err : goal.returns-in_err-send-clause-err
returns-in_err-send-clause-err g c =
    on_err c.from_residual.result
    (front-action g.W.Wire.does c.args.actions.now c.loop-action.action-index c.action-item.result c.args.wire.now c.loop-action.wire c.send.new.wire
    (omega arith) c.action-item.is c.loop-action.invariant.0 c.in_err-send.ensures.err)

pub loop-action-preserved : goal.loop-action-preserved
loop-action-preserved g c = (
  writes-action g.W.Wire.does c.args.actions.now c.loop-action.action-index c.action-item.result c.args.wire.now c.loop-action.wire c.send.new.wire
      (omega arith) c.action-item.is c.loop-action.invariant.0 c.in_ok-send.ensures.ok,
  omega (arith, c.loop-action.invariant.1, c.send.ensures.failures),
)
