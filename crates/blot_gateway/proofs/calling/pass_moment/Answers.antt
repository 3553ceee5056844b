use Rattle.blot_types.proofs.GeneralLemmas.{if-err}
use Rattle.blot_session.specs.Runs.Call.{Tick}
use Rattle.blot_gateway.specs.Sending.{Halts, Halted}
use Rattle.blot_gateway.proofs.StepLemmas.{halted, idle-delivers}
use Rattle.blot_gateway.proofs.calling.pass_moment.Goals as goal

pub returns-in-Ok-clause-err : goal.returns-in-Ok-clause-err
returns-in-Ok-clause-err g c =
    let does = g.W.Wire.does in
    let after = c.on_tick.new.self in
    if-err (λ stop. Halts does stop c.args.wire.now c.deref.result.now c.carry_out.new.wire)
    (Halted does g.C.Clock.ticks Tick c.args.wire.now c.args.clock.now c.args.session.now c.carry_out.new.wire c.now-now.new.self after)
    c.carry_out.result c.carry_out.ensures.err
    (λ stop halts. halted does g.C.Clock.ticks stop Tick c.args.wire.now c.carry_out.new.wire c.args.clock.now c.now-now.new.self c.args.session.now after c.now-now.result
    c.deref.result.now c.in-Ok.actions.items c.deref.ensures.value c.in-Ok.ensures.ok c.now-now.ensures halts
    (idle-delivers after c.in-Ok.actions.items c.in-Ok.ensures.awaits c.on_tick.ensures.idle))
