use Rattle.std.proofs.Common.{◌≡◌, false, None, refl, subst, flat_map}
use Rattle.blot_tag.specs.Views.{text_of}
use Rattle.blot_session.specs.Runs.{bytes_of}
use Rattle.blot_gateway.specs.Sending.{Halts, Writes}
use Rattle.blot_gateway.specs.Serving.{close_in, parties}
use Rattle.blot_gateway.proofs.DeliveredLemmas.{halted-idle}
use Rattle.blot_gateway.proofs.StepLemmas.{comes, comes-last, idle-delivers}
use Rattle.blot_gateway.proofs.calling.give_frame.Goals as goal

pub returns-in-Err-clause-err : goal.returns-in-Err-clause-err
returns-in-Err-clause-err g c =
    let does = g.W.Wire.does in
    let before = parties c.args.wire.now c.args.clock.now c.args.sink.now c.args.session.now in
    let after = parties c.carry_out.new.wire c.now-now.new.self c.decide.new.sink c.decide.new.session in
    let actions = c.in-Ok.actions.items in
    let halts = subst (λ list. Halts does c.in-Err.stop c.args.wire.now list c.carry_out.new.wire) c.deref.ensures.value c.in-Err.ensures.err in
    comes-last does g.C.Clock.ticks g.S.FrameSink.takes c.in-Err.stop (text_of c.args.frame.now) before after
    c.now-now.result c.deref.result.now actions c.deref.ensures.value c.in-Ok.ensures.ok c.now-now.ensures c.in-Err.ensures.err
    (idle-delivers after.session actions c.in-Ok.ensures.awaits (halted-idle does c.in-Err.stop c.args.wire.now c.carry_out.new.wire after.session actions c.in-Ok.ensures.awaits c.in-Ok.ensures.alone halts))
    c.in-Ok.ensures.heard

pub returns-in-Err-clause-idle : goal.returns-in-Err-clause-idle
returns-in-Err-clause-idle g c =
    let does = g.W.Wire.does in
    let halts = subst (λ list. Halts does c.in-Err.stop c.args.wire.now list c.carry_out.new.wire) c.deref.ensures.value c.in-Err.ensures.err in
    halted-idle does c.in-Err.stop c.args.wire.now c.carry_out.new.wire c.decide.new.session c.in-Ok.actions.items c.in-Ok.ensures.awaits c.in-Ok.ensures.alone halts

pub returns-in_default-clause-err : goal.returns-in_default-clause-err
returns-in_default-clause-err g c =
    record {
      halted = record {
        now = c.now-now.result;
        memory = false;
        ticked = c.now-now.ensures;
        session = c.in_default.ensures.err;
        halts = (refl, refl);
        delivers = λ number. refl;
      };
      heard = c.in_default.ensures.unheard;
    }

pub returns-in-Ok-carry_out-clause-ok : goal.returns-in-Ok-carry_out-clause-ok
returns-in-Ok-carry_out-clause-ok g c =
    let does = g.W.Wire.does in
    let actions = c.in-Ok.actions.items in
    let writes = subst (λ list. Writes does c.args.wire.now (flat_map bytes_of list) c.carry_out.new.wire) c.deref.ensures.value c.in-Ok-carry_out.ensures.ok in
    let stays = subst (λ list. close_in list ≡ None) c.deref.ensures.value c.in-Ok-carry_out.ensures.stays in
    let before = parties c.args.wire.now c.args.clock.now c.args.sink.now c.args.session.now in
    let after = parties c.carry_out.new.wire c.now-now.new.self c.decide.new.sink c.decide.new.session in
    comes does g.C.Clock.ticks g.S.FrameSink.takes c.delivered.result (text_of c.args.frame.now) before after c.now-now.result actions
    c.in-Ok.ensures.ok c.now-now.ensures writes stays c.delivered.ensures.command c.in-Ok.ensures.heard

pub returns-in-Ok-carry_out-clause-brought : goal.returns-in-Ok-carry_out-clause-brought
returns-in-Ok-carry_out-clause-brought g c = c.in-Ok.ensures.own c.delivered.result c.delivered.ensures.command
