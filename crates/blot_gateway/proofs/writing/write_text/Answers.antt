use Rattle.std.proofs.Common.{◌≤◌, length, arith, subst, length-drop}
use Rattle.std.proofs.lemmas.List.{take_rest}
use Rattle.blot_types.proofs.GeneralLemmas.{on_err}
use Rattle.blot_gateway.proofs.SendingLemmas.{writes-piece, front-piece}
use Rattle.blot_gateway.proofs.writing.write_text.Goals as goal

pub returns-in_err-written-clause-err : goal.returns-in_err-written-clause-err
returns-in_err-written-clause-err g c =
    on_err c.from_residual.result
    (front-piece g.W.Wire.does c.args.text.now c.loop-written.written c.args.wire.now c.loop-written.wire c.write_piece.new.wire (omega arith)
    c.loop-written.invariant.1 c.in_err-written.ensures.err)

pub loop-written-preserved : goal.loop-written-preserved
loop-written-preserved g c =
    let text = c.args.text.now in
    let rest = take_rest text c.loop-written.written in
    let count = c.in_ok-written.field-0 in
    let some = c.in_ok-written.ensures.some in
    let within = subst (λ left. count ≤ length left) rest some.1 in (
      omega (arith, within, length-drop c.loop-written.written text, c.loop-written.invariant.0),
      writes-piece g.W.Wire.does text _ c.loop-written.written count c.args.wire.now c.loop-written.wire c.write_piece.new.wire rest
          c.loop-written.invariant.1 c.in_ok-written.ensures.ok,
      omega (arith, c.loop-written.invariant.2, c.write_piece.ensures.failures),
    )
