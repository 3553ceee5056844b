use Rattle.std.proofs.Common.{◌≤◌, length, take, drop, arith, subst, take-add, take-append-drop, length-drop}
use Rattle.std.specs.Io.KnownBytes.{Appends}
use Rattle.std.proofs.KnownBytes.{Appends-trans, Appends-kept}
use Rattle.std.proofs.lemmas.List.{take_rest}
use Rattle.blot_stream.proofs.transfer.write_all.Goals as goal

pub loop-preserved : goal.loop-preserved
loop-preserved g c =
    let text = c.args.text.now in
    let rest = take_rest text c.loop.written in
    let within = subst (λ left. c.in-Ok.count ≤ length left) rest c.in-Ok.ensures.within in
    let more = subst (λ left. Appends (g.W.Write.contents c.loop.output) (g.W.Write.contents c.write_piece.new.output) (take c.in-Ok.count left)) rest c.in-Ok.ensures.ok in (
      omega (arith, within, length-drop c.loop.written text, c.loop.invariant.0),
      rw take-add (Appends-trans _ _ _ _ _ c.loop.invariant.1 more),
    )

pub returns-clause-err : goal.returns-clause-err
returns-clause-err g c =
    (take c.loop.written c.args.text.now, drop c.loop.written c.args.text.now, take-append-drop c.loop.written c.args.text.now, c.loop.invariant.1)

pub returns-in_default-clause-err : goal.returns-in_default-clause-err
returns-in_default-clause-err g c = (
  take c.loop.written c.args.text.now,
  drop c.loop.written c.args.text.now,
  take-append-drop c.loop.written c.args.text.now,
  Appends-kept _ _ _ _ c.loop.invariant.1 c.in_default.ensures.err,
)
