use Rattle.std.proofs.Common.{ap, arith, ◌∙◌}
use Rattle.blot_tag.specs.Walking.{rest_of}
use Rattle.blot_gateway.proofs.GreetingLemmas.{reads-more, greets-last}
use Rattle.blot_gateway.proofs.greeting.greet_within.Goals as goal

pub returns-in-Err-clause-greeted : goal.returns-in-Err-clause-greeted
returns-in-Err-clause-greeted g c =
    greets-last g.W.Wire.does c.args.own c.args.reads c.in-Err.ended c.args.wire.now c.loop.wire c.feed_once.new.wire c.args.reader.now.unread c.loop.reader.unread
    c.pass_over.new.reader.unread c.feed_once.new.reader.unread c.loop.counter
    (c.in-Ok-pass_over.ensures ∙ ap (λ reading. rest_of reading.unread) c.peek.ensures.kept) c.loop.invariant.0
    (rw c.in_default-peek.is at c.peek.ensures.peeks) c.in-Err.ensures.err (omega (arith, c.loop-test.true))

pub loop-preserved : goal.loop-preserved
loop-preserved g c = (
  reads-more g.W.Wire.does c.args.wire.now c.loop.wire c.feed_once.new.wire c.args.reader.now.unread c.loop.reader.unread
      c.pass_over.new.reader.unread c.feed_once.new.reader.unread c.loop.counter
      (c.in-Ok-pass_over.ensures ∙ ap (λ reading. rest_of reading.unread) c.peek.ensures.kept) c.loop.invariant.0
      (rw c.in_default-peek.is at c.peek.ensures.peeks) c.in-Ok-feed_once.ensures.ok,
  omega (arith, c.loop.invariant.1, c.feed_once.ensures.failures),
  c.loop.invariant.2,
)
