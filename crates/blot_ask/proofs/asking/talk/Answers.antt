use Rattle.blot_types.proofs.GeneralLemmas.{on_err}
use Rattle.blot_ask.proofs.AheadLemmas.{rest_over}
use Rattle.blot_ask.proofs.AskingLemmas.{nothing_said, nothing_sent, one_turn_more, talked, turns_sent}
use Rattle.blot_ask.proofs.asking.talk.Goals as goal

pub loop-init : goal.loop-init
loop-init g c =
    nothing_said c.args.prompts (g.I.Read.remaining c.args.input.now) (g.Q.Write.contents c.args.requests.now) _
    (g.O.Write.contents c.args.output.now) c.in_ok-ahead.ahead c.in_ok-ahead.ensures

pub loop-preserved : goal.loop-preserved
loop-preserved g c = one_turn_more c.args.prompts c.in_ok-more.more _ _ _ _ _ _ _ _ _ _ _ _ c.if-not-more.false c.loop.invariant c.in_ok-more.ensures.talks

pub returns-then-not-more-clause-talked : goal.returns-then-not-more-clause-talked
returns-then-not-more-clause-talked g c = (talked c.args.prompts c.in_ok-more.more _ _ _ _ _ _ _ _ _ _ _ _ c.if-not-more.true c.loop.invariant c.in_ok-more.ensures.talks).0

pub returns-then-not-more-clause-read_to_the_end : goal.returns-then-not-more-clause-read_to_the_end
returns-then-not-more-clause-read_to_the_end g c =
    rest_over c.turn.new.ahead _ (talked c.args.prompts c.in_ok-more.more _ _ _ _ _ _ _ _ _ _ _ _ c.if-not-more.true c.loop.invariant c.in_ok-more.ensures.talks).1

pub returns-in_err-more-clause-fault : goal.returns-in_err-more-clause-fault
returns-in_err-more-clause-fault g c =
    on_err c.from_residual-in_err-more.result (turns_sent c.args.prompts _ _ _ _ _ _ _ _ _ c.loop.invariant c.in_err-more.ensures.fault)

pub returns-clause-fault : goal.returns-clause-fault
returns-clause-fault g c = turns_sent c.args.prompts _ _ _ _ _ _ _ _ _ c.loop.invariant (nothing_sent _ _)
