use Rattle.std.proofs.Common.{subst}
use Rattle.std.specs.Io.KnownBytes.{Appends}
use Rattle.blot_types.proofs.GeneralLemmas.{on_err}
use Rattle.blot_ask.specs.Lines.{with_end}
use Rattle.blot_ask.proofs.AskingLemmas.{front_all}
use Rattle.blot_ask.proofs.asking.enter.Goals as goal

pub returns-in_err-take_answer-clause-fault : goal.returns-in_err-take_answer-clause-fault
returns-in_err-take_answer-clause-fault g c =
    let contents = g.Q.Write.contents in
    on_err c.from_residual-in_err-take_answer.result
    (front_all (contents c.args.requests.now) (contents c.send.new.requests) _
    (subst (λ text. Appends (contents c.args.requests.now) (contents c.send.new.requests) (with_end text)) c.in_ok-naming.ensures c.in_ok-send.ensures.sent))
