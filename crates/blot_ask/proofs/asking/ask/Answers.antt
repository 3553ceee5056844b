use Rattle.std.proofs.Common.{Err, ap, codes}
use Rattle.blot_types.proofs.GeneralLemmas.{on_err, on-ok}
use Rattle.blot_stream.proofs.ResultLemmas.{on-err}
use Rattle.blot_ask.proofs.AskingLemmas.{asked_to_the_end, lines_in_part, name_in_part, passed, sent_in_all, turned_away}
use Rattle.blot_ask.proofs.asking.ask.Goals as goal

pub returns-in_err-enter-clause-taken : goal.returns-in_err-enter-clause-taken
returns-in_err-enter-clause-taken g c = λ same.
    turned_away (codes "taken") c.args.name.now _ _ _ (g.A.Read.remaining c.enter.new.answers) c.in_ok-came.came c.enter.new.came c.in_ok-came.ensures
    (c.in_err-enter.ensures.taken (ap Err (passed c.from_residual-in_err-enter.result _ _ c.from_residual-in_err-enter.ensures.1 same)))

pub returns-in_err-enter-clause-full : goal.returns-in_err-enter-clause-full
returns-in_err-enter-clause-full g c = λ same.
    turned_away (codes "full") c.args.name.now _ _ _ (g.A.Read.remaining c.enter.new.answers) c.in_ok-came.came c.enter.new.came c.in_ok-came.ensures
    (c.in_err-enter.ensures.full (ap Err (passed c.from_residual-in_err-enter.result _ _ c.from_residual-in_err-enter.ensures.1 same)))

pub returns-clause-asked : goal.returns-clause-asked
returns-clause-asked g c =
    on-ok c.talk.result c.talk.ensures.talked (λ talks.
    asked_to_the_end c.args.name.now c.args.prompts _ _ _ _ _ (g.A.Read.remaining c.talk.new.answers) _ _ c.in_ok-came.came c.enter.new.came c.talk.new.came
    (g.A.Read.remaining c.enter.new.answers) c.in_ok-came.ensures c.in_ok-enter.ensures.let_in talks)

pub returns-in_err-enter-clause-fault : goal.returns-in_err-enter-clause-fault
returns-in_err-enter-clause-fault g c =
    on_err c.from_residual-in_err-enter.result (name_in_part c.args.name.now (g.I.Read.remaining c.args.input.now) _ _ c.in_err-enter.ensures.fault)

pub returns-clause-sent : goal.returns-clause-sent
returns-clause-sent g c =
    on-ok c.talk.result c.talk.ensures.talked (λ talks.
    sent_in_all c.args.name.now c.args.prompts (g.I.Read.remaining c.args.input.now) _ _ _ _ _ _
    (asked_to_the_end c.args.name.now c.args.prompts _ _ _ _ _ (g.A.Read.remaining c.talk.new.answers) _ _ c.in_ok-came.came c.enter.new.came c.talk.new.came
    (g.A.Read.remaining c.enter.new.answers) c.in_ok-came.ensures c.in_ok-enter.ensures.let_in talks))

pub returns-clause-fault : goal.returns-clause-fault
returns-clause-fault g c =
    on-err c.talk.result c.talk.ensures.fault (λ front.
    lines_in_part c.args.name.now (g.I.Read.remaining c.args.input.now) _ _ _ c.in_ok-enter.ensures.let_in.0 front)
