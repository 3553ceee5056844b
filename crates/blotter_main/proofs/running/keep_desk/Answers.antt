use Rattle.blot_types.proofs.GeneralLemmas.{on-ok}
use Rattle.blot_stream.specs.Texts.{AppendsOf}
use Rattle.blot_capture.specs.Replay.{captured_by}
use Rattle.blot_operator.specs.Operating.{answers_of}
use Rattle.blotter_main.proofs.ResultLemmas.{led-to}
use Rattle.blotter_main.proofs.running.keep_desk.Goals as goal

pub returns-clause-told : goal.returns-clause-told
returns-clause-told g c = on-ok c.answer-answered.result c.answer-answered.ensures.told (λ told. (c.in_ok-held.held, told))

pub returns-clause-captured : goal.returns-clause-captured
returns-clause-captured g c =
    on-ok c.answer-answered.result c.answer-answered.ensures.told (λ told.
    led-to (g.C.Read.remaining c.args.captured.now) c.in_ok-held.held
    (λ frames. captured_by c.args.own c.args.peers.now frames)
    (λ journal. AppendsOf (answers_of journal) (g.R.Read.remaining c.args.input.now) (g.W.Write.contents c.args.output.now) (g.W.Write.contents c.answer-answered.new.output))
    c.in_ok-held.ensures.captured told)
