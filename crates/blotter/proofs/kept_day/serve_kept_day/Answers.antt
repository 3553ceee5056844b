use Rattle.std.proofs.Common.{arith}
use Rattle.blot_types.proofs.GeneralLemmas.{if-err}
use Rattle.blot_journal.specs.File.{text_of}
use Rattle.blot_diary.specs.Diary.{desk_events}
use Rattle.blotter.proofs.KeepingLemmas.{kept-day, some-first}
use Rattle.blotter.proofs.kept_day.serve_kept_day.Goals as goal

pub serve_recovered-requires-clause-some : goal.serve_recovered-requires-clause-some
serve_recovered-requires-clause-some g c = λ _.
    omega (arith, c.in-Ok.recovered.operators.named.ok, some-first _ c.in-Ok.recovered.operators.named.items c.in-Ok.ensures.first)

pub returns-in-Ok-clause-served : goal.returns-in-Ok-clause-served
returns-in-Ok-clause-served g c =
    kept-day c.args.own (text_of (g.D.Device.seen c.args.device)) c.in-Ok.diary.text (λ last. desk_events last.text) c.serve_recovered.result c.in-Ok.recovered.operators c.of-operator.result _
    c.args.day _ _ c.in-Ok.ensures.text c.in-Ok.ensures.operators c.in-Ok.ensures.first c.of-operator.ensures c.serve_recovered.ensures.served

pub returns-in-Ok-clause-fault : goal.returns-in-Ok-clause-fault
returns-in-Ok-clause-fault g c =
    if-err _ _ c.serve_recovered.result c.serve_recovered.ensures.fault (λ refused says. says c.args.peers.now (g.D.Device.seen c.args.device))

pub returns-in-Err-clause-fault : goal.returns-in-Err-clause-fault
returns-in-Err-clause-fault g c = (_, c.in-Err.ensures.fault)

pub returns-in-Ok-clause-durable : goal.returns-in-Ok-clause-durable
returns-in-Ok-clause-durable g c = c.serve_recovered.ensures.durable

pub returns-in-Ok-clause-now : goal.returns-in-Ok-clause-now
returns-in-Ok-clause-now g c = c.serve_recovered.ensures.now

pub returns-in-Ok-clause-ever : goal.returns-in-Ok-clause-ever
returns-in-Ok-clause-ever g c = c.serve_recovered.ensures.ever
