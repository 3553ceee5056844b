use Rattle.std.proofs.Common.{rules}
use Rattle.blot_types.proofs.GeneralLemmas.{on-ok}
use Rattle.blot_stream.proofs.ResultLemmas.{ok-says}
use Rattle.blotter.proofs.ServingLemmas.{is-open-day, of-some}
use Rattle.blotter.proofs.open_day.serve_open_day.Goals as goal

pub returns-clause-served : goal.returns-clause-served
returns-clause-served g c =
    on-ok c.ended.result c.ended.ensures.ok (λ all.
    let both = ok-says _ all.0 c.both.ensures.ok in
    let reported = ok-says _ all.1 (of-some _ _ _ _ _ _ _ c.report_kept-reported.ensures.reported) in
    is-open-day g.O.Write.contents _ (g.I.Read.remaining c.args.input.now) c.in_ok-served.served.seats.items _ _ _ _ c.args.day _ _ _ _
    c.new-operator.ensures c.of.ensures c.in_ok-desk.ensures.operator (search rules) both.1 c.in_ok-served.ensures.told reported (search rules))

pub returns-clause-read_to_the_end : goal.returns-clause-read_to_the_end
returns-clause-read_to_the_end g c =
    on-ok c.ended.result c.ended.ensures.ok (λ all.
    let both = ok-says _ all.0 c.both.ensures.ok in
    ok-says _ both.1 c.in_ok-served.ensures.read_to_the_end)
