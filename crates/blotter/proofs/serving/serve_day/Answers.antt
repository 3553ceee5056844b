use Rattle.std.proofs.Common.{◌∙◌, rules}
use Rattle.blot_types.proofs.GeneralLemmas.{on-ok}
use Rattle.blot_stream.proofs.ResultLemmas.{ok-says}
use Rattle.blotter.specs.Rounds.{ServesRound}
use Rattle.blotter.proofs.ServingLemmas.{at-end, err-has, is-served, round-adds, tells-all}
use Rattle.blotter.proofs.serving.serve_day.Goals as goal

pub returns-clause-served : goal.returns-clause-served
returns-clause-served g c =
    let remaining = g.N.Stream.Read.remaining in
    let contents = g.N.Stream.Write.contents in
    on-ok c.ended.result c.ended.ensures.ok (λ all.
    let both = ok-says _ all.0 c.both-served.ensures.ok in
    is-served g.O.Write.contents (ServesRound g.row.R.Denot remaining contents c.args.slots.now) c.args.rounds.rounds (g.I.Read.remaining c.args.input.now) c.in_ok-desk.seats.items _ _
    c.args.rounds.sessions c.args.day _ _ _ _ (round-adds remaining contents c.args.slots.now) (c.in_ok-desk.ensures.count ∙ c.from.ensures) c.in_ok-desk.ensures.empty
    (ok-says _ both.0 c.serve_beside-seats.ensures.served) (tells-all _ _ _ _ _ _ c.in_ok-desk.ensures.operator both.1 c.serve_beside-seats.ensures.gives.3)
    (ok-says _ all.1 c.report-reported.ensures.reported) (search rules))

pub returns-clause-read_to_the_end : goal.returns-clause-read_to_the_end
returns-clause-read_to_the_end g c =
    on-ok c.ended.result c.ended.ensures.ok (λ all.
    let both = ok-says _ all.0 c.both-served.ensures.ok in
    at-end g.I.Read.remaining _ _ (ok-says _ both.1 c.serve_beside-seats.ensures.gives.2) (search rules))

pub returns-clause-no_connection : goal.returns-clause-no_connection
returns-clause-no_connection g c = λ none.
    let remaining = g.N.Stream.Read.remaining in
    let contents = g.N.Stream.Write.contents in
    let round = ServesRound g.row.R.Denot remaining contents c.args.slots.now in
    let all = c.ended.ensures.connection none c.report-reported.ensures.connected in
    let both = c.both-served.ensures.connection all.0 in
    let fewer = err-has _ _ both.0 c.serve_beside-seats.ensures.fewer in (
      at-end g.I.Read.remaining _ _ (ok-says _ both.1 c.serve_beside-seats.ensures.gives.2) (search rules),
      (
        fewer.0,
        fewer.1,
        is-served g.O.Write.contents round fewer.0 (g.I.Read.remaining c.args.input.now) c.in_ok-desk.seats.items _ _ c.args.rounds.sessions c.args.day _ _ _ _
            (round-adds remaining contents c.args.slots.now) (c.in_ok-desk.ensures.count ∙ c.from.ensures) c.in_ok-desk.ensures.empty fewer.2
            (tells-all _ _ _ _ _ _ c.in_ok-desk.ensures.operator both.1 c.serve_beside-seats.ensures.gives.3) (ok-says _ all.1 c.report-reported.ensures.reported) (search rules),
      ),
    )
